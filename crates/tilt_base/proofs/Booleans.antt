-- Laws of `&&`, `||` and tests that std doesn't have.
use Rattle.std.proofs.Common.{◌≡◌, Bool, true, false, ◌||◌, refl}

-- a test holds or it doesn't
pub by_test : (b : Bool) (P : Type 0) → (b ≡ true → P) → (b ≡ false → P) → P
by_test true P h k = h refl
by_test false P h k = k refl

-- none of three is true
pub none_of_three : (a b c : Bool) → (a || b || c) ≡ false → (a ≡ false) × (b ≡ false) × (c ≡ false)
none_of_three true b c h = cc
none_of_three false true c h = cc
none_of_three false false c h = (refl, refl, h)

-- the first of three is true
pub first_true : (a b c : Bool) → a ≡ true → (a || b || c) ≡ true
first_true a b c h = rw h refl

-- the second of three is true
pub second_true : (a b c : Bool) → b ≡ true → (a || b || c) ≡ true
second_true true b c h = refl
second_true false b c h = rw h refl

-- the third of three is true
pub third_true : (a b c : Bool) → c ≡ true → (a || b || c) ≡ true
third_true true b c h = refl
third_true false true c h = refl
third_true false false c h = h

-- one more before what is one of two
pub or_step : (a b c d : Bool) → b ≡ (c || d) → (a || b) ≡ ((a || c) || d)
or_step true b c d is = refl
or_step false b c d is = is

-- one of the two is there already
pub or_again : (a b : Bool) → (a || b) ≡ (a || (a || b))
or_again true b = refl
or_again false b = refl
