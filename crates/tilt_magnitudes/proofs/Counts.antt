-- How many ticks pass a test.
use Rattle.std.proofs.Common.{◌≡◌, ℕ, zero, suc, ◌+◌, ◌-◌, ◌*◌, ◌/◌, ◌<◌, ◌≤◌, ℤ, pos, ◌+ℤ◌, ◌≤ℤ◌, ◌<ℤ◌, Bool, true, false, ◌||◌, if◌then◌else◌, refl, sym, ap, ◌∙◌, subst, arith}
use Rattle.std.proofs.lemmas.Int.{ints}
use Rattle.std.proofs.Math.Nat.{mod-lt}
use Rattle.tilt_magnitudes.specs.Marks.{HasAtMost, count_behind, in_ticks}

-- 1 where a test holds, else 0
abbrev pub bit : Bool → ℕ
bit holds = if holds then 1 else 0

at_most_one : (holds : Bool) → bit holds ≤ 1
at_most_one true = omega arith
at_most_one false = omega arith

-- no more than the ticks
pub count_all : (test : ℤ → Bool) (tick : ℤ) (n : ℕ) → count_behind test tick n ≤ n
count_all test tick zero = omega arith
count_all test tick (suc n) = let a = at_most_one (test (tick +ℤ pos 1)) in let b = count_all test (tick +ℤ pos 1) n in omega arith

bit_implied : (here there : Bool) → (here ≡ true → there ≡ true) → bit here ≤ bit there
bit_implied true there h = subst (λ b. 1 ≤ bit b) (sym (h refl)) (omega arith)
bit_implied false true h = omega arith
bit_implied false false h = omega arith

-- a test that another one implies
pub count_implied : (f g : ℤ → Bool) → ((tick : ℤ) → f tick ≡ true → g tick ≡ true) → (tick : ℤ) (n : ℕ)
    → count_behind f tick n ≤ count_behind g tick n
count_implied f g h tick zero = omega arith
count_implied f g h tick (suc n) =
    let a = bit_implied (f (tick +ℤ pos 1)) (g (tick +ℤ pos 1)) (h (tick +ℤ pos 1)) in
    let b = count_implied f g h (tick +ℤ pos 1) n in
    omega arith

bit_either : (here there : Bool) → bit (here || there) ≤ bit here + bit there
bit_either true there = omega arith
bit_either false true = omega arith
bit_either false false = omega arith

-- one of two tests
pub count_either : (f g : ℤ → Bool) (tick : ℤ) (n : ℕ) → count_behind (λ t. f t || g t) tick n ≤ count_behind f tick n + count_behind g tick n
count_either f g tick zero = omega arith
count_either f g tick (suc n) =
    let a = bit_either (f (tick +ℤ pos 1)) (g (tick +ℤ pos 1)) in
    let b = count_either f g (tick +ℤ pos 1) n in
    omega arith

next_later : (tick offset : ℤ) → (tick +ℤ pos 1) +ℤ offset ≡ (tick +ℤ offset) +ℤ pos 1
next_later tick offset = omega (arith, ints)

-- a test of other ticks
pub count_shifted : (f : ℤ → Bool) (offset tick : ℤ) (n : ℕ) → count_behind (λ t. f (t +ℤ offset)) tick n ≡ count_behind f (tick +ℤ offset) n
count_shifted f offset tick zero = refl
count_shifted f offset tick (suc n) =
    let e = next_later tick offset in
    (let r = count_shifted f offset (tick +ℤ pos 1) n in λ i. bit (f (e i)) + r i)
    ∙ ap (λ t. bit (f ((tick +ℤ offset) +ℤ pos 1)) + count_behind f t n) e

pub count_none : (f : ℤ → Bool) (tick : ℤ) (n : ℕ) → ((other : ℤ) → tick <ℤ other → other ≤ℤ (tick +ℤ pos n) → f other ≡ false)
    → count_behind f tick n ≡ 0
count_none f tick zero h = refl
count_none f tick (suc n) h =
    (let a = h (tick +ℤ pos 1) (omega (arith, ints)) (omega (arith, ints)) in
    let b = count_none f (tick +ℤ pos 1) n (λ other low high. h other (omega (arith, ints)) (omega (arith, ints))) in
    λ i. bit (a i) + b i)

-- two ticks that pass are so far apart
one_by : (here : Bool) (rest : ℕ) → (here ≡ true → rest ≡ 0) → rest ≤ 1 → bit here + rest ≤ 1
one_by true rest h few = let e = h refl in omega arith
one_by false rest h few = omega arith

pub count_apart : (f : ℤ → Bool) (p : ℕ) → ((a b : ℤ) → f a ≡ true → a <ℤ b → b <ℤ (a +ℤ pos p) → f b ≡ false)
    → (tick : ℤ) (n : ℕ) → n ≤ p → count_behind f tick n ≤ 1
count_apart f p h tick zero few = omega arith
count_apart f p h tick (suc n) few =
    one_by (f (tick +ℤ pos 1)) (count_behind f (tick +ℤ pos 1) n)
    (λ passes. count_none f (tick +ℤ pos 1) n (λ other low high. h (tick +ℤ pos 1) other passes low (omega (arith, ints, few))))
    (count_apart f p h (tick +ℤ pos 1) n (omega arith))

later_by : (tick : ℤ) (m : ℕ) → (tick +ℤ pos 1) +ℤ pos m ≡ tick +ℤ pos (suc m)
later_by tick m = omega (arith, ints)

-- stretches one after another
pub count_joined : (f : ℤ → Bool) (tick : ℤ) (m n : ℕ) → count_behind f tick (m + n) ≡ count_behind f tick m + count_behind f (tick +ℤ pos m) n
count_joined f tick zero n =
    let e : tick ≡ tick +ℤ pos 0 = omega (arith, ints) in
    let z : zero + n ≡ n = omega arith in
    ap (λ k. count_behind f tick k) z ∙ ap (λ t. count_behind f t n) e ∙ omega arith
count_joined f tick (suc m) n =
    let z : suc m + n ≡ suc (m + n) = omega arith in
    let r = count_joined f (tick +ℤ pos 1) m n in
    let e = ap (λ t. count_behind f t n) (later_by tick m) in
    ap (λ k. count_behind f tick k) z ∙ omega (arith, r, e)

count_fewer : (f : ℤ → Bool) (tick : ℤ) (m n : ℕ) → count_behind f tick m ≤ count_behind f tick (m + n)
count_fewer f tick m n = let e = count_joined f tick m n in omega arith

next_stretch : (most k : ℕ) → most * suc k ≡ most + most * k
next_stretch most k = omega arith

-- so many stretches
count_stretches : (f : ℤ → Bool) (most ticks : ℕ) → HasAtMost most ticks f → (k : ℕ) (tick : ℤ) → count_behind f tick (k * ticks) ≤ most * k
count_stretches f most ticks h zero tick = let e : zero * ticks ≡ 0 = omega arith in rw e (omega arith)
count_stretches f most ticks h (suc k) tick =
    let e : suc k * ticks ≡ ticks + k * ticks = omega arith in
    let a = count_joined f tick ticks (k * ticks) in
    let b = count_stretches f most ticks h k (tick +ℤ pos ticks) in
    let c = h tick in
    let d = next_stretch most k in
    rw e (omega arith)

pub count_in_ticks : (f : ℤ → Bool) (most ticks : ℕ) → HasAtMost most ticks f → 0 < ticks → (n : ℕ) → HasAtMost (in_ticks most ticks n) n f
count_in_ticks f most ticks h some n tick =
    let k = n / ticks + 1 in
    let enough : n ≤ k * ticks = (let a = mod-lt n some in omega arith) in
    let e : n + (k * ticks - n) ≡ k * ticks = omega arith in
    let a = count_fewer f tick n (k * ticks - n) in
    let b = count_stretches f most ticks h k tick in
    let c = ap (λ m. count_behind f tick m) e in
    omega (arith, a, b, c)
