-- Numbers within bounds, and lists of them, as words spell them (our own rule).
use Rattle.std.specs.Prelude.{◌≡◌, ◌==◌, ℕ, ℤ, pos, ◌+ℤ◌, ◌≤ℤ◌, List, [], ◌∷◌, Some, ⊤}
use Rattle.std.specs.List.{before_first, after_first}
use Rattle.tilt_base.specs.Number.{integer_spelled}

-- the word spells this number, which is the least or the greatest or lies between them
pub record IsNumber (least greatest : ℤ) (word : List ℕ) (number : ℤ) : Type 0 where
  pub spelled : integer_spelled word ≡ Some number
  pub low : least ≤ℤ number
  pub high : number ≤ℤ greatest

-- the part of a word before its first comma
abbrev pub before_comma : List ℕ → List ℕ
before_comma word = before_first (λ b. b == 44) word

-- the part after it, which is empty if there is no comma
abbrev pub after_comma : List ℕ → List ℕ
after_comma word = after_first (λ b. b == 44) word

-- the word spells these, one or more with commas between them. Each is what its part of the word spells if it is to be no less than a
-- least number. The least number of the next one follows from it
abbrev pub AreListed : {A : Type 0} → (ℤ → List ℕ → A → Type 0) → (A → ℤ) → ℤ → List ℕ → List A → Type 0
AreListed Is least_after least word [] = ⊥
AreListed Is least_after least word (x ∷ []) = Is least word x
AreListed Is least_after least word (x ∷ next ∷ more) =
    Is least (before_comma word) x × AreListed Is least_after (least_after x) (after_comma word) (next ∷ more)

-- the word spells these numbers, one or more with commas between them. The first isn't below the least, and each later one is at least
-- `apart` above the one before it. None is above the greatest
abbrev pub AreRising : (apart least greatest : ℤ) → List ℕ → List ℤ → Type 0
AreRising apart least greatest word numbers =
    AreListed (λ low. IsNumber low greatest) (λ number. number +ℤ apart) least word numbers

-- the word spells these numbers from 0 to the greatest, one or more with commas between them, in any order
abbrev pub AreUpTo : ℕ → List ℕ → List ℕ → Type 0
AreUpTo greatest word numbers =
    AreListed (λ low part number. IsNumber low (pos greatest) part (pos number)) (λ number. pos 0) (pos 0) word numbers

-- numbers of which none is below the least or the one before it, and none above the greatest
abbrev pub RiseFrom : (least greatest : ℤ) → List ℤ → Type 0
RiseFrom least greatest [] = ⊤
RiseFrom least greatest (number ∷ more) = (least ≤ℤ number) × (number ≤ℤ greatest) × RiseFrom number greatest more

-- numbers of which each is above the one before it, none is below the least, and none above the greatest
abbrev pub ClimbFrom : (least greatest : ℤ) → List ℤ → Type 0
ClimbFrom least greatest [] = ⊤
ClimbFrom least greatest (number ∷ more) = (least ≤ℤ number) × (number ≤ℤ greatest) × ClimbFrom (number +ℤ pos 1) greatest more
