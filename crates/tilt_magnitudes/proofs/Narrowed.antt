-- What the result of an analysis says of its parts.
use Rattle.std.proofs.Common.{◌≡◌, ℕ, ◌^◌, ℤ, pos, negsuc, neg_ℤ, ◌≤ℤ◌, ◌<ℤ◌, Bool, true, false, if◌then◌else◌, Option, Some, None, Result, Ok, Err, nat_lt, refl, ◌∙◌, subst, arith}
use Rattle.std.proofs.lemmas.Int.{ints}
use Rattle.std.proofs.lemmas.Bool.Decides.{nat_tests}
use Rattle.tilt_base.specs.Number.{within_64_bits}
use Rattle.tilt_magnitudes.specs.Interval.{Interval, Bounds, BoundsCell}
use Rattle.tilt_magnitudes.specs.Magnitude.{and_then, if_both, narrowed}
use Rattle.tilt_magnitudes.specs.declared.overflow.Overflow.{Overflow}
use Rattle.tilt_units.specs.declared.place.Place.{Place}

pub after : {A B : Type 0} {P : Type 0} (r : Result A Overflow) (next : A → Result B Overflow) (b : B) → and_then r next ≡ Ok b
    → ((a : A) → r ≡ Ok a → next a ≡ Ok b → P) → P
after (Ok a) next b h go = go a refl h
after (Err overflow) next b h go = absurd (cc h)

-- a number that 64 bits hold
record IsHeld (n m : ℤ) : Type 0 where
  same : n ≡ m
  low : neg_ℤ (pos (2 ^ 63)) ≤ℤ n
  high : n <ℤ pos (2 ^ 63)

held_pos : (holds : Bool) (n : ℕ) (m : ℤ) → nat_lt n (2 ^ 63) ≡ holds → (if holds then Some (pos n) else None) ≡ Some m → IsHeld (pos n) m
held_pos true n m e h = record { same = cc h; low = omega (arith, ints); high = grind (arith, ints, nat_tests) }
held_pos false n m e h = absurd (cc h)

held_neg : (holds : Bool) (n : ℕ) (m : ℤ) → nat_lt n (2 ^ 63) ≡ holds → (if holds then Some (negsuc n) else None) ≡ Some m → IsHeld (negsuc n) m
held_neg true n m e h = record { same = cc h; low = grind (arith, ints, nat_tests); high = omega (arith, ints) }
held_neg false n m e h = absurd (cc h)

held : (n m : ℤ) → within_64_bits n ≡ Some m → IsHeld n m
held (pos n) m h = held_pos (nat_lt n (2 ^ 63)) n m refl h
held (negsuc n) m h = held_neg (nat_lt n (2 ^ 63)) n m refl h

-- an interval that 64 bits hold
pub record IsNarrow (i j : Interval) : Type 0 where
  pub same : i ≡ j
  pub low : neg_ℤ (pos (2 ^ 63)) ≤ℤ i.low
  pub high : i.high <ℤ pos (2 ^ 63)

narrow_by : (place : Place) (i j : Interval) (low high : Option ℤ) → within_64_bits i.low ≡ low → within_64_bits i.high ≡ high
    → if_both place i low high ≡ Ok j → IsNarrow i j
narrow_by place i j None high e f h = absurd (cc h)
narrow_by place i j (Some l) None e f h = absurd (cc h)
narrow_by place i j (Some l) (Some u) e f h =
    let a = held i.low l e in
    let b = held i.high u f in
    let made : Interval = record { low = l; high = u } in
    let is : made ≡ j = cc h in
    record {
      same = (λ k. record { low = a.same k; high = b.same k }) ∙ is;
      low = a.low;
      high = b.high;
    }

pub narrow : (place : Place) (i j : Interval) → narrowed place i ≡ Ok j → IsNarrow i j
narrow place i j h = narrow_by place i j (within_64_bits i.low) (within_64_bits i.high) refl refl h

-- what is within the exact interval is within the one that was given
pub kept : (place : Place) (i j : Interval) (cell : Option ℤ) → narrowed place i ≡ Ok j → BoundsCell i cell → BoundsCell j cell
kept place i j cell h f = subst (λ k. BoundsCell k cell) (narrow place i j h).same f

holds_pos : (holds : Bool) (n : ℕ) → nat_lt n (2 ^ 63) ≡ holds → pos n <ℤ pos (2 ^ 63) → (if holds then Some (pos n) else None) ≡ Some (pos n)
holds_pos true n e h = refl
holds_pos false n e h = absurd (grind (arith, ints, nat_tests))

holds_neg : (holds : Bool) (n : ℕ) → nat_lt n (2 ^ 63) ≡ holds → neg_ℤ (pos (2 ^ 63)) ≤ℤ negsuc n
    → (if holds then Some (negsuc n) else None) ≡ Some (negsuc n)
holds_neg true n e h = refl
holds_neg false n e h = absurd (grind (arith, ints, nat_tests))

holds : (z : ℤ) → neg_ℤ (pos (2 ^ 63)) ≤ℤ z → z <ℤ pos (2 ^ 63) → within_64_bits z ≡ Some z
holds (pos n) low high = holds_pos (nat_lt n (2 ^ 63)) n refl high
holds (negsuc n) low high = holds_neg (nat_lt n (2 ^ 63)) n refl low

-- 64 bits hold each number of an interval that they hold
pub number_holds : (place : Place) (i j : Interval) (z : ℤ) → narrowed place i ≡ Ok j → Bounds i z → within_64_bits z ≡ Some z
number_holds place i j z h f =
    let n = narrow place i j h in
    let a = n.low in let b = n.high in let c = f.low in let d = f.high in
    holds z (omega (arith, ints)) (omega (arith, ints))
