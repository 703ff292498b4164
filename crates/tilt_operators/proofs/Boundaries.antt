-- Boundaries in order, and the marks that stand at them.
use Rattle.std.proofs.Common.{◌≡◌, ℤ, pos, ◌+ℤ◌, ◌-ℤ◌, neg_ℤ, ◌≤ℤ◌, ◌<ℤ◌, Bool, true, false, ◌||◌, List, [], ◌∷◌, map, int_lt, if◌then◌else◌, refl, ◌∙◌, arith}
use Rattle.std.specs.Ordering.{int_eq}
use Rattle.std.specs.Prelude.{⊤}
use Rattle.std.proofs.lemmas.Int.{ints}
use Rattle.tilt_base.proofs.Booleans.{or_again, or_step}
use Rattle.tilt_stream.specs.Snap.{Snapshot, InOrder, Touch}
use Rattle.tilt_stream.specs.Stream.{mark_at}
use Rattle.tilt_operators.specs.Lists.{boundaries, with_boundary, merged}

-- in order, each once, and between two bounds
abbrev pub Rise : ℤ → ℤ → List ℤ → Type 0
Rise low high [] = ⊤
Rise low high (b ∷ bs) = (low ≤ℤ b) × (b ≤ℤ high) × Rise (b +ℤ pos 1) high bs

-- whether a tick is the first after one of them
abbrev pub marks_of : List ℤ → ℤ → Bool
marks_of [] tick = false
marks_of (b ∷ bs) tick = int_eq tick (b +ℤ pos 1) || marks_of bs tick

-- wider bounds hold too
pub Rise-wider : (low high from limit : ℤ) (bs : List ℤ) → Rise low high bs → from ≤ℤ low → high ≤ℤ limit → Rise from limit bs
Rise-wider low high from limit [] h below above = tt
Rise-wider low high from limit (b ∷ bs) h below above =
    let a = h.0 in
    let c = h.1 in
    (omega (arith, ints), omega (arith, ints), Rise-wider (b +ℤ pos 1) high (b +ℤ pos 1) limit bs h.2 (omega (arith, ints)) above)

-- at the lower bound or before it there is no mark
pub marks-before : (low high : ℤ) (bs : List ℤ) (tick : ℤ) → Rise low high bs → tick ≤ℤ low → marks_of bs tick ≡ false
marks-before low high [] tick h before = refl
marks-before low high (b ∷ bs) tick h before =
    let a = h.0 in
    let none : int_eq tick (b +ℤ pos 1) ≡ false = grind (arith, ints) in
    rw none (marks-before (b +ℤ pos 1) high bs tick h.2 (omega (arith, ints)))

-- one more
exchanged : (a b x : Bool) → (b || (a || x)) ≡ (a || (b || x))
exchanged true true x = refl
exchanged true false x = refl
exchanged false b x = refl

with_boundary-by : (b c : ℤ) (cs : List ℤ) (tick : ℤ) (less same : Bool) → int_lt b c ≡ less → int_eq b c ≡ same
    → marks_of (with_boundary b cs) tick ≡ (int_eq tick (b +ℤ pos 1) || marks_of cs tick)
    → marks_of (if less then b ∷ c ∷ cs else if same then c ∷ cs else c ∷ with_boundary b cs) tick
    ≡ (int_eq tick (b +ℤ pos 1) || (int_eq tick (c +ℤ pos 1) || marks_of cs tick))
with_boundary-by b c cs tick true same is_less is_same rest = refl
with_boundary-by b c cs tick false true is_less is_same rest =
    let one : b ≡ c = grind (arith, ints) in
    rw one (or_again (int_eq tick (c +ℤ pos 1)) (marks_of cs tick))
with_boundary-by b c cs tick false false is_less is_same rest =
    rw rest (exchanged (int_eq tick (b +ℤ pos 1)) (int_eq tick (c +ℤ pos 1)) (marks_of cs tick))

with_boundary-marks : (b : ℤ) (cs : List ℤ) (tick : ℤ) → marks_of (with_boundary b cs) tick ≡ (int_eq tick (b +ℤ pos 1) || marks_of cs tick)
with_boundary-marks b [] tick = refl
with_boundary-marks b (c ∷ cs) tick =
    with_boundary-by b c cs tick (int_lt b c) (int_eq b c) refl refl (with_boundary-marks b cs tick)

rise-by : (low high b c : ℤ) (cs : List ℤ) (less same : Bool) → int_lt b c ≡ less → int_eq b c ≡ same → low ≤ℤ b → b ≤ℤ high
    → Rise low high (c ∷ cs) → (c <ℤ b → Rise (c +ℤ pos 1) high (with_boundary b cs))
    → Rise low high (if less then b ∷ c ∷ cs else if same then c ∷ cs else c ∷ with_boundary b cs)
rise-by low high b c cs true same is_less is_same above below h rest =
    (above, below, (grind (arith, ints), h.1, h.2))
rise-by low high b c cs false true is_less is_same above below h rest = h
rise-by low high b c cs false false is_less is_same above below h rest = (h.0, h.1, rest (grind (arith, ints)))

with_boundary-rises : (low high b : ℤ) (cs : List ℤ) → low ≤ℤ b → b ≤ℤ high → Rise low high cs → Rise low high (with_boundary b cs)
with_boundary-rises low high b [] above below h = (above, below, tt)
with_boundary-rises low high b (c ∷ cs) above below h =
    rise-by low high b c cs (int_lt b c) (int_eq b c) refl refl above below h
    (λ later. with_boundary-rises (c +ℤ pos 1) high b cs (omega (arith, ints)) below h.2)

-- the boundaries of both
pub merged-marks : (bs cs : List ℤ) (tick : ℤ) → marks_of (merged bs cs) tick ≡ (marks_of bs tick || marks_of cs tick)
merged-marks [] cs tick = refl
merged-marks (b ∷ bs) cs tick =
    with_boundary-marks b (merged bs cs) tick
    ∙ or_step (int_eq tick (b +ℤ pos 1)) (marks_of (merged bs cs) tick) (marks_of bs tick) (marks_of cs tick) (merged-marks bs cs tick)

pub merged-rises : (low high : ℤ) (bs cs : List ℤ) → Rise low high bs → Rise low high cs → Rise low high (merged bs cs)
merged-rises low high [] cs h g = g
merged-rises low high (b ∷ bs) cs h g =
    let a = h.0 in
    with_boundary-rises low high b (merged bs cs) h.0 h.1
    (merged-rises low high bs cs (Rise-wider (b +ℤ pos 1) high low high bs h.2 (omega (arith, ints)) (omega (arith, ints))) g)

-- there isn't just one
abbrev pub IsNotOne : List ℤ → Type 0
IsNotOne [] = ⊤
IsNotOne (b ∷ []) = ⊥
IsNotOne (b ∷ c ∷ bs) = ⊤

-- so it is where two ticks have marks
pub not_one : (bs : List ℤ) (tick later : ℤ) → tick <ℤ later → marks_of bs tick ≡ true → marks_of bs later ≡ true → IsNotOne bs
not_one [] tick later less here there = tt
not_one (b ∷ []) tick later less here there = grind (arith, ints)
not_one (b ∷ c ∷ bs) tick later less here there = tt

-- the boundaries of a list
pub boundaries-rise : (from limit : ℤ) (list : List Snapshot) → InOrder from limit list → Touch list → Rise from limit (boundaries list)
boundaries-rise from limit [] h touch = tt
boundaries-rise from limit (s ∷ []) h touch =
    let a = h.1 in
    let b = h.2 in
    (h.0, omega (arith, ints), (omega (arith, ints), h.2, tt))
boundaries-rise from limit (s ∷ next ∷ list) h touch =
    let a = h.1 in
    let b = h.2 in (
      h.0,
      omega (arith, ints),
      Rise-wider s.end limit (s.start +ℤ pos 1) limit (boundaries (next ∷ list))
          (boundaries-rise s.end limit (next ∷ list) h.3 touch.1) (omega (arith, ints)) (omega (arith, ints)),
    )

-- a mark is after each of them, and nowhere else
pub last_two : (a b : Bool) → (a || b || false) ≡ (a || (b || false))
last_two true b = refl
last_two false b = refl

end_is_start : (a b c x y : Bool) → (b || c || x) ≡ y → (a || b || (b || c || x)) ≡ (a || y)
end_is_start true b c x y is = refl
end_is_start false true c x y is = is
end_is_start false false c x y is = is

pub boundaries-marks : (list : List Snapshot) (tick : ℤ) → Touch list → mark_at list tick ≡ marks_of (boundaries list) tick
boundaries-marks [] tick touch = refl
boundaries-marks (s ∷ []) tick touch = last_two (int_eq tick (s.start +ℤ pos 1)) (int_eq tick (s.end +ℤ pos 1))
boundaries-marks (s ∷ next ∷ list) tick touch =
    rw touch.0 (end_is_start (int_eq tick (s.start +ℤ pos 1)) (int_eq tick (next.start +ℤ pos 1))
    (int_eq tick (next.end +ℤ pos 1)) (mark_at list tick) (marks_of (boundaries (next ∷ list)) tick)
    (boundaries-marks (next ∷ list) tick touch.1))

-- boundaries that are all moved
pub moved-marks : (width : ℤ) (bs : List ℤ) (tick : ℤ)
    → marks_of (map (λ b. b +ℤ width -ℤ pos 1) bs) tick ≡ marks_of bs (tick +ℤ neg_ℤ width +ℤ pos 1)
moved-marks width [] tick = refl
moved-marks width (b ∷ bs) tick =
    let here : int_eq tick (b +ℤ width -ℤ pos 1 +ℤ pos 1) ≡ int_eq (tick +ℤ neg_ℤ width +ℤ pos 1) (b +ℤ pos 1) = grind (arith, ints) in
    rw (here, moved-marks width bs tick) refl

pub moved-rises : (width low high : ℤ) (bs : List ℤ) → Rise low high bs
    → Rise (low +ℤ width -ℤ pos 1) (high +ℤ width -ℤ pos 1) (map (λ b. b +ℤ width -ℤ pos 1) bs)
moved-rises width low high [] h = tt
moved-rises width low high (b ∷ bs) h =
    let a = h.0 in
    let c = h.1 in (
      omega (arith, ints),
      omega (arith, ints),
      Rise-wider (b +ℤ pos 1 +ℤ width -ℤ pos 1) (high +ℤ width -ℤ pos 1)
          (b +ℤ width -ℤ pos 1 +ℤ pos 1) (high +ℤ width -ℤ pos 1) (map (λ b. b +ℤ width -ℤ pos 1) bs)
          (moved-rises width (b +ℤ pos 1) high bs h.2) (omega (arith, ints)) (omega (arith, ints)),
    )
