-- The state of parts: after a step, and once all of them are finished.
use Rattle.std.proofs.Common.{◌≡◌, ◌≢◌, ◌<◌, ◌≤◌, ◌<ℤ◌, ◌≤ℤ◌, ◌-ℤ◌, ◌++◌, ◌∙◌, ℕ, suc, ℤ, pos, Bool, true, false, if◌then◌else◌, List, [], ◌∷◌, length, take, min, Some, Result, Ok, Err}
use Rattle.std.proofs.Common.{inl, inr, refl, sym, ap, subst, arith}
use Rattle.std.specs.List.{AllByRecursion}
use Rattle.std.specs.Prelude.{nat_eq, IsOk, IsErr, OnOk, OnErr}
use Rattle.std.specs.declared.alloc.AllocError.{AllocError}
use Rattle.std.proofs.Math.Seq.{take-length}
use Rattle.std.proofs.lemmas.Bool.{cases_Bool, false≢true}
use Rattle.std.proofs.lemmas.Bool.Decides.{nat_tests}
use Rattle.std.proofs.lemmas.Int.{ints}
use Rattle.std.proofs.lemmas.List.{length-take-le}
use Rattle.tilt_base.specs.declared.span.Span.{Span}
use Rattle.tilt_code.specs.Run.{run_of}
use Rattle.tilt_compiler.specs.Accepted.{AcceptedParts}
use Rattle.tilt_core.specs.Core.{emitted_number}
use Rattle.tilt_core.specs.Meaning.{meaning}
use Rattle.tilt_parts.proofs.Finished.{ends-there, fewer-end, fill-ends, there-ends}
use Rattle.tilt_parts.specs.Part.{PartValue, is_finished, part_after}
use Rattle.tilt_parts.specs.Parts.{AreInside, Stands, all_on, code_on, stretches, times}
use Rattle.tilt_stream.proofs.Filling.{snapshots-Fill}
use Rattle.tilt_stream.specs.Snap.{Fill, Snapshot, last_end}

no_test : (a b : ℕ) → a ≢ b → nat_eq a b ≡ false
no_test a b differs = elim (cases_Bool (nat_eq a b)) [
  | inl same ↦ (let is : a ≡ b = grind (arith, nat_tests) in absurd (differs is))
  | inr other ↦ other
]

own_test : (a : ℕ) → nat_eq a a ≡ true
own_test a = grind (arith, nat_tests)

if_same : (test : Bool) {a b : ℕ} → a ≡ b → (if test then suc a else a) ≡ (if test then suc b else b)
if_same true same = ap suc same
if_same false same = same

if_more : (test : Bool) {a b : ℕ} → a ≡ suc b → (if test then suc a else a) ≡ suc (if test then suc b else b)
if_more true same = ap suc same
if_more false same = same

-- steps that name another part
pub times-other : (part named : ℕ) (steps : List ℕ) → part ≢ named → times part (steps ++ named ∷ []) ≡ times part steps
times-other part named [] differs = rw (no_test named part (λ same. differs (sym same))) refl
times-other part named (step ∷ steps) differs = if_same (nat_eq step part) (times-other part named steps differs)

-- and this one
pub times-own : (part : ℕ) (steps : List ℕ) → times part (steps ++ part ∷ []) ≡ suc (times part steps)
times-own part [] = rw (own_test part) refl
times-own part (step ∷ steps) = if_more (nat_eq step part) (times-own part steps)

ok_of : {X : Type 0} (result : Result (Unit {0}) X) {b : Bool} → OnErr result (b ≡ true) → b ≡ false → IsOk result
ok_of (Ok u) refused granted = refl
ok_of (Err e) refused granted = absurd (false≢true (sym granted ∙ refused))

ok_no_err : {X : Type 0} (result : Result (Unit {0}) X) → IsOk result → IsErr result → ⊥
ok_no_err (Ok u) ok err = cc
ok_no_err (Err e) ok err = cc

on_ok_is : {X Y : Type 0} (result : Result (Unit {0}) X) → IsOk result → OnOk result Y → Y
on_ok_is (Ok u) ok y = y
on_ok_is (Err e) ok y = absurd (cc ok)

-- counts that stop at a size
all_counted : (size times count : ℕ) → count ≡ min size times → (count < size → ⊥) → count ≡ min size (suc times)
all_counted size times count is all = grind (arith, nat_tests)

pub fewer : (size times count : ℕ) → count ≡ min size times → (count ≡ size → ⊥) → count < size
fewer size times count is differs = grind (arith, nat_tests)

one_counted : (size times count : ℕ) → count ≡ min size times → count < size → suc count ≡ min size (suc times)
one_counted size times count is few = grind (arith, nat_tests)

-- the stretches that cuts make aren't empty
pub stretches-some : (start lo : ℤ) (cuts : List ℤ) (hi : ℤ) → start ≤ℤ lo → AreInside lo cuts hi → AllByRecursion (λ s. s.start <ℤ s.end) (stretches start cuts hi)
stretches-some start lo [] hi low inside = (omega (arith, ints), tt)
stretches-some start lo (cut ∷ cuts) hi low inside =
    let first = inside.0 in
    (omega (arith, ints), stretches-some (cut -ℤ pos 1) cut cuts hi (omega (arith, ints)) inside.1)

-- a part of a query on a stretch that isn't empty
module _ (query : AcceptedParts) (rows : List (List Snapshot)) (place : ℕ) (stretch : Span) (some : stretch.start <ℤ stretch.end)
    (means : run_of (code_on query stretch) rows ≡ all_on query rows stretch) where
  all : List Snapshot
  all = all_on query rows stretch

  fills : Fill stretch.start stretch.end (all_on query rows stretch)
  fills = snapshots-Fill (meaning rows query.core.defs (emitted_number query.core)) stretch.start stretch.end some

  taken-all : (count : ℕ) → take count (run_of (code_on query stretch) rows) ≡ take count (all_on query rows stretch)
  taken-all count = ap (λ (l : List Snapshot). take count l) means

  -- it isn't finished as long as fewer were taken than there are
  pub fewer-taken : (count : ℕ) → count < length (all_on query rows stretch) → is_finished (part_after stretch (code_on query stretch) rows count) ≡ true → ⊥
  fewer-taken count few done =
      fewer-end stretch.start stretch.end (all_on query rows stretch) count fills few
      (ap (λ (l : List Snapshot). last_end l) (sym (taken-all count))
      ∙ ends-there stretch.end (last_end (take count (run_of (code_on query stretch) rows))) done)

  -- and is finished if all were taken
  all-ends : (list : List Snapshot) → Fill stretch.start stretch.end list → last_end list ≡ Some stretch.end
  all-ends [] fill = let same : stretch.start ≡ stretch.end = fill in absurd (omega (arith, ints))
  all-ends (s ∷ ss) fill = fill-ends stretch.start stretch.end s ss fill

  pub all-taken : (count : ℕ) → count ≡ length (all_on query rows stretch) → is_finished (part_after stretch (code_on query stretch) rows count) ≡ true
  all-taken count is =
      there-ends stretch.end (last_end (take count (run_of (code_on query stretch) rows)))
      (ap (λ (l : List Snapshot). last_end l) (taken-all count ∙ ap (λ (n : ℕ). take n (all_on query rows stretch)) is ∙ take-length (all_on query rows stretch))
      ∙ all-ends (all_on query rows stretch) fills)

  -- what was taken is as many as that
  pub count-taken : (count : ℕ) → count ≤ length (all_on query rows stretch) → length (take count (run_of (code_on query stretch) rows)) ≡ count
  count-taken count most = length-take-le count (run_of (code_on query stretch) rows) (rw means most)

  -- so that if it is finished, all were taken
  pub whole-taken : (count : ℕ) → count ≤ length (all_on query rows stretch) → is_finished (part_after stretch (code_on query stretch) rows count) ≡ true
      → take count (run_of (code_on query stretch) rows) ≡ all_on query rows stretch
  whole-taken count most done =
      let all_of : count ≡ length (all_on query rows stretch) = elim (cases_Bool (nat_eq count (length (all_on query rows stretch)))) [
        | inl same ↦ grind (arith, nat_tests)
        | inr other ↦ absurd (fewer-taken count (grind (arith, nat_tests)) done)
      ] in
      taken-all count ∙ ap (λ (n : ℕ). take n (all_on query rows stretch)) all_of ∙ take-length (all_on query rows stretch)

  -- it follows the steps with one more that names it
  module _ (steps : List ℕ) (result : Result (Unit {0}) AllocError) (old new : PartValue) (stands : Stands query rows steps place stretch old)
      (same_stretch : new.stretch ≡ old.stretch) (finished : old.refused ≡ false → is_finished old ≡ true → IsOk result × (new ≡ old))
      (one_more : old.refused ≡ false → is_finished old ≡ false → length old.taken < length (run_of old.pipe.code old.pipe.inputs)
      → OnOk result (new ≡ part_after old.stretch old.pipe.code old.pipe.inputs (suc (length old.taken))))
      (refused : OnErr result (new.refused ≡ true)) (for_good : old.refused ≡ true → IsErr result) where
    at_work : new.refused ≡ false → IsOk result
    at_work granted = ok_of result refused granted

    was_at_work : new.refused ≡ false → old.refused ≡ false
    was_at_work granted = elim (cases_Bool old.refused) [
      | inl was ↦ absurd (ok_no_err result (at_work granted) (for_good was))
      | inr not_so ↦ not_so
    ]

    stepped : (count : ℕ) → count ≡ min (length (all_on query rows stretch)) (times place steps) → new.refused ≡ false → old ≡ part_after stretch (code_on query stretch) rows count
        → new ≡ part_after stretch (code_on query stretch) rows (min (length (all_on query rows stretch)) (suc (times place steps)))
    stepped count count_is granted is = elim (cases_Bool (is_finished old)) [
      | inl done ↦ (
          let whole : count < (length (all_on query rows stretch)) → ⊥ = λ few. fewer-taken count few (subst (λ (p : PartValue). is_finished p ≡ true) is done) in
          let now : count ≡ min (length (all_on query rows stretch)) (suc (times place steps)) = all_counted (length (all_on query rows stretch)) (times place steps) count count_is whole in
          (finished (was_at_work granted) done).1 ∙ is ∙ ap (λ (n : ℕ). part_after stretch (code_on query stretch) rows n) now)
      | inr more ↦ (
          let few : count < (length (all_on query rows stretch)) = fewer (length (all_on query rows stretch)) (times place steps) count count_is
          (λ same. false≢true (sym more ∙ subst (λ (p : PartValue). is_finished p ≡ true) (sym is) (all-taken count same))) in
          let length_is : length old.taken ≡ count = ap (λ (p : PartValue). length p.taken) is ∙ length-take-le count (run_of (code_on query stretch) rows)
          (rw means (omega arith)) in
          let run_is : run_of old.pipe.code old.pipe.inputs ≡ all_on query rows stretch = ap (λ (p : PartValue). run_of p.pipe.code p.pipe.inputs) is ∙ means in
          let next = on_ok_is result (at_work granted) (one_more (was_at_work granted) more (rw (length_is, run_is) few)) in
          next ∙ (λ i. part_after (is i).stretch (is i).pipe.code (is i).pipe.inputs (suc (length_is i)))
          ∙ ap (λ (n : ℕ). part_after stretch (code_on query stretch) rows n) (one_counted (length (all_on query rows stretch)) (times place steps) count count_is few))
    ]

    pub stands-after : Stands query rows (steps ++ place ∷ []) place stretch new
    stands-after = record {
      stretch_is = same_stretch ∙ stands.stretch_is;
      means = stands.means;
      after = λ granted. stepped (min (length (all_on query rows stretch)) (times place steps)) refl granted (stands.after (was_at_work granted))
          ∙ ap (λ (n : ℕ). part_after stretch (code_on query stretch) rows (min (length (all_on query rows stretch)) n)) (sym (times-own place steps));
    }
