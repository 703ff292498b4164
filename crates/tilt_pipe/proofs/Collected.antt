-- The snapshots of a code's run, taken one after the other.
use Rattle.std.proofs.Common.{◌≡◌, ◌-◌, ℕ, zero, suc, neg_ℤ, ◌≤ℤ◌, List, [], ◌∷◌, ◌++◌, length, take, slice_get, Option, Some, None, refl, sym, ap, ◌∙◌, subst}
use Rattle.std.proofs.lemmas.List.{take_all}
use Rattle.std.proofs.lemmas.Option.{same_Some, none-some}
use Rattle.std.specs.Option.{ForSome}
use Rattle.tilt_base.proofs.Lists.{all-slice_get, one-more}
use Rattle.tilt_base.specs.declared.limits.TheConstants.{WIDE}
use Rattle.tilt_stream.proofs.Filling.{Fill-AreSnapshots}
use Rattle.tilt_code.proofs.Runs.{loops-timed}
use Rattle.tilt_code.specs.Code.{CodeParts}
use Rattle.tilt_code.specs.Grammar.{IsLoop}
use Rattle.tilt_code.specs.References.{IsCode}
use Rattle.tilt_code.specs.Run.{run_of}
use Rattle.tilt_pipe.proofs.Works.{last-loop, work-fills, work-is}
use Rattle.tilt_pipe.specs.Value.{PipeParts}
use Rattle.tilt_stream.proofs.Places.{past-all, read-within}
use Rattle.tilt_stream.specs.Snap.{Snapshot, AreSnapshots, Touch, last_end}

-- the run of a code is a list of snapshots
pub run-snapshots : (code : CodeParts) (inputs : List (List Snapshot)) → IsCode code → AreSnapshots (run_of code inputs)
run-snapshots code inputs is =
    let l = last-loop code inputs is in
    let loop = (work-is code inputs (length code.loops - 1) l.work l.is).loop in
    let stretch = (all-slice_get IsLoop code.loops (length code.loops - 1) l.work.loop is.grammatical.loops loop).stretch in
    let timed = loops-timed code.loops is.grammatical.loops in
    subst AreSnapshots l.run (Fill-AreSnapshots l.work.loop.lo l.work.loop.hi l.work.whole stretch.low stretch.high
    (work-fills code inputs (length code.loops - 1) l.work timed l.is).0)

-- the one at a place starts where those before it end
touches-at : (all : List Snapshot) (place : ℕ) (s : Snapshot) → Touch all → slice_get all place ≡ Some s
    → ForSome (last_end (take place all)) (λ end. end ≡ s.start)
touches-at [] place s touch is = absurd (none-some s is)
touches-at (x ∷ xs) zero s touch is = λ end no. absurd (none-some end no)
touches-at (x ∷ []) (suc place) s touch is = absurd (none-some s is)
touches-at (x ∷ y ∷ xs) (suc zero) s touch is =
    λ end last. sym (same_Some x.end end last) ∙ touch.0 ∙ ap (λ (n : Snapshot). n.start) (same_Some y s is)
touches-at (x ∷ y ∷ xs) (suc (suc place)) s touch is = touches-at (y ∷ xs) (suc place) s touch.1 is

-- `given` snapshots of a code's run were taken, and this one comes next
module _ (code : CodeParts) (inputs : List (List Snapshot)) (list : List Snapshot) (given : ℕ) (s : Snapshot)
    (is : IsCode code) (so_far : list ≡ take given (run_of code inputs)) (next : slice_get (run_of code inputs) given ≡ Some s) where
  pub next-touches : ForSome (last_end list) (λ end. end ≡ s.start)
  next-touches = rw so_far (touches-at (run_of code inputs) given s (run-snapshots code inputs is).touch next)

  pub next-within : (neg_ℤ WIDE ≤ℤ s.start) × (s.end ≤ℤ WIDE)
  next-within = read-within (neg_ℤ WIDE) WIDE (run_of code inputs) given (Some s) (run-snapshots code inputs is).in_order (sym next)

  pub with-next : list ++ s ∷ [] ≡ take (suc given) (run_of code inputs)
  with-next = ap (λ l. l ++ s ∷ []) so_far ∙ one-more (run_of code inputs) given s next

-- what a pipe of the code gave out
pub given-out : (pipe : PipeParts) (code : CodeParts) (inputs : List (List Snapshot)) (found : Option Snapshot) → pipe.code ≡ code → pipe.inputs ≡ inputs
    → found ≡ slice_get (run_of pipe.code pipe.inputs) pipe.given → slice_get (run_of code inputs) pipe.given ≡ found
given-out pipe code inputs found code_is inputs_is is = sym (rw (code_is, inputs_is) at is)

-- if it gave out nothing more, all were given out
pub nothing-left : (all : List Snapshot) (place : ℕ) (found : Option Snapshot) → slice_get all place ≡ found → ((s : Snapshot) → found ≡ Some s → ⊥)
    → take place all ≡ all
nothing-left all place None is none = take_all place all (past-all all place is)
nothing-left all place (Some s) is none = absurd (none s refl)
