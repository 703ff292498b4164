-- The list of a loop's turns has the loop's stream, and the run of a code gives the snapshots of the code's meaning.
use Rattle.std.proofs.Common.{◌≡◌, ℤ, pos, ◌+ℤ◌, Bool, true, false, ◌&&◌, ◌||◌, List, [], ◌∷◌, ◌++◌, map, Option, None, if◌then◌else◌, refl, sym, ap, ◌∙◌, subst}
use Rattle.std.proofs.lemmas.List.{map-append}
use Rattle.std.specs.Ordering.{int_eq}
use Rattle.std.specs.List.{AllByRecursion}
use Rattle.tilt_base.proofs.Lists.{all-parts}
use Rattle.tilt_code.proofs.Constancy.{loop_of-changes}
use Rattle.tilt_stream.proofs.Filling.{snapshots-Fill}
use Rattle.tilt_stream.proofs.Cutting.{snapshots-stream}
use Rattle.tilt_stream.proofs.Same.{same_is}
use Rattle.tilt_code.proofs.Turns.{turns-are}
use Rattle.tilt_code.specs.Body.{last_or, body_of}
use Rattle.tilt_code.specs.Code.{LoopParts, CodeParts}
use Rattle.tilt_code.specs.Grammar.{IsLoop}
use Rattle.tilt_code.specs.Meaning.{IsTimed, loop_of, with_loops, meaning_of}
use Rattle.tilt_code.specs.Run.{with_buffers, run_of}
use Rattle.tilt_code.specs.Turn.{turns}
use Rattle.tilt_stream.proofs.Constancy.{stream_of-changes}
use Rattle.tilt_stream.specs.Agreement.{ChangesOnlyAtMarks}
use Rattle.tilt_stream.specs.Domain.{on_grid, lies_in, restricted}
use Rattle.tilt_stream.specs.Snap.{Snapshot, Fill}
use Rattle.tilt_stream.specs.Snapshots.{snapshots}
use Rattle.tilt_stream.specs.Stream.{Stream, SameStream, stream_of}
use Rattle.tilt_stream.specs.Pointwise.{nothing}

-- to restrict twice is to restrict once
twice_cell : (inside : Bool) (cell : Option ℤ)
    → (if inside then (if inside then cell else None) else None) ≡ (if inside then cell else None)
twice_cell true cell = refl
twice_cell false cell = refl

twice_mark : (a b inside m : Bool) → (a || b || (inside && (a || b || (inside && m)))) ≡ (a || b || (inside && m))
twice_mark true b inside m = refl
twice_mark false true inside m = refl
twice_mark false false true m = refl
twice_mark false false false m = refl

restricted-twice : (lo hi : ℤ) (x : Stream) → SameStream (restricted lo hi (restricted lo hi x)) (restricted lo hi x)
restricted-twice lo hi x = record {
  cells = λ t. twice_cell (lies_in lo hi t) (x.cell t);
  marks = λ t. twice_mark (int_eq t (lo +ℤ pos 1)) (int_eq t (hi +ℤ pos 1)) (lies_in lo hi t) (x.mark t);
}

-- the list of a loop's turns has the loop's stream
pub turns-stream : (xs : List Stream) (l : LoopParts) → IsTimed l → AllByRecursion ChangesOnlyAtMarks xs
    → SameStream (stream_of (turns xs l)) (loop_of xs l)
turns-stream xs l timed h =
    let cut = snapshots-stream (loop_of xs l) l.lo l.hi timed.stretch (loop_of-changes xs l timed h) in
    let once = restricted-twice l.lo l.hi (on_grid l.grid (body_of xs l)) in
    let are = turns-are xs l timed in
    record {
      cells = λ t. ap (λ (list : List Snapshot). (stream_of list).cell t) are ∙ cut.cells t ∙ once.cells t;
      marks = λ t. ap (λ (list : List Snapshot). (stream_of list).mark t) are ∙ cut.marks t ∙ once.marks t;
    }

-- and goes from the loop's lower end to its upper one
pub turns-Fill : (xs : List Stream) (l : LoopParts) → IsTimed l → Fill l.lo l.hi (turns xs l)
turns-Fill xs l timed = subst (Fill l.lo l.hi) (sym (turns-are xs l timed)) (snapshots-Fill (loop_of xs l) l.lo l.hi timed.stretch)

-- each of the buffers changes only at marks
streams-change : (lists : List (List Snapshot)) → AllByRecursion ChangesOnlyAtMarks (map stream_of lists)
streams-change [] = tt
streams-change (list ∷ lists) = (stream_of-changes list, streams-change lists)

-- the streams of the buffers are the loops read as definitions
pub with_buffers-streams : (lists : List (List Snapshot)) (loops : List LoopParts) → AllByRecursion IsTimed loops
    → map stream_of (with_buffers lists loops) ≡ with_loops (map stream_of lists) loops
with_buffers-streams lists [] timed = refl
with_buffers-streams lists (l ∷ loops) timed =
    let xs = map stream_of lists in
    let made = turns xs l in
    let one = same_is (stream_of made) (loop_of xs l) (turns-stream xs l timed.0 (streams-change lists)) in
    with_buffers-streams (lists ++ made ∷ []) loops timed.1
    ∙ ap (λ (ys : List Stream). with_loops ys loops) (map-append stream_of lists (made ∷ []) ∙ ap (λ (y : Stream). xs ++ y ∷ []) one)

-- the last loop by itself
with_buffers-last : (lists : List (List Snapshot)) (front : List LoopParts) (l : LoopParts)
    → with_buffers lists (front ++ l ∷ []) ≡ with_buffers lists front ++ turns (map stream_of (with_buffers lists front)) l ∷ []
with_buffers-last lists [] l = refl
with_buffers-last lists (first ∷ front) l = with_buffers-last (lists ++ turns (map stream_of lists) first ∷ []) front l

-- the same over streams
pub with_loops-last : (xs : List Stream) (front : List LoopParts) (l : LoopParts)
    → with_loops xs (front ++ l ∷ []) ≡ with_loops xs front ++ loop_of (with_loops xs front) l ∷ []
with_loops-last xs [] l = refl
with_loops-last xs (first ∷ front) l = with_loops-last (xs ++ loop_of xs first ∷ []) front l

-- the last of a list to which one was added
pub last_or-pushed : {A : Type 0} (given : A) (xs : List A) (x : A) → last_or given (xs ++ x ∷ []) ≡ x
last_or-pushed given [] x = refl
last_or-pushed given (y ∷ ys) x = last_or-pushed y ys x

module _ (code : CodeParts) (inputs : List (List Snapshot)) (front : List LoopParts) (l : LoopParts)
    (ends : code.loops ≡ front ++ l ∷ []) (all : AllByRecursion IsTimed code.loops) where
  timed : AllByRecursion IsTimed (front ++ l ∷ [])
  timed = subst (AllByRecursion IsTimed) ends all

  -- the run is the list of the last loop's turns, over the streams of the loops before it
  run-turns : run_of code inputs ≡ turns (with_loops (map stream_of inputs) front) l
  run-turns =
      ap (λ (loops : List LoopParts). last_or [] (with_buffers inputs loops)) ends
      ∙ ap (λ (lists : List (List Snapshot)). last_or [] lists) (with_buffers-last inputs front l)
      ∙ last_or-pushed [] (with_buffers inputs front) (turns (map stream_of (with_buffers inputs front)) l)
      ∙ ap (λ (xs : List Stream). turns xs l) (with_buffers-streams inputs front (all-parts IsTimed front (l ∷ []) timed).0)

  meaning-last : meaning_of code inputs ≡ loop_of (with_loops (map stream_of inputs) front) l
  meaning-last =
      ap (λ (loops : List LoopParts). last_or nothing (with_loops (map stream_of inputs) loops)) ends
      ∙ ap (λ (xs : List Stream). last_or nothing xs) (with_loops-last (map stream_of inputs) front l)
      ∙ last_or-pushed nothing (with_loops (map stream_of inputs) front) (loop_of (with_loops (map stream_of inputs) front) l)

  -- the run gives the snapshots of the meaning on the last loop's stretch
  pub run-is : run_of code inputs ≡ snapshots (meaning_of code inputs) l.lo l.hi
  run-is =
      run-turns ∙ turns-are (with_loops (map stream_of inputs) front) l (all-parts IsTimed front (l ∷ []) timed).1.0
      ∙ sym (ap (λ (x : Stream). snapshots x l.lo l.hi) meaning-last)

  -- and they fill that stretch
  pub run-Fill : Fill l.lo l.hi (run_of code inputs)
  run-Fill = subst (Fill l.lo l.hi) (sym run-turns) (turns-Fill (with_loops (map stream_of inputs) front) l (all-parts IsTimed front (l ∷ []) timed).1.0)

-- the loops of a code have a stretch and a grid
pub loops-timed : (loops : List LoopParts) → AllByRecursion IsLoop loops → AllByRecursion IsTimed loops
loops-timed [] h = tt
loops-timed (l ∷ loops) h = (record { stretch = h.0.stretch.some_ticks; grid = h.0.grid }, loops-timed loops h.1)
