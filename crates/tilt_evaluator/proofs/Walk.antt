-- What one step of a walk over ticks does.
use Rattle.std.proofs.Common.{◌≡◌, ℕ, suc, ◌+◌, ◌-◌, ◌<◌, ℤ, pos, ◌+ℤ◌, ◌<ℤ◌, ◌≤ℤ◌, Bool, true, false, ◌||◌, List, [], ◌∷◌, ◌++◌, Option, Some, None, refl, sym, ap, ◌∙◌, arith, append_assoc}
use Rattle.std.proofs.lemmas.Int.{ints}
use Rattle.std.specs.Int.{int_gap}
use Rattle.std.specs.Ordering.{int_eq}
use Rattle.tilt_base.specs.Reduce.{numbers}
use Rattle.tilt_stream.proofs.Cut.{int_gap_is, int_gap_none}
use Rattle.tilt_stream.specs.Snap.{Snapshot}
use Rattle.tilt_stream.specs.Snapshots.{snapshot_on, cut_behind}
use Rattle.tilt_stream.specs.Stream.{Stream}
use Rattle.tilt_stream.specs.Domain.{some_mark}
use Rattle.tilt_stream.specs.Window.{met_behind}

numbers-cons : (cell : Option ℤ) (cells : List (Option ℤ)) → numbers (cell ∷ cells) ≡ numbers (cell ∷ []) ++ numbers cells
numbers-cons None cells = refl
numbers-cons (Some n) cells = refl

module _ (x : Stream) (tick at : ℤ) (behind count : ℕ) (within : behind < count) (is : at ≡ tick +ℤ pos 1 +ℤ pos behind) where
  left : count - behind ≡ suc (count - (behind + 1))
  left = omega arith

  -- the next tick has a mark
  pub some_mark-found : x.mark at ≡ true → some_mark x (tick +ℤ pos behind) (count - behind) ≡ true
  some_mark-found marked =
      let next : at ≡ tick +ℤ pos behind +ℤ pos 1 = omega (arith, ints) in
      ap (some_mark x (tick +ℤ pos behind)) left ∙ rw (← next, marked) refl

  -- the next tick has none
  pub some_mark-passed : x.mark at ≡ false → some_mark x (tick +ℤ pos behind) (count - behind) ≡ some_mark x (tick +ℤ pos (behind + 1)) (count - (behind + 1))
  some_mark-passed clear =
      let next : at ≡ tick +ℤ pos behind +ℤ pos 1 = omega (arith, ints) in
      let to : at ≡ tick +ℤ pos (behind + 1) = omega (arith, ints) in
      ap (some_mark x (tick +ℤ pos behind)) left ∙ rw (← next, clear) (ap (λ (t : ℤ). some_mark x t (count - (behind + 1))) to)

-- what a window meets, by its first tick
module _ (x : Stream) (lo before hi tick : ℤ) (within : before <ℤ hi) (is : tick ≡ before +ℤ pos 1) where
  gap : int_gap before hi ≡ suc (int_gap tick hi)
  gap =
      let e1 = int_gap_is before hi (omega (arith, ints)) in
      let e2 = int_gap_is tick hi (omega (arith, ints)) in
      omega (arith, ints)

  not_again : lo ≤ℤ before → int_eq tick lo ≡ false
  not_again low = grind (arith, ints)

  -- a snapshot begins there, or the window does
  met-begins : (begins : Bool) → lo ≤ℤ before → (begins || x.mark (before +ℤ pos 1)) ≡ true
      → numbers (met_behind x begins before (int_gap before hi)) ≡ numbers (x.cell tick ∷ []) ++ numbers (met_behind x (int_eq tick lo) tick (int_gap tick hi))
  met-begins begins low test =
      ap (λ (n : ℕ). numbers (met_behind x begins before n)) gap
      ∙ rw (test, ← is, not_again low) (numbers-cons (x.cell tick) (met_behind x false tick (int_gap tick hi)))

  -- none begins there
  met-goes_on : (begins : Bool) → lo ≤ℤ before → (begins || x.mark (before +ℤ pos 1)) ≡ false
      → numbers (met_behind x begins before (int_gap before hi)) ≡ numbers (met_behind x (int_eq tick lo) tick (int_gap tick hi))
  met-goes_on begins low test =
      ap (λ (n : ℕ). numbers (met_behind x begins before n)) gap ∙ rw (test, ← is, not_again low) refl

  module _ (front all : List ℤ) (low : lo ≤ℤ before) (so_far : front ++ numbers (met_behind x (int_eq before lo) before (int_gap before hi)) ≡ all) where
    -- the walk with one more member, or without
    pub met-more : (more : List ℤ) (cell : Option ℤ) → more ≡ front ++ numbers (cell ∷ []) → cell ≡ x.cell tick
        → (int_eq before lo || x.mark (before +ℤ pos 1)) ≡ true
        → more ++ numbers (met_behind x (int_eq tick lo) tick (int_gap tick hi)) ≡ all
    met-more more cell pushed at test =
        ap (λ (ns : List ℤ). ns ++ numbers (met_behind x (int_eq tick lo) tick (int_gap tick hi))) (pushed ∙ ap (λ (c : Option ℤ). front ++ numbers (c ∷ [])) at)
        ∙ append_assoc front (numbers (x.cell tick ∷ [])) (numbers (met_behind x (int_eq tick lo) tick (int_gap tick hi)))
        ∙ ap (λ (ns : List ℤ). front ++ ns) (sym (met-begins (int_eq before lo) low test)) ∙ so_far

    pub met-same : (int_eq before lo || x.mark (before +ℤ pos 1)) ≡ false → front ++ numbers (met_behind x (int_eq tick lo) tick (int_gap tick hi)) ≡ all
    met-same test = ap (λ (ns : List ℤ). front ++ ns) (sym (met-goes_on (int_eq before lo) low test)) ∙ so_far

-- how the snapshots of a stream go on after a tick
module _ (x : Stream) (front all : List Snapshot) (start end hi next : ℤ) (is : next ≡ end +ℤ pos 1) (so_far : front ++ cut_behind x start end (int_gap end hi) ≡ all) where
  steps_left : end <ℤ hi → int_gap end hi ≡ suc (int_gap next hi)
  steps_left within =
      let e1 = int_gap_is end hi (omega (arith, ints)) in
      let e2 = int_gap_is next hi (omega (arith, ints)) in
      omega (arith, ints)

  -- one snapshot ends there, and another one begins
  pub cut-piece : (more : List Snapshot) → end <ℤ hi → more ≡ front ++ snapshot_on x start end ∷ [] → x.mark next ≡ true → more ++ cut_behind x end next (int_gap next hi) ≡ all
  cut-piece more within pushed marked =
      ap (λ (ss : List Snapshot). ss ++ cut_behind x end next (int_gap next hi)) pushed
      ∙ append_assoc front (snapshot_on x start end ∷ []) (cut_behind x end next (int_gap next hi))
      ∙ sym (ap (λ (n : ℕ). front ++ cut_behind x start end n) (steps_left within) ∙ rw (← is, marked) refl) ∙ so_far

  -- the snapshot goes on
  pub cut-same : end <ℤ hi → x.mark next ≡ false → front ++ cut_behind x start next (int_gap next hi) ≡ all
  cut-same within clear =
      sym (ap (λ (n : ℕ). front ++ cut_behind x start end n) (steps_left within) ∙ rw (← is, clear) refl) ∙ so_far

  -- the last snapshot ends at the end of all
  pub cut-end : (more : List Snapshot) (last : ℤ) → hi ≤ℤ end → last ≡ end → more ≡ front ++ snapshot_on x start last ∷ [] → more ≡ all
  cut-end more last none at pushed =
      pushed ∙ ap (λ (t : ℤ). front ++ snapshot_on x start t ∷ []) at
      ∙ sym (ap (λ (n : ℕ). front ++ cut_behind x start end n) (int_gap_none end hi none)) ∙ so_far
