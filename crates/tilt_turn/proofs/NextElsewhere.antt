-- Lists that tell the same up to a tick, and the next marks of what does.
use Rattle.std.proofs.Common.{◌≡◌, ℕ, zero, suc, ℤ, pos, ◌+ℤ◌, ◌<ℤ◌, ◌≤ℤ◌, false, List, Option, Some, None, sym, ◌∙◌, arith}
use Rattle.std.specs.Int.{int_gap}
use Rattle.std.proofs.lemmas.Int.{ints, by_lt_z}
use Rattle.tilt_stream.proofs.Cut.{int_gap_is}
use Rattle.tilt_stream.proofs.SameMarks.{SameNext}
use Rattle.tilt_stream.specs.Agreement.{IsSameUpTo}
use Rattle.tilt_stream.specs.Marks.{NamesNextMark}
use Rattle.tilt_stream.specs.Snap.{Snapshot}
use Rattle.tilt_stream.specs.Stream.{Stream, mark_at}

-- streams that have the same marks above a tick, up to the first one, have the same next mark
pub names-next : (x y : Stream) (tick : ℤ) (answer : Option ℤ) → SameNext x.mark y.mark tick → NamesNextMark x tick answer
    → NamesNextMark y tick answer
names-next x y tick None same names = λ at above. sym (same at above (λ other from to. names other from)) ∙ names at above
names-next x y tick (Some next) same names = record {
  above = names.above;
  marked = sym (same next names.above names.least) ∙ names.marked;
  least = λ at above below. sym (same at above (λ other from to. names.least other from (omega (arith, ints)))) ∙ names.least at above below;
}

-- lists that tell the same up to a tick do so up to an earlier one
pub same-earlier : (a b : List Snapshot) (last tick : ℤ) → tick ≤ℤ last → IsSameUpTo last a b → IsSameUpTo tick a b
same-earlier a b last tick low s = record {
  ended = λ at below. s.ended at (omega (arith, ints));
  cells = λ at below. s.cells at (omega (arith, ints));
  marks = λ at below. s.marks at (omega (arith, ints));
  next = λ at above none.
      by_lt_z last at
      (λ later. s.next at later (λ other from to. none other (omega (arith, ints)) to))
      (λ within. s.marks at within);
}

module _ (a b : List Snapshot) (last : ℤ) (s : IsSameUpTo last a b) where
  -- where the second has no mark above the tick and below a limit, nor has the first
  clear : (limit : ℤ) → ((at : ℤ) → last <ℤ at → at <ℤ limit → mark_at b at ≡ false) → (n : ℕ) (at : ℤ) → last <ℤ at → at ≤ℤ (last +ℤ pos n)
      → at <ℤ limit → mark_at a at ≡ false
  clear limit none zero at above near below = absurd (omega (arith, ints))
  clear limit none (suc n) at above near below =
      s.next at above (λ other from to. clear limit none n other from (omega (arith, ints)) (omega (arith, ints))) ∙ none at above below

  -- so they tell the same the other way round
  pub same-back : IsSameUpTo last b a
  same-back = record {
    ended = λ at below. sym (s.ended at below);
    cells = λ at below. sym (s.cells at below);
    marks = λ at below. sym (s.marks at below);
    next = λ at above none. sym (s.next at above (λ other from to.
        let gap = int_gap_is last other (omega (arith, ints)) in
        clear at none (int_gap last other) other from (omega (arith, ints)) to));
  }
