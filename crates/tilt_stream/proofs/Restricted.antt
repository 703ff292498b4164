-- A stream that is restricted to a stretch, and to a span cut down to it: there it agrees with the stream, and with its span.
use Rattle.std.proofs.Common.{◌≡◌, ℤ, pos, ◌+ℤ◌, ◌≤ℤ◌, ◌<ℤ◌, Bool, true, false, None, ◌⊎◌, inl, inr, if◌then◌else◌, refl, arith}
use Rattle.std.specs.Ordering.{int_eq}
use Rattle.std.specs.Int.{int_min, int_max}
use Rattle.std.proofs.lemmas.Int.{ints, clamps}
use Rattle.tilt_stream.specs.Agreement.{Agree}
use Rattle.tilt_stream.specs.Domain.{lies_in, restricted}
use Rattle.tilt_stream.specs.Stream.{Stream}

-- whether a tick lies in a stretch, and is one of its ends
inside : (lo hi tick : ℤ) → lo <ℤ tick → tick ≤ℤ hi → lies_in lo hi tick ≡ true
inside lo hi tick above below = grind (arith, ints)

other : (m n : ℤ) → ((m <ℤ n) ⊎ (n <ℤ m)) → int_eq m n ≡ false
other m n differ = grind (arith, ints)

module _ (x y : Stream) (lo hi : ℤ) (h : Agree x y lo hi) where
  -- not cut
  pub uncut : Agree (restricted lo hi x) y lo hi
  uncut = record {
    cells = λ tick above below. rw (inside lo hi tick above below) (h.cells tick above below);
    marks = λ tick above below.
        rw (other tick (lo +ℤ pos 1) (inr above), other tick (hi +ℤ pos 1) (inl (omega (arith, ints))), inside lo hi tick (omega (arith, ints)) below) (h.marks tick above below);
  }

  module _ (start end : ℤ) where
    -- within the stretch, to lie in the span is to lie in the span and the stretch
    same_inside : (tick : ℤ) → lo <ℤ tick → tick ≤ℤ hi → lies_in (int_max lo start) (int_min hi end) tick ≡ lies_in start end tick
    same_inside tick above below = grind (arith, ints, clamps)

    same_start : (tick : ℤ) → (lo +ℤ pos 1) <ℤ tick → int_eq tick (int_max lo start +ℤ pos 1) ≡ int_eq tick (start +ℤ pos 1)
    same_start tick above = grind (arith, ints, clamps)

    same_end : (tick : ℤ) → tick ≤ℤ hi → int_eq tick (int_min hi end +ℤ pos 1) ≡ int_eq tick (end +ℤ pos 1)
    same_end tick below = grind (arith, ints, clamps)

    cut_cell : (test : Bool) (tick : ℤ) → lo <ℤ tick → tick ≤ℤ hi → (if test then x.cell tick else None) ≡ (if test then y.cell tick else None)
    cut_cell true tick above below = h.cells tick above below
    cut_cell false tick above below = refl

    -- cut down to a span
    pub cut : Agree (restricted (int_max lo start) (int_min hi end) x) (restricted start end y) lo hi
    cut = record {
      cells = λ tick above below. rw (same_inside tick above below) (cut_cell (lies_in start end tick) tick above below);
      marks = λ tick above below.
          rw (same_start tick above, same_end tick below, same_inside tick (omega (arith, ints)) below, h.marks tick above below) refl;
    }

module _ (lo hi start end : ℤ) (some : start <ℤ end) (none : int_min hi end ≤ℤ int_max lo start) where
  -- no tick of the stretch lies in the span, or begins or ends it
  no_tick : (tick : ℤ) → lo <ℤ tick → tick ≤ℤ hi → lies_in start end tick ≡ false
  no_tick tick above below = grind (arith, ints, clamps)

  no_start : (tick : ℤ) → (lo +ℤ pos 1) <ℤ tick → tick ≤ℤ hi → int_eq tick (start +ℤ pos 1) ≡ false
  no_start tick above below = grind (arith, ints, clamps)

  no_end : (tick : ℤ) → (lo +ℤ pos 1) <ℤ tick → tick ≤ℤ hi → int_eq tick (end +ℤ pos 1) ≡ false
  no_end tick above below = grind (arith, ints, clamps)

  -- nothing is left: the definition is null on the stretch, and has no marks after its first tick
  pub nothing_left : (x y : Stream) → ((tick : ℤ) → x.cell tick ≡ None) → ((tick : ℤ) → x.mark tick ≡ false) → Agree (restricted lo hi x) (restricted start end y) lo hi
  nothing_left x y null clear = record {
    cells = λ tick above below. rw (inside lo hi tick above below, no_tick tick above below) (null tick);
    marks = λ tick above below.
        rw (
          other tick (lo +ℤ pos 1) (inr above),
          other tick (hi +ℤ pos 1) (inl (omega (arith, ints))),
          inside lo hi tick (omega (arith, ints)) below,
          clear tick,
          no_tick tick (omega (arith, ints)) below,
          no_start tick above below,
          no_end tick above below,
        ) refl;
  }
