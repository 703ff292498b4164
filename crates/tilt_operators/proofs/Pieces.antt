-- A list that is made of boundaries has the stream that has its marks after them, and on each piece the piece's value.
use Rattle.std.proofs.Common.{◌≡◌, ℤ, pos, ◌+ℤ◌, ◌≤ℤ◌, ◌<ℤ◌, Bool, true, false, ◌||◌, List, [], ◌∷◌, Option, None, refl, sym, ◌∙◌, arith}
use Rattle.std.specs.Ordering.{int_eq}
use Rattle.std.proofs.lemmas.Int.{ints, by_lt_z}
use Rattle.tilt_stream.proofs.MarkedTicks.{cell-kept}
use Rattle.tilt_stream.proofs.Streams.{cell_at-before}
use Rattle.tilt_stream.specs.Agreement.{ChangesOnlyAtMarks}
use Rattle.tilt_stream.specs.Snap.{InOrder, Touch}
use Rattle.tilt_stream.specs.Stream.{Stream, SameStream, stream_of, cell_at, mark_at, covers}
use Rattle.tilt_operators.specs.Lists.{pieces}
use Rattle.tilt_operators.proofs.Boundaries.{Rise, last_two, marks_of, marks-before, IsNotOne}

-- the pieces are in order, and touch
pub pieces-in_order : (value : ℤ → Option ℤ) (low high b : ℤ) (bs : List ℤ) → Rise low high (b ∷ bs) → InOrder b high (pieces value (b ∷ bs))
pieces-in_order value low high b [] h = tt
pieces-in_order value low high b (c ∷ bs) h =
    let a = h.2.0 in
    (omega (arith, ints), omega (arith, ints), h.2.1, pieces-in_order value (b +ℤ pos 1) high c bs h.2)

pub pieces-touch : (value : ℤ → Option ℤ) (bs : List ℤ) → Touch (pieces value bs)
pieces-touch value [] = tt
pieces-touch value (b ∷ []) = tt
pieces-touch value (b ∷ c ∷ []) = tt
pieces-touch value (b ∷ c ∷ d ∷ bs) = (refl, pieces-touch value (c ∷ d ∷ bs))

again : (a b x : Bool) → (a || b || (b || x)) ≡ (a || (b || x))
again true b x = refl
again false true x = refl
again false false x = refl

pieces-marks : (value : ℤ → Option ℤ) (b c : ℤ) (bs : List ℤ) (tick : ℤ)
    → mark_at (pieces value (b ∷ c ∷ bs)) tick ≡ marks_of (b ∷ c ∷ bs) tick
pieces-marks value b c [] tick = last_two (int_eq tick (b +ℤ pos 1)) (int_eq tick (c +ℤ pos 1))
pieces-marks value b c (d ∷ bs) tick =
    rw (pieces-marks value c d bs tick) (again (int_eq tick (b +ℤ pos 1)) (int_eq tick (c +ℤ pos 1)) (marks_of (d ∷ bs) tick))

-- a stream that changes only at marks, is null above a bound, and has after each boundary the value there
module _ (x : Stream) (value : ℤ → Option ℤ) (high : ℤ) (changes : ChangesOnlyAtMarks x)
    (values : (b : ℤ) → value b ≡ x.cell (b +ℤ pos 1)) (null_high : (tick : ℤ) → high <ℤ tick → x.cell tick ≡ None) where
  -- after the last boundary it is null
  behind_last : (b tick : ℤ) → ((t : ℤ) → (b +ℤ pos 1) <ℤ t → x.mark t ≡ marks_of (b ∷ []) t) → b <ℤ tick → x.cell tick ≡ None
  behind_last b tick marks above =
      by_lt_z high tick
      (λ over. null_high tick over)
      (λ within. sym (cell-kept x tick (high +ℤ pos 1) changes (omega (arith, ints))
      (λ other low up. (let none : int_eq other (b +ℤ pos 1) ≡ false = grind (arith, ints) in
      marks other (omega (arith, ints)) ∙ rw none refl)))
      ∙ null_high (high +ℤ pos 1) (omega (arith, ints)))

  cells_from : (low b : ℤ) (bs : List ℤ) (tick : ℤ) → Rise low high (b ∷ bs)
      → ((t : ℤ) → (b +ℤ pos 1) <ℤ t → x.mark t ≡ marks_of (b ∷ bs) t) → b <ℤ tick → cell_at (pieces value (b ∷ bs)) tick ≡ x.cell tick
  cells_from low b [] tick h marks above = sym (behind_last b tick marks above)
  cells_from low b (c ∷ bs) tick h marks above =
      let next = h.2.0 in
      by_lt_z c tick
      (λ later.
      let outside : covers (record { start = b; end = c; value = value b }) tick ≡ false = grind (arith, ints) in
      rw outside (cells_from (b +ℤ pos 1) c bs tick h.2
      (λ t up. (let none : int_eq t (b +ℤ pos 1) ≡ false = grind (arith, ints) in marks t (omega (arith, ints)) ∙ rw none refl)) later))
      (λ within.
      let inside : covers (record { start = b; end = c; value = value b }) tick ≡ true = grind (arith, ints) in
      let rest : Rise c high (c ∷ bs) = (omega (arith, ints), h.2.1, h.2.2) in
      rw inside (values b ∙ sym (cell-kept x (b +ℤ pos 1) tick changes (omega (arith, ints))
      (λ other low up. (let none : int_eq other (b +ℤ pos 1) ≡ false = grind (arith, ints) in
      marks other low ∙ rw none (marks-before c high (c ∷ bs) other rest (omega (arith, ints))))))))

  module _ (low : ℤ) (null_low : (tick : ℤ) → tick ≤ℤ low → x.cell tick ≡ None) where
    -- up to the first boundary it is null too
    before_first : (b tick : ℤ) (bs : List ℤ) → Rise b high bs → ((t : ℤ) → x.mark t ≡ marks_of bs t) → tick ≤ℤ b → x.cell tick ≡ None
    before_first b tick bs h marks before =
        by_lt_z low tick
        (λ above. cell-kept x low tick changes (omega (arith, ints))
        (λ other lo hi. marks other ∙ marks-before b high bs other h (omega (arith, ints)))
        ∙ null_low low (omega (arith, ints)))
        (λ below. null_low tick below)

    pub pieces-same : (bs : List ℤ) → Rise low high bs → IsNotOne bs → ((t : ℤ) → x.mark t ≡ marks_of bs t)
        → SameStream (stream_of (pieces value bs)) x
    pieces-same [] h some marks = record {
      cells = λ tick. sym (before_first tick tick [] tt marks (omega (arith, ints)));
      marks = λ tick. sym (marks tick);
    }
    pieces-same (b ∷ []) h some marks = absurd some
    pieces-same (b ∷ c ∷ bs) h some marks = record {
      cells = λ tick.
          by_lt_z b tick
          (λ above. cells_from low b (c ∷ bs) tick h (λ t _. marks t) above)
          (λ before.
          let first : Rise b high (b ∷ c ∷ bs) = (omega (arith, ints), h.1, h.2) in
          cell_at-before b high (pieces value (b ∷ c ∷ bs)) tick (pieces-in_order value low high b (c ∷ bs) h) before
          ∙ sym (before_first b tick (b ∷ c ∷ bs) first marks before));
      marks = λ tick. pieces-marks value b c bs tick ∙ sym (marks tick);
    }
