-- What makes a stream that changes only at marks: rows do, and each operator, window, grid and restriction of such streams.
use Rattle.std.proofs.Common.{◌≡◌, ℕ, zero, suc, ℤ, pos, ◌+ℤ◌, ◌-ℤ◌, Bool, true, false, ◌&&◌, ◌||◌, List, [], ◌∷◌, Option, None, if◌then◌else◌, refl, sym, ap, ◌∙◌, arith, subst}
use Rattle.std.specs.Int.{int_gap}
use Rattle.std.specs.Ordering.{int_eq}
use Rattle.std.specs.Prelude.{unsigned_abs}
use Rattle.std.proofs.lemmas.Int.{ints, by_lt_z}
use Rattle.std.proofs.lemmas.Bool.{or_parts}
use Rattle.tilt_base.proofs.Booleans.{none_of_three}
use Rattle.tilt_base.proofs.Comparisons.{unsigned_abs_is}
use Rattle.tilt_base.specs.Grid.{GridPoints, IsGrid, is_point, ceil}
use Rattle.tilt_base.proofs.GridPoints.{ceil-point, ceil-between}
use Rattle.tilt_base.specs.Reduce.{numbers, reduce}
use Rattle.tilt_base.specs.Scalar.{apply1}
use Rattle.tilt_base.specs.declared.operator.Op1.{Op1}
use Rattle.tilt_base.specs.declared.operator.Op2.{Op2}
use Rattle.tilt_base.specs.declared.reducer.Reducer.{Reducer}
use Rattle.tilt_stream.proofs.Cut.{int_gap_is, int_gap_none}
use Rattle.tilt_stream.specs.Agreement.{ChangesOnlyAtMarks}
use Rattle.tilt_stream.specs.Domain.{some_mark, on_grid, lies_in, restricted}
use Rattle.tilt_stream.specs.Pointwise.{constant, shifted, lifted1, lifted2, branched}
use Rattle.tilt_stream.specs.Snap.{Snapshot}
use Rattle.tilt_stream.specs.Stream.{Stream, stream_of, cell_at, mark_at, covers}
use Rattle.tilt_stream.specs.Window.{met_behind, met, windowed}

-- a snapshot covers both or none of two ticks of which the second is no beginning and no end
covers-unmarked : (s : Snapshot) (tick : ℤ) → int_eq tick (s.start +ℤ pos 1) ≡ false → int_eq tick (s.end +ℤ pos 1) ≡ false → covers s tick ≡ covers s (tick -ℤ pos 1)
covers-unmarked s tick start end = grind (arith, ints)

rows_unchanged : (rows : List Snapshot) (tick : ℤ) → mark_at rows tick ≡ false → cell_at rows tick ≡ cell_at rows (tick -ℤ pos 1)
rows_unchanged [] tick clear = refl
rows_unchanged (s ∷ ss) tick clear =
    let none = none_of_three (int_eq tick (s.start +ℤ pos 1)) (int_eq tick (s.end +ℤ pos 1)) (mark_at ss tick) clear in
    rw (covers-unmarked s tick none.0 none.1, rows_unchanged ss tick none.2) refl

-- the stream of rows
pub stream_of-changes : (rows : List Snapshot) → ChangesOnlyAtMarks (stream_of rows)
stream_of-changes rows = record { unchanged = rows_unchanged rows }

pub constant-changes : (cell : Option ℤ) → ChangesOnlyAtMarks (constant cell)
constant-changes cell = record { unchanged = λ tick clear. refl }

pub shifted-changes : (x : Stream) (offset : ℤ) → ChangesOnlyAtMarks x → ChangesOnlyAtMarks (shifted x offset)
shifted-changes x offset h = record {
  unchanged = λ tick clear.
      let same : (tick +ℤ offset) -ℤ pos 1 ≡ (tick -ℤ pos 1) +ℤ offset = omega (arith, ints) in
      h.unchanged (tick +ℤ offset) clear ∙ ap (λ (t : ℤ). x.cell t) same;
}

pub lifted1-changes : (op : Op1) (x : Stream) → ChangesOnlyAtMarks x → ChangesOnlyAtMarks (lifted1 op x)
lifted1-changes op x h = record { unchanged = λ tick clear. ap (λ a. apply1 op a) (h.unchanged tick clear) }

pub lifted2-changes : (op : Op2) (x y : Stream) → ChangesOnlyAtMarks x → ChangesOnlyAtMarks y → ChangesOnlyAtMarks (lifted2 op x y)
lifted2-changes op x y g h = record {
  unchanged = λ tick clear.
      let none = or_parts (x.mark tick) (y.mark tick) clear in
      rw (g.unchanged tick none.0, h.unchanged tick none.1) refl;
}

pub branched-changes : (c x y : Stream) → ChangesOnlyAtMarks c → ChangesOnlyAtMarks x → ChangesOnlyAtMarks y → ChangesOnlyAtMarks (branched c x y)
branched-changes c x y f g h = record {
  unchanged = λ tick clear.
      let none = none_of_three (c.mark tick) (x.mark tick) (y.mark tick) clear in
      rw (f.unchanged tick none.0, g.unchanged tick none.1, h.unchanged tick none.2) refl;
}

-- the last tick of a window meets no further snapshot where it has no mark
met_behind-last : (x : Stream) (tick : ℤ) (n : ℕ) → x.mark (tick +ℤ pos (suc n)) ≡ false → met_behind x false tick (suc n) ≡ met_behind x false tick n
met_behind-last x tick zero clear = rw clear refl
met_behind-last x tick (suc n) clear =
    let at : (tick +ℤ pos 1) +ℤ pos (suc n) ≡ tick +ℤ pos (suc (suc n)) = omega (arith, ints) in
    let rest = met_behind-last x (tick +ℤ pos 1) n (rw at clear) in
    rw rest refl

-- nor does the first one
met_behind-first : (x : Stream) (tick : ℤ) (n : ℕ) → x.mark (tick +ℤ pos 1) ≡ false → met_behind x false tick (suc n) ≡ met_behind x false (tick +ℤ pos 1) n
met_behind-first x tick n clear = rw clear refl

-- a window that moves by one tick meets the same cells, where no snapshot begins at its new last tick and none at its new first one
met_behind-moved : (x : Stream) → ChangesOnlyAtMarks x → (lo : ℤ) (n : ℕ) → x.mark (lo +ℤ pos 1 +ℤ pos 1) ≡ false
    → x.mark (lo +ℤ pos 1 +ℤ pos n) ≡ false → met_behind x true lo n ≡ met_behind x true (lo +ℤ pos 1) n
met_behind-moved x h lo zero first last = refl
met_behind-moved x h lo (suc zero) first last =
    let same : lo +ℤ pos 1 +ℤ pos 1 -ℤ pos 1 ≡ lo +ℤ pos 1 = omega (arith, ints) in
    ap (λ (c : Option ℤ). c ∷ []) (sym (h.unchanged (lo +ℤ pos 1 +ℤ pos 1) first ∙ ap (λ (t : ℤ). x.cell t) same))
met_behind-moved x h lo (suc (suc n)) first last =
    let same : lo +ℤ pos 1 +ℤ pos 1 -ℤ pos 1 ≡ lo +ℤ pos 1 = omega (arith, ints) in
    let cell = h.unchanged (lo +ℤ pos 1 +ℤ pos 1) first ∙ ap (λ (t : ℤ). x.cell t) same in
    let at : lo +ℤ pos 1 +ℤ pos 1 +ℤ pos (suc n) ≡ lo +ℤ pos 1 +ℤ pos (suc (suc n)) = omega (arith, ints) in
    ap (λ (rest : List (Option ℤ)). x.cell (lo +ℤ pos 1) ∷ rest) (met_behind-first x (lo +ℤ pos 1) n first ∙ sym (met_behind-last x (lo +ℤ pos 1 +ℤ pos 1) n (rw at last)))
    ∙ ap (λ (c : Option ℤ). c ∷ met_behind x false (lo +ℤ pos 1 +ℤ pos 1) (suc n)) (sym cell)

-- the same of a stretch
met-moved : (x : Stream) → ChangesOnlyAtMarks x → (lo hi lo' hi' : ℤ) → lo' ≡ lo +ℤ pos 1 → hi' ≡ hi +ℤ pos 1 → x.mark (lo' +ℤ pos 1) ≡ false → x.mark hi' ≡ false → met x lo' hi' ≡ met x lo hi
met-moved x h lo hi lo' hi' lo_is hi_is first last =
    by_lt_z lo hi
    (λ some.
    let n = int_gap_is lo hi (omega (arith, ints)) in
    let n' = int_gap_is lo' hi' (omega (arith, ints)) in
    let same : int_gap lo' hi' ≡ int_gap lo hi = omega (arith, ints) in
    let end : lo +ℤ pos 1 +ℤ pos (int_gap lo hi) ≡ hi' = omega (arith, ints) in
    ap (λ (k : ℕ). met_behind x true lo' k) same ∙ ap (λ (t : ℤ). met_behind x true t (int_gap lo hi)) lo_is
    ∙ sym (met_behind-moved x h lo (int_gap lo hi) (subst (λ (t : ℤ). x.mark (t +ℤ pos 1) ≡ false) lo_is first) (rw end last)))
    (λ none.
    ap (λ (k : ℕ). met_behind x true lo' k) (int_gap_none lo' hi' (omega (arith, ints)))
    ∙ sym (ap (λ (k : ℕ). met_behind x true lo k) (int_gap_none lo hi none)))

pub windowed-changes : (reducer : Reducer) (from to : ℤ) (x : Stream) → ChangesOnlyAtMarks x → ChangesOnlyAtMarks (windowed reducer from to x)
windowed-changes reducer from to x h = record {
  unchanged = λ tick clear.
      let none = or_parts (x.mark (tick +ℤ to)) (x.mark (tick +ℤ from +ℤ pos 1)) clear in
      ap (λ (cells : List (Option ℤ)). reduce reducer (numbers cells))
      (met-moved x h (tick -ℤ pos 1 +ℤ from) (tick -ℤ pos 1 +ℤ to) (tick +ℤ from) (tick +ℤ to) (omega (arith, ints)) (omega (arith, ints)) none.1 none.0);
}

-- over ticks without a mark the cell stays
some_mark-none : (x : Stream) → ChangesOnlyAtMarks x → (tick : ℤ) (n : ℕ) → some_mark x tick n ≡ false → x.cell (tick +ℤ pos n) ≡ x.cell tick
some_mark-none x h tick zero clear =
    let same : tick +ℤ pos 0 ≡ tick = omega (arith, ints) in
    ap (λ (t : ℤ). x.cell t) same
some_mark-none x h tick (suc n) clear =
    let none = or_parts (x.mark (tick +ℤ pos 1)) (some_mark x (tick +ℤ pos 1) n) clear in
    let at : tick +ℤ pos (suc n) ≡ tick +ℤ pos 1 +ℤ pos n = omega (arith, ints) in
    let back : tick +ℤ pos 1 -ℤ pos 1 ≡ tick = omega (arith, ints) in
    ap (λ (t : ℤ). x.cell t) at ∙ some_mark-none x h (tick +ℤ pos 1) n none.1 ∙ h.unchanged (tick +ℤ pos 1) none.0 ∙ ap (λ (t : ℤ). x.cell t) back

module _ (grid : GridPoints) (x : Stream) (valid : IsGrid grid) (h : ChangesOnlyAtMarks x) (tick before : ℤ) (is : before +ℤ pos 1 ≡ tick) where
  on_grid_by : (point : Bool) → is_point grid before ≡ point → (point && some_mark x before (unsigned_abs grid.period)) ≡ false → x.cell (ceil grid tick) ≡ x.cell (ceil grid before)
  on_grid_by true point clear =
      let law = ceil-point grid before valid.period_low point in
      let width = unsigned_abs_is grid.period valid.period_low in
      let next : ceil grid tick ≡ before +ℤ pos (unsigned_abs grid.period) = ap (ceil grid) (sym is) ∙ law.1 ∙ ap (λ (p : ℤ). before +ℤ p) (sym width) in
      ap (λ (t : ℤ). x.cell t) next ∙ some_mark-none x h before (unsigned_abs grid.period) clear ∙ ap (λ (t : ℤ). x.cell t) (sym law.0)
  on_grid_by false point clear = ap (λ (t : ℤ). x.cell t) (ap (ceil grid) (sym is) ∙ ceil-between grid before valid.period_low point)

pub on_grid-changes : (grid : GridPoints) (x : Stream) → IsGrid grid → ChangesOnlyAtMarks x → ChangesOnlyAtMarks (on_grid grid x)
on_grid-changes grid x valid h = record {
  unchanged = λ tick clear. on_grid_by grid x valid h tick (tick -ℤ pos 1) (omega (arith, ints)) (is_point grid (tick -ℤ pos 1)) refl clear;
}

module _ (lo hi : ℤ) (x : Stream) (h : ChangesOnlyAtMarks x) (tick : ℤ) where
  restricted_by : (inside : Bool) → (int_eq tick (lo +ℤ pos 1) || int_eq tick (hi +ℤ pos 1) || (inside && x.mark tick)) ≡ false
      → (if inside then x.cell tick else None) ≡ (if inside then x.cell (tick -ℤ pos 1) else None)
  restricted_by true clear =
      let none = none_of_three (int_eq tick (lo +ℤ pos 1)) (int_eq tick (hi +ℤ pos 1)) (x.mark tick) clear in
      h.unchanged tick none.2
  restricted_by false clear = refl

  lies_in-unmarked : int_eq tick (lo +ℤ pos 1) ≡ false → int_eq tick (hi +ℤ pos 1) ≡ false → lies_in lo hi tick ≡ lies_in lo hi (tick -ℤ pos 1)
  lies_in-unmarked start end = grind (arith, ints)

pub restricted-changes : (lo hi : ℤ) (x : Stream) → ChangesOnlyAtMarks x → ChangesOnlyAtMarks (restricted lo hi x)
restricted-changes lo hi x h = record {
  unchanged = λ tick clear.
      let none = none_of_three (int_eq tick (lo +ℤ pos 1)) (int_eq tick (hi +ℤ pos 1)) (lies_in lo hi tick && x.mark tick) clear in
      rw (← lies_in-unmarked lo hi x h tick none.0 none.1) (restricted_by lo hi x h tick (lies_in lo hi tick) clear);
}
