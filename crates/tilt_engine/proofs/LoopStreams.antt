-- If the streams of buffers go on, so does the stream of a loop over them.
use Rattle.std.proofs.Common.{◌≡◌, ℕ, zero, suc, ℤ, pos, ◌+ℤ◌, ◌-ℤ◌, ◌≤ℤ◌, ◌<ℤ◌, Bool, true, false, ◌&&◌, ◌||◌, List, [], ◌∷◌, ◌++◌, map, get_or}
use Rattle.std.proofs.Common.{Option, Some, None, unsigned_abs, refl, ap, ◌∙◌, arith, IsTrue}
use Rattle.std.specs.List.{AllByRecursion}
use Rattle.std.specs.Ordering.{int_eq}
use Rattle.std.proofs.lemmas.Int.{ints}
use Rattle.tilt_base.proofs.Comparisons.{unsigned_abs_is}
use Rattle.tilt_base.specs.Grid.{GridPoints, IsGrid, is_point}
use Rattle.tilt_base.specs.Offset.{IsOffset}
use Rattle.tilt_base.specs.Reduce.{numbers, reduce}
use Rattle.tilt_base.specs.declared.limits.TheConstants.{PERIOD, REACH, T, WIDE}
use Rattle.tilt_base.specs.declared.reducer.Reducer.{Reducer}
use Rattle.tilt_base.specs.declared.span.Span.{Span}
use Rattle.tilt_code.proofs.Constancy.{instr_cell-same}
use Rattle.tilt_code.specs.Body.{body_of, instr_cell, last_or, leaf_marked, leaf_of, mapped, with_registers}
use Rattle.tilt_code.specs.Code.{Block, LoopParts}
use Rattle.tilt_code.specs.Grammar.{IsInstr, IsLoop, IsWindow, stands_in_body}
use Rattle.tilt_code.specs.Meaning.{loop_of}
use Rattle.tilt_code.specs.declared.instr.Instr.{Instr}
use Rattle.tilt_code.specs.declared.instr.Instr.TheVariants.{Const, Null, Argument, Port, Win, One, Two, If}
use Rattle.tilt_engine.specs.CodeHorizon.{block_horizon, instr_horizon, loop_horizon}
use Rattle.tilt_feed.proofs.Known.{known-below, known-first, known-later, known-second}
use Rattle.tilt_feed.proofs.Same.{on_grid-same, same-agree, within-same}
use Rattle.tilt_feed.proofs.SureMarks.{either_true}
use Rattle.tilt_feed.specs.Horizon.{Horizon, IsKnownAt, earlier_by, grid_horizon, horizon_of}
use Rattle.tilt_feed.specs.Laws.{AgreeUpTo}
use Rattle.tilt_stream.proofs.Locality.{met-agrees}
use Rattle.tilt_stream.specs.Domain.{lies_in, on_grid, restricted, some_mark}
use Rattle.tilt_stream.specs.Pointwise.{nothing}
use Rattle.tilt_stream.specs.Stream.{Stream}
use Rattle.tilt_stream.specs.Window.{windowed_by}

-- of a stream and a later state of it: up to the horizon both are the same, and no mark up to the limit goes
pub record StreamGoesOn (h : Horizon) (limit : ℤ) (x y : Stream) : Type 0 where
  pub same : AgreeUpTo h x y
  pub kept : (tick : ℤ) → tick ≤ℤ limit → x.mark tick ≡ true → y.mark tick ≡ true

-- up to where a loop reads marks of its body: it ends at `T + REACH` at the latest, and its grid reads up to a period further
abbrev LEAVES : ℤ
LEAVES = T +ℤ REACH +ℤ PERIOD

nothing-goes_on : (h : Horizon) (limit : ℤ) → StreamGoesOn h limit nothing nothing
nothing-goes_on h limit = record {
  same = record { cells = λ tick known. refl; marks = λ tick known. refl };
  kept = λ tick low is. is;
}

-- a window by a map
window-goes_on : (f : Option ℤ → Option ℤ) (h : Horizon) (reducer : Reducer) (from to : ℤ) (x y : Stream) → from <ℤ to → IsOffset from → IsOffset to
    → StreamGoesOn h WIDE x y → StreamGoesOn (earlier_by h to) LEAVES (windowed_by f reducer from to x) (windowed_by f reducer from to y)
window-goes_on f h reducer from to x y ends low high goes = record {
  same = record {
    cells = λ tick known.
        ap (λ (cells : List (Option ℤ)). reduce reducer (numbers (map f cells)))
        (met-agrees x y (tick +ℤ from) (tick +ℤ to) (tick +ℤ from) (tick +ℤ to)
        (same-agree h x y (tick +ℤ from) (tick +ℤ to) goes.same (known-later h to tick known)) (omega (arith, ints)) (omega (arith, ints)));
    marks = λ tick known.
        let last = known-later h to tick known in
        let first = known-below h (tick +ℤ to) (tick +ℤ from +ℤ pos 1) last (omega (arith, ints)) in
        rw (goes.same.marks (tick +ℤ to) last, goes.same.marks (tick +ℤ from +ℤ pos 1) first) refl;
  };
  kept = λ tick within.
      let few = high.1 in
      either_true (x.mark (tick +ℤ to)) (x.mark (tick +ℤ from +ℤ pos 1)) (y.mark (tick +ℤ to)) (y.mark (tick +ℤ from +ℤ pos 1))
      (goes.kept (tick +ℤ to) (omega (arith, ints))) (goes.kept (tick +ℤ from +ℤ pos 1) (omega (arith, ints)));
}

-- the bounds of a window, with a map or without
window-bounds : (reducer : Reducer) (buffer : ℕ) (from to : ℤ) (number : Option ℕ) → IsInstr (Win reducer buffer from to number) → IsWindow buffer from to
window-bounds reducer buffer from to None is = is
window-bounds reducer buffer from to (Some number) is = is.0

-- leaves that give the same make the same registers
registers-same : (hs : List Horizon) (leaf other : Instr → Option ℤ) (tick : ℤ)
    → ((i : Instr) → IsInstr i → IsKnownAt (instr_horizon hs i) tick → leaf i ≡ other i)
    → (cells : List (Option ℤ)) (block : Block) → AllByRecursion (λ i. IsTrue (stands_in_body i) × IsInstr i) block → IsKnownAt (block_horizon hs block) tick
    → with_registers leaf cells block ≡ with_registers other cells block
registers-same hs leaf other tick same cells [] are known = refl
registers-same hs leaf other tick same cells (i ∷ block) are known =
    ap (λ (cell : Option ℤ). with_registers leaf (cells ++ cell ∷ []) block)
    (instr_cell-same leaf other cells i (same i are.0.1 (known-first (instr_horizon hs i) (block_horizon hs block) tick known)))
    ∙ registers-same hs leaf other tick same (cells ++ instr_cell other cells i ∷ []) block are.1 (known-second (instr_horizon hs i) (block_horizon hs block) tick known)

module _ (hs : List Horizon) (xs ys : List Stream) (maps : List Block)
    (all : (buffer : ℕ) → StreamGoesOn (horizon_of hs buffer) WIDE (get_or xs buffer nothing) (get_or ys buffer nothing)) where
  leaf-goes_on : (i : Instr) → IsInstr i → StreamGoesOn (instr_horizon hs i) LEAVES (leaf_of xs maps i) (leaf_of ys maps i)
  leaf-goes_on (Port buffer offset) is =
      let goes = all buffer in
      let few = is.1.1 in
      let h = horizon_of hs buffer in
      record {
        same = record {
          cells = λ tick known. goes.same.cells (tick +ℤ offset) (known-later h offset tick known);
          marks = λ tick known. goes.same.marks (tick +ℤ offset) (known-later h offset tick known);
        };
        kept = λ tick within. goes.kept (tick +ℤ offset) (omega (arith, ints));
      }
  leaf-goes_on (Win reducer buffer from to number) is =
      let bounds = window-bounds reducer buffer from to number is in
      window-goes_on (mapped maps number) (horizon_of hs buffer) reducer from to (get_or xs buffer nothing) (get_or ys buffer nothing)
      bounds.some_ticks bounds.low bounds.high (all buffer)
  leaf-goes_on (Const number) is = nothing-goes_on (instr_horizon hs (Const number)) LEAVES
  leaf-goes_on Null is = nothing-goes_on (instr_horizon hs Null) LEAVES
  leaf-goes_on Argument is = nothing-goes_on (instr_horizon hs Argument) LEAVES
  leaf-goes_on (One op a) is = nothing-goes_on (instr_horizon hs (One op a)) LEAVES
  leaf-goes_on (Two op a b) is = nothing-goes_on (instr_horizon hs (Two op a b)) LEAVES
  leaf-goes_on (If c a b) is = nothing-goes_on (instr_horizon hs (If c a b)) LEAVES

  leaves-same : (block : Block) → AllByRecursion (λ i. IsTrue (stands_in_body i) × IsInstr i) block → (tick : ℤ) → IsKnownAt (block_horizon hs block) tick
      → leaf_marked xs maps tick block ≡ leaf_marked ys maps tick block
  leaves-same [] are tick known = refl
  leaves-same (i ∷ block) are tick known =
      let first = (leaf-goes_on i are.0.1).same.marks tick (known-first (instr_horizon hs i) (block_horizon hs block) tick known) in
      let rest = leaves-same block are.1 tick (known-second (instr_horizon hs i) (block_horizon hs block) tick known) in
      rw (first, rest) refl

  leaves-kept : (block : Block) → AllByRecursion (λ i. IsTrue (stands_in_body i) × IsInstr i) block → (tick : ℤ) → tick ≤ℤ LEAVES
      → leaf_marked xs maps tick block ≡ true → leaf_marked ys maps tick block ≡ true
  leaves-kept [] are tick within is = is
  leaves-kept (i ∷ block) are tick within is =
      either_true ((leaf_of xs maps i).mark tick) (leaf_marked xs maps tick block) ((leaf_of ys maps i).mark tick) (leaf_marked ys maps tick block)
      ((leaf-goes_on i are.0.1).kept tick within) (leaves-kept block are.1 tick within) is

body-goes_on : (hs : List Horizon) (xs ys : List Stream) (l : LoopParts) → IsLoop l
    → ((buffer : ℕ) → StreamGoesOn (horizon_of hs buffer) WIDE (get_or xs buffer nothing) (get_or ys buffer nothing))
    → StreamGoesOn (block_horizon hs l.body) LEAVES (body_of xs l) (body_of ys l)
body-goes_on hs xs ys l is all =
    let leaf = leaf-goes_on hs xs ys l.maps all in
    record {
      same = record {
        cells = λ tick known.
            ap (λ (cells : List (Option ℤ)). last_or None cells)
            (registers-same hs (λ i. (leaf_of xs l.maps i).cell tick) (λ i. (leaf_of ys l.maps i).cell tick) tick
            (λ i bounds there. (leaf i bounds).same.cells tick there) [] l.body is.body.instrs known);
        marks = λ tick known. leaves-same hs xs ys l.maps all l.body is.body.instrs tick known;
      };
      kept = λ tick within marked. leaves-kept hs xs ys l.maps all l.body is.body.instrs tick within marked;
    }

-- on a grid
some_mark-kept : (h : Horizon) (limit : ℤ) (x y : Stream) → StreamGoesOn h limit x y → (tick : ℤ) (n : ℕ) → (tick +ℤ pos n) ≤ℤ limit
    → some_mark x tick n ≡ true → some_mark y tick n ≡ true
some_mark-kept h limit x y goes tick zero within is = is
some_mark-kept h limit x y goes tick (suc n) within is =
    either_true (x.mark (tick +ℤ pos 1)) (some_mark x (tick +ℤ pos 1) n) (y.mark (tick +ℤ pos 1)) (some_mark y (tick +ℤ pos 1) n)
    (goes.kept (tick +ℤ pos 1) (omega (arith, ints))) (some_mark-kept h limit x y goes (tick +ℤ pos 1) n (omega (arith, ints))) is

-- if both of two tests hold, so does the first with one that follows from both
second_kept : (a b d : Bool) → (a ≡ true → b ≡ true → d ≡ true) → (a && b) ≡ true → (a && d) ≡ true
second_kept true b d right is = right refl is
second_kept false b d right is = is

on_grid-goes_on : (grid : GridPoints) (h : Horizon) (x y : Stream) → IsGrid grid → StreamGoesOn h LEAVES x y
    → StreamGoesOn (grid_horizon grid h) (T +ℤ REACH) (on_grid grid x) (on_grid grid y)
on_grid-goes_on grid h x y valid goes =
    let n = unsigned_abs grid.period in
    let width = unsigned_abs_is grid.period valid.period_low in
    let high = valid.period_high in
    record {
      same = on_grid-same grid h x y valid.period_low goes.same;
      kept = λ tick within.
          second_kept (is_point grid (tick -ℤ pos 1)) (some_mark x (tick -ℤ pos 1) n) (some_mark y (tick -ℤ pos 1) n)
          (λ point. some_mark-kept h LEAVES x y goes (tick -ℤ pos 1) n (omega (arith, ints)));
    }

-- over a stretch
inside-high : (lo hi tick : ℤ) → lies_in lo hi tick ≡ true → tick ≤ℤ hi
inside-high lo hi tick inside = grind (arith, ints)

restricted-kept : (lo hi : ℤ) (h : Horizon) (x y : Stream) → hi ≤ℤ (T +ℤ REACH) → StreamGoesOn h (T +ℤ REACH) x y → (tick : ℤ)
    → (restricted lo hi x).mark tick ≡ true → (restricted lo hi y).mark tick ≡ true
restricted-kept lo hi h x y near goes tick =
    either_true (int_eq tick (lo +ℤ pos 1) || int_eq tick (hi +ℤ pos 1)) (lies_in lo hi tick && x.mark tick)
    (int_eq tick (lo +ℤ pos 1) || int_eq tick (hi +ℤ pos 1)) (lies_in lo hi tick && y.mark tick) (λ end. end)
    (second_kept (lies_in lo hi tick) (x.mark tick) (y.mark tick) (λ inside. let low = inside-high lo hi tick inside in goes.kept tick (omega (arith, ints))))

-- a loop over buffers that go on
pub loop-goes_on : (hs : List Horizon) (xs ys : List Stream) (l : LoopParts) → IsLoop l → l.hi ≤ℤ (T +ℤ REACH)
    → ((buffer : ℕ) → StreamGoesOn (horizon_of hs buffer) WIDE (get_or xs buffer nothing) (get_or ys buffer nothing))
    → StreamGoesOn (loop_horizon hs l) WIDE (loop_of xs l) (loop_of ys l)
loop-goes_on hs xs ys l is near all =
    let h = block_horizon hs l.body in
    let x = on_grid l.grid (body_of xs l) in
    let y = on_grid l.grid (body_of ys l) in
    let span : Span = record { start = l.lo; end = l.hi } in
    let goes = on_grid-goes_on l.grid h (body_of xs l) (body_of ys l) is.grid (body-goes_on hs xs ys l is all) in
    record {
      same = within-same (Some span) (grid_horizon l.grid h) x y goes.same;
      kept = λ tick within. restricted-kept l.lo l.hi (grid_horizon l.grid h) x y near goes tick;
    }
