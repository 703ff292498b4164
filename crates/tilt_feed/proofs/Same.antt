-- Sources that are the same up to their horizons make definitions that are the same up to theirs.
use Rattle.std.proofs.Common.{◌≡◌, ℕ, zero, suc, ℤ, pos, ◌+ℤ◌, ◌-ℤ◌, ◌≤ℤ◌, ◌<ℤ◌, Bool, true, false, ◌&&◌, ◌||◌, List, [], ◌∷◌, ◌++◌, Option, Some, None}
use Rattle.std.proofs.Common.{if◌then◌else◌, refl, ap, arith}
use Rattle.std.specs.Prelude.{⊤}
use Rattle.std.specs.Ordering.{int_eq}
use Rattle.std.proofs.lemmas.Int.{ints}
use Rattle.tilt_base.specs.Expression.{Leaf, One, Two, If}
use Rattle.tilt_base.specs.Grid.{GridPoints, is_point, ceil}
use Rattle.tilt_base.specs.Reduce.{numbers, reduce}
use Rattle.tilt_base.specs.Scalar.{apply1}
use Rattle.tilt_base.specs.declared.reducer.Reducer.{Reducer}
use Rattle.tilt_base.specs.declared.span.Span.{Span}
use Rattle.tilt_core.specs.Core.{ReadsBelow, IsDefinition, AreDefinitions}
use Rattle.tilt_core.specs.CoreTree.{Const, Read, Reduce, CoreTree, Definition}
use Rattle.tilt_core.specs.Meaning.{source_of, body_of, within, definition_of, with_definitions}
use Rattle.tilt_feed.proofs.Known.{known-below, known-first, known-second, known-later, known-point, known-period, known-inside}
use Rattle.tilt_feed.specs.Horizon.{Horizon, IsKnownAt, earlier, earlier_by, horizon_of, body_horizon, grid_horizon, over_horizon, definition_horizon, with_horizons}
use Rattle.tilt_feed.specs.Laws.{AgreeUpTo}
use Rattle.tilt_stream.proofs.Locality.{met-agrees, on_grid-agrees}
use Rattle.tilt_stream.specs.Agreement.{Agree}
use Rattle.tilt_stream.specs.Domain.{on_grid, lies_in}
use Rattle.tilt_stream.specs.Stream.{Stream}
use Rattle.tilt_stream.specs.Window.{windowed}

-- on a stretch up to a known tick they agree
pub same-agree : (h : Horizon) (x y : Stream) (lo hi : ℤ) → AgreeUpTo h x y → IsKnownAt h hi → Agree x y lo hi
same-agree h x y lo hi same known = record {
  cells = λ tick above below. same.cells tick (known-below h hi tick known below);
  marks = λ tick above below. same.marks tick (known-below h hi tick known below);
}

windowed-same : (h : Horizon) (reducer : Reducer) (from to : ℤ) (x y : Stream) → from <ℤ to → AgreeUpTo h x y
    → AgreeUpTo (earlier_by h to) (windowed reducer from to x) (windowed reducer from to y)
windowed-same h reducer from to x y ends same = record {
  cells = λ tick known.
      ap (λ (cells : List (Option ℤ)). reduce reducer (numbers cells))
      (met-agrees x y (tick +ℤ from) (tick +ℤ to) (tick +ℤ from) (tick +ℤ to)
      (same-agree h x y (tick +ℤ from) (tick +ℤ to) same (known-later h to tick known)) (omega (arith, ints)) (omega (arith, ints)));
  marks = λ tick known.
      let last = known-later h to tick known in
      let first = known-below h (tick +ℤ to) (tick +ℤ from +ℤ pos 1) last (omega (arith, ints)) in
      rw (same.marks (tick +ℤ to) last, same.marks (tick +ℤ from +ℤ pos 1) first) refl;
}

module _ (hs : List Horizon) (xs ys : List Stream) (bound : ℕ)
    (all : (source : ℕ) → AgreeUpTo (horizon_of hs source) (source_of xs source) (source_of ys source)) where
  body-same : (body : CoreTree) → ReadsBelow bound body → AgreeUpTo (body_horizon hs body) (body_of xs body) (body_of ys body)
  body-same (Leaf (Const number)) reads = record { cells = λ tick known. refl; marks = λ tick known. refl }
  body-same (Leaf (Read source offset)) reads = record {
    cells = λ tick known. (all source).cells (tick +ℤ offset) (known-later (horizon_of hs source) offset tick known);
    marks = λ tick known. (all source).marks (tick +ℤ offset) (known-later (horizon_of hs source) offset tick known);
  }
  body-same (Leaf (Reduce reducer source from to)) reads =
      windowed-same (horizon_of hs source) reducer from to (source_of xs source) (source_of ys source) reads.1 (all source)
  body-same (One op a) reads =
      let f = body-same a reads in
      record {
        cells = λ tick known. ap (λ (c : Option ℤ). apply1 op c) (f.cells tick known);
        marks = λ tick known. f.marks tick known;
      }
  body-same (Two op a b) reads =
      let f = body-same a reads.0 in
      let g = body-same b reads.1 in
      let left = known-first (body_horizon hs a) (body_horizon hs b) in
      let right = known-second (body_horizon hs a) (body_horizon hs b) in
      record {
        cells = λ tick known. rw (f.cells tick (left tick known), g.cells tick (right tick known)) refl;
        marks = λ tick known. rw (f.marks tick (left tick known), g.marks tick (right tick known)) refl;
      }
  body-same (If c a b) reads =
      let e = body-same c reads.0 in
      let f = body-same a reads.1 in
      let g = body-same b reads.2 in
      let h = body_horizon hs c in
      let i = body_horizon hs a in
      let j = body_horizon hs b in
      let first : (tick : ℤ) → IsKnownAt (earlier h (earlier i j)) tick → IsKnownAt h tick = known-first h (earlier i j) in
      let second : (tick : ℤ) → IsKnownAt (earlier h (earlier i j)) tick → IsKnownAt i tick = λ tick known. known-first i j tick (known-second h (earlier i j) tick known) in
      let third : (tick : ℤ) → IsKnownAt (earlier h (earlier i j)) tick → IsKnownAt j tick = λ tick known. known-second i j tick (known-second h (earlier i j) tick known) in
      record {
        cells = λ tick known. rw (e.cells tick (first tick known), f.cells tick (second tick known), g.cells tick (third tick known)) refl;
        marks = λ tick known. rw (e.marks tick (first tick known), f.marks tick (second tick known), g.marks tick (third tick known)) refl;
      }

-- on a grid
module _ (grid : GridPoints) (h : Horizon) (x y : Stream) (valid : pos 1 ≤ℤ grid.period) (same : AgreeUpTo h x y) where
  point-marks : (tick : ℤ) (point : Bool) → is_point grid (tick -ℤ pos 1) ≡ point → IsKnownAt (grid_horizon grid h) tick
      → (on_grid grid x).mark tick ≡ (on_grid grid y).mark tick
  point-marks tick true point known =
      let period = known-period grid h tick valid point known in
      let there = same-agree h x y (tick -ℤ pos 2) (tick +ℤ grid.period -ℤ pos 1) same period in
      (on_grid-agrees grid x y (tick -ℤ pos 2) tick valid there).marks tick (omega (arith, ints)) (omega (arith, ints))
  point-marks tick false point known = rw point refl

  pub on_grid-same : AgreeUpTo (grid_horizon grid h) (on_grid grid x) (on_grid grid y)
  on_grid-same = record {
    cells = λ tick known. same.cells (ceil grid tick) (known-point grid h tick valid known);
    marks = λ tick known. point-marks tick (is_point grid (tick -ℤ pos 1)) refl known;
  }

-- restricted to a span
module _ (span : Span) (h : Horizon) (x y : Stream) (same : AgreeUpTo h x y) (tick : ℤ) (known : IsKnownAt (over_horizon (Some span) h) tick) where
  inside-cell : (inside : Bool) → lies_in span.start span.end tick ≡ inside → (if inside then x.cell tick else None) ≡ (if inside then y.cell tick else None)
  inside-cell true is = same.cells tick (known-inside span h tick known is)
  inside-cell false is = refl

  inside-mark : (inside : Bool) → lies_in span.start span.end tick ≡ inside → (inside && x.mark tick) ≡ (inside && y.mark tick)
  inside-mark true is = same.marks tick (known-inside span h tick known is)
  inside-mark false is = refl

pub within-same : (over : Option Span) (h : Horizon) (x y : Stream) → AgreeUpTo h x y → AgreeUpTo (over_horizon over h) (within over x) (within over y)
within-same None h x y same = same
within-same (Some span) h x y same = record {
  cells = λ tick known. inside-cell span h x y same tick known (lies_in span.start span.end tick) refl;
  marks = λ tick known.
      ap (λ (m : Bool). int_eq tick (span.start +ℤ pos 1) || int_eq tick (span.end +ℤ pos 1) || m)
      (inside-mark span h x y same tick known (lies_in span.start span.end tick) refl);
}

-- two lists of streams, each stream the same as the other up to a horizon
abbrev pub AreAllSame : List Horizon → List Stream → List Stream → Type 0
AreAllSame [] [] [] = ⊤
AreAllSame [] [] (y ∷ ys) = ⊥
AreAllSame [] (x ∷ xs) ys = ⊥
AreAllSame (h ∷ hs) [] ys = ⊥
AreAllSame (h ∷ hs) (x ∷ xs) [] = ⊥
AreAllSame (h ∷ hs) (x ∷ xs) (y ∷ ys) = AgreeUpTo h x y × AreAllSame hs xs ys

pub same-at : (hs : List Horizon) (xs ys : List Stream) → AreAllSame hs xs ys → (source : ℕ)
    → AgreeUpTo (horizon_of hs source) (source_of xs source) (source_of ys source)
same-at [] [] [] all source = record { cells = λ tick known. refl; marks = λ tick known. refl }
same-at [] [] (y ∷ ys) all source = absurd all
same-at [] (x ∷ xs) ys all source = absurd all
same-at (h ∷ hs) [] ys all source = absurd all
same-at (h ∷ hs) (x ∷ xs) [] all source = absurd all
same-at (h ∷ hs) (x ∷ xs) (y ∷ ys) all zero = all.0
same-at (h ∷ hs) (x ∷ xs) (y ∷ ys) all (suc source) = same-at hs xs ys all.1 source

same-push : (hs : List Horizon) (xs ys : List Stream) (h : Horizon) (x y : Stream) → AreAllSame hs xs ys → AgreeUpTo h x y
    → AreAllSame (hs ++ h ∷ []) (xs ++ x ∷ []) (ys ++ y ∷ [])
same-push [] [] [] h x y all same = (same, tt)
same-push [] [] (v ∷ ys) h x y all same = absurd all
same-push [] (v ∷ xs) ys h x y all same = absurd all
same-push (g ∷ hs) [] ys h x y all same = absurd all
same-push (g ∷ hs) (v ∷ xs) [] h x y all same = absurd all
same-push (g ∷ hs) (v ∷ xs) (w ∷ ys) h x y all same = (all.0, same-push hs xs ys h x y all.1 same)

definition-same : (hs : List Horizon) (xs ys : List Stream) (bound : ℕ) (def : Definition) → AreAllSame hs xs ys → IsDefinition bound def
    → AgreeUpTo (definition_horizon hs def) (definition_of xs def) (definition_of ys def)
definition-same hs xs ys bound def all is =
    let x = body_of xs def.body in
    let y = body_of ys def.body in
    let h = body_horizon hs def.body in
    let bodies = body-same hs xs ys bound (same-at hs xs ys all) def.body is.reads in
    within-same def.over (grid_horizon def.grid h) (on_grid def.grid x) (on_grid def.grid y) (on_grid-same def.grid h x y is.grid.period_low bodies)

-- definitions over sources that are the same up to their horizons are the same up to theirs
pub definitions-same : (number : ℕ) (hs : List Horizon) (xs ys : List Stream) (defs : List Definition) → AreAllSame hs xs ys → AreDefinitions number defs
    → AreAllSame (with_horizons hs defs) (with_definitions xs defs) (with_definitions ys defs)
definitions-same number hs xs ys [] all are = all
definitions-same number hs xs ys (def ∷ defs) all are =
    definitions-same (suc number) (hs ++ definition_horizon hs def ∷ []) (xs ++ definition_of xs def ∷ []) (ys ++ definition_of ys def ∷ []) defs
    (same-push hs xs ys (definition_horizon hs def) (definition_of xs def) (definition_of ys def) all (definition-same hs xs ys number def all are.0)) are.1
