-- A tree so many ticks later gives its stream so many ticks later.
use Rattle.std.proofs.Common.{◌≡◌, ℤ, pos, ◌+ℤ◌, List, map, Option, Some, refl, ap, arith}
use Rattle.std.specs.Prelude.{◌||◌}
use Rattle.std.proofs.lemmas.Int.{ints}
use Rattle.tilt_base.specs.Reduce.{numbers, reduce}
use Rattle.tilt_base.specs.declared.reducer.Reducer.{Reducer}
use Rattle.tilt_stream.proofs.Same.{same-refl, lifted1-same, lifted2-same, branched-same}
use Rattle.tilt_fuse.specs.FusedTree.{FusedTree, Const, Port, Win, WinBy, Argument, One, Two, If}
use Rattle.tilt_fuse.specs.Plan.{moved}
use Rattle.tilt_fuse.specs.Streams.{map_cell, fused_stream}
use Rattle.tilt_stream.specs.Pointwise.{constant, nothing, shifted}
use Rattle.tilt_stream.specs.Stream.{Stream, SameStream}
use Rattle.tilt_stream.specs.Window.{met}
use Rattle.tilt_core.specs.Meaning.{source_of}

-- by no ticks it is itself
pub moved-none : (tree : FusedTree) → moved (pos 0) tree ≡ tree
moved-none (Const number) = refl
moved-none (Port source offset) = ap (Port source) (omega (arith, ints))
moved-none (Win reducer source from to) =
    let first : from +ℤ pos 0 ≡ from = omega (arith, ints) in
    let last : to +ℤ pos 0 ≡ to = omega (arith, ints) in
    rw (first, last) refl
moved-none (WinBy map reducer source from to) =
    let first : from +ℤ pos 0 ≡ from = omega (arith, ints) in
    let last : to +ℤ pos 0 ≡ to = omega (arith, ints) in
    rw (first, last) refl
moved-none Argument = refl
moved-none (One op a) = ap (One op) (moved-none a)
moved-none (Two op a b) = rw (moved-none a, moved-none b) refl
moved-none (If c a b) = rw (moved-none c, moved-none a, moved-none b) refl

-- the window of a tick moved is that of the tick so many later
windowed-cell : (reducer : Reducer) (from to by tick : ℤ) (cells : ℤ → ℤ → List (Option ℤ))
    → reduce reducer (numbers (cells (tick +ℤ (from +ℤ by)) (tick +ℤ (to +ℤ by)))) ≡ reduce reducer (numbers (cells (tick +ℤ by +ℤ from) (tick +ℤ by +ℤ to)))
windowed-cell reducer from to by tick cells =
    let first : tick +ℤ (from +ℤ by) ≡ tick +ℤ by +ℤ from = omega (arith, ints) in
    let last : tick +ℤ (to +ℤ by) ≡ tick +ℤ by +ℤ to = omega (arith, ints) in
    λ i. reduce reducer (numbers (cells (first i) (last i)))

windowed-mark : (from to by tick : ℤ) (x : Stream)
    → (x.mark (tick +ℤ (to +ℤ by)) || x.mark (tick +ℤ (from +ℤ by) +ℤ pos 1)) ≡ (x.mark (tick +ℤ by +ℤ to) || x.mark (tick +ℤ by +ℤ from +ℤ pos 1))
windowed-mark from to by tick x =
    let first : tick +ℤ (from +ℤ by) ≡ tick +ℤ by +ℤ from = omega (arith, ints) in
    let last : tick +ℤ (to +ℤ by) ≡ tick +ℤ by +ℤ to = omega (arith, ints) in
    λ i. x.mark (last i) || x.mark (first i +ℤ pos 1)

-- a tree that is moved gives its stream as it is so many ticks later
pub moved-stream : (xs : List Stream) (by : ℤ) (tree : FusedTree) → SameStream (fused_stream xs (moved by tree)) (shifted (fused_stream xs tree) by)
moved-stream xs by (Const number) = same-refl (constant (Some number))
moved-stream xs by (Port source offset) = record {
  cells = λ tick.
      let at : tick +ℤ (offset +ℤ by) ≡ tick +ℤ by +ℤ offset = omega (arith, ints) in
      ap (λ (t : ℤ). (source_of xs source).cell t) at;
  marks = λ tick.
      let at : tick +ℤ (offset +ℤ by) ≡ tick +ℤ by +ℤ offset = omega (arith, ints) in
      ap (λ (t : ℤ). (source_of xs source).mark t) at;
}
moved-stream xs by (Win reducer source from to) = record {
  cells = λ tick. windowed-cell reducer from to by tick (met (source_of xs source));
  marks = λ tick. windowed-mark from to by tick (source_of xs source);
}
moved-stream xs by (WinBy map_tree reducer source from to) = record {
  cells = λ tick. windowed-cell reducer from to by tick (λ lo hi. map (map_cell map_tree) (met (source_of xs source) lo hi));
  marks = λ tick. windowed-mark from to by tick (source_of xs source);
}
moved-stream xs by Argument = same-refl nothing
moved-stream xs by (One op a) = lifted1-same op (fused_stream xs (moved by a)) (shifted (fused_stream xs a) by) (moved-stream xs by a)
moved-stream xs by (Two op a b) =
    lifted2-same op (fused_stream xs (moved by a)) (shifted (fused_stream xs a) by) (fused_stream xs (moved by b)) (shifted (fused_stream xs b) by)
    (moved-stream xs by a) (moved-stream xs by b)
moved-stream xs by (If c a b) =
    branched-same (fused_stream xs (moved by c)) (shifted (fused_stream xs c) by) (fused_stream xs (moved by a)) (shifted (fused_stream xs a) by)
    (fused_stream xs (moved by b)) (shifted (fused_stream xs b) by) (moved-stream xs by c) (moved-stream xs by a) (moved-stream xs by b)
