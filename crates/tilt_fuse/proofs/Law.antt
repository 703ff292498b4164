-- An expression over sources, with the trees of merged ones put in, gives what it gives over the sources.
use Rattle.std.proofs.Common.{◌≡◌, ℕ, ℤ, ◌+ℤ◌, ◌==◌, Bool, true, false, List, get_or, Option, Some, None, if◌then◌else◌, refl, sym, ap, ◌∙◌, arith, subst}
use Rattle.std.specs.Prelude.{◌||◌, ◌&&◌, is_some, option_and_then}
use Rattle.std.specs.Option.{option_map_or, option_or}
use Rattle.std.specs.Ordering.{int_eq}
use Rattle.std.proofs.lemmas.Int.{ints}
use Rattle.std.proofs.lemmas.Bool.{or_right, or_left, and_parts, eqb-true}
use Rattle.tilt_base.proofs.Comparisons.{same_number}
use Rattle.tilt_base.specs.Expression.{Leaf}
use Rattle.tilt_base.specs.Expression as expression
use Rattle.tilt_base.specs.Scalar.{apply1, apply2, choose}
use Rattle.tilt_base.specs.declared.reducer.Reducer.{Reducer}
use Rattle.tilt_stream.proofs.Same.{same-refl, same-sym, same-trans, shifted-same, lifted1-same, lifted2-same, branched-same, window-moved, window-later}
use Rattle.tilt_fuse.proofs.Shifted.{moved-stream}
use Rattle.tilt_fuse.specs.FusedTree.{FusedTree, Const, Port, Win, WinBy, Argument, One, Two, If}
use Rattle.tilt_fuse.specs.Plan.{moved, first_port, reads_only, only_reading, as_map, is_port, window_over, window_on, reading_of, fused, has_window_on}
use Rattle.tilt_fuse.specs.Streams.{map_cell, fused_stream}
use Rattle.tilt_fuse.specs.Trees.{EachAsks}
use Rattle.tilt_fuse.specs.declared.reading.Reading.{Reading}
use Rattle.tilt_stream.specs.Pointwise.{constant, shifted}
use Rattle.tilt_stream.specs.Stream.{Stream, SameStream}
use Rattle.tilt_stream.specs.Window.{windowed}
use Rattle.tilt_core.specs.CoreTree.{CoreTree}
use Rattle.tilt_core.specs.CoreTree as core
use Rattle.tilt_core.specs.Meaning.{source_of, body_of}
use Rattle.tilt_core.specs.Needs.{Need}

is_some-or : (p q : Option Reading) → is_some (option_or p q) ≡ (is_some p || is_some q)
is_some-or None q = refl
is_some-or (Some p) q = refl

either-and : (a b m : Bool) → ((a && m) || (b && m)) ≡ ((a || b) && m)
either-and true true true = refl
either-and true true false = refl
either-and true false true = refl
either-and true false false = refl
either-and false b m = refl

pub same_offset : (offset other : ℤ) → int_eq offset other ≡ true → offset ≡ other
same_offset offset other is = grind (arith, ints)

-- a tree that is made from one reading
module _ (P : ℕ → Need → Type 0) (n : Need) (xs : List Stream) (p : Reading) where
  abbrev x : Stream
  x = source_of xs p.source

  port-cell : (source : ℕ) (offset tick : ℤ) → source ≡ p.source → offset ≡ p.offset → (source_of xs source).cell (tick +ℤ offset) ≡ x.cell (tick +ℤ p.offset)
  port-cell source offset tick is at = λ i. (source_of xs (is i)).cell (tick +ℤ at i)

  port-mark : (source : ℕ) (offset tick : ℤ) → source ≡ p.source → offset ≡ p.offset → (source_of xs source).mark (tick +ℤ offset) ≡ x.mark (tick +ℤ p.offset)
  port-mark source offset tick is at = λ i. (source_of xs (is i)).mark (tick +ℤ at i)

  -- gives at each tick what its map gives on the cell there
  only-cell : (tree : FusedTree) → EachAsks P n tree → reads_only p tree ≡ true → (tick : ℤ) → (fused_stream xs tree).cell tick ≡ map_cell (as_map tree) (x.cell (tick +ℤ p.offset))
  only-cell (Const number) asks only tick = refl
  only-cell (Port source offset) asks only tick =
      let parts = and_parts (source == p.source) (int_eq offset p.offset) only in
      port-cell source offset tick (eqb-true source p.source parts.0) (same_offset offset p.offset parts.1)
  only-cell (Win reducer source from to) asks only tick = absurd (cc only)
  only-cell (WinBy map reducer source from to) asks only tick = absurd (cc only)
  only-cell Argument asks only tick = absurd asks
  only-cell (One op a) asks only tick = ap (apply1 op) (only-cell a asks only tick)
  only-cell (Two op a b) asks only tick =
      let parts = and_parts (reads_only p a) (reads_only p b) only in
      λ i. apply2 op (only-cell a asks.0 parts.0 tick i) (only-cell b asks.1 parts.1 tick i)
  only-cell (If c a b) asks only tick =
      let parts = and_parts (reads_only p c) (reads_only p a && reads_only p b) only in
      let others = and_parts (reads_only p a) (reads_only p b) parts.1 in
      λ i. choose (only-cell c asks.0 parts.0 tick i) (only-cell a asks.1 others.0 tick i) (only-cell b asks.2 others.1 tick i)

  -- and has the mark there, if it has a port
  only-mark : (tree : FusedTree) → EachAsks P n tree → reads_only p tree ≡ true → (tick : ℤ) → (fused_stream xs tree).mark tick ≡ (is_some (first_port tree) && x.mark (tick +ℤ p.offset))
  only-mark (Const number) asks only tick = refl
  only-mark (Port source offset) asks only tick =
      let parts = and_parts (source == p.source) (int_eq offset p.offset) only in
      port-mark source offset tick (eqb-true source p.source parts.0) (same_offset offset p.offset parts.1)
  only-mark (Win reducer source from to) asks only tick = absurd (cc only)
  only-mark (WinBy map reducer source from to) asks only tick = absurd (cc only)
  only-mark Argument asks only tick = absurd asks
  only-mark (One op a) asks only tick = only-mark a asks only tick
  only-mark (Two op a b) asks only tick =
      let parts = and_parts (reads_only p a) (reads_only p b) only in
      let m = x.mark (tick +ℤ p.offset) in
      (λ i. only-mark a asks.0 parts.0 tick i || only-mark b asks.1 parts.1 tick i)
      ∙ either-and (is_some (first_port a)) (is_some (first_port b)) m
      ∙ ap (λ (some : Bool). some && m) (sym (is_some-or (first_port a) (first_port b)))
  only-mark (If c a b) asks only tick =
      let parts = and_parts (reads_only p c) (reads_only p a && reads_only p b) only in
      let others = and_parts (reads_only p a) (reads_only p b) parts.1 in
      let m = x.mark (tick +ℤ p.offset) in
      let ca = option_or (first_port c) (first_port a) in
      (λ i. (only-mark c asks.0 parts.0 tick i || only-mark a asks.1 others.0 tick i) || only-mark b asks.2 others.1 tick i)
      ∙ ap (λ (mark : Bool). mark || (is_some (first_port b) && m))
      (either-and (is_some (first_port c)) (is_some (first_port a)) m ∙ ap (λ (some : Bool). some && m) (sym (is_some-or (first_port c) (first_port a))))
      ∙ either-and (is_some ca) (is_some (first_port b)) m
      ∙ ap (λ (some : Bool). some && m) (sym (is_some-or ca (first_port b)))

-- the reading from which a tree is made is its first port, and it reads that alone
chosen : (test : Bool) (q p : Reading) → (if test then Some q else None) ≡ Some p → (test ≡ true) × (q ≡ p)
chosen true q p is = (refl, cc is)
chosen false q p is = absurd (cc is)

pub only-parts : (first : Option Reading) (test : Reading → Bool) (p : Reading) → option_and_then (λ q. if test q then Some q else None) first ≡ Some p → (first ≡ Some p) × (test p ≡ true)
only-parts None test p is = absurd (cc is)
only-parts (Some q) test p is =
    let parts = chosen (test q) q p is in
    (ap Some parts.1, subst (λ (r : Reading). test r ≡ true) parts.1 parts.0)

port-map : (tree : FusedTree) → is_port tree ≡ true → as_map tree ≡ Argument
port-map (Const number) is = absurd (cc is)
port-map (Port source offset) is = refl
port-map (Win reducer source from to) is = absurd (cc is)
port-map (WinBy map reducer source from to) is = absurd (cc is)
port-map Argument is = absurd (cc is)
port-map (One op a) is = absurd (cc is)
port-map (Two op a b) is = absurd (cc is)
port-map (If c a b) is = absurd (cc is)

-- a window on a stream that is that of a tree made from one reading
module _ (P : ℕ → Need → Type 0) (n : Need) (xs : List Stream) (y : Stream) (tree : FusedTree) (asks : EachAsks P n tree) (same : SameStream y (fused_stream xs tree))
    (reducer : Reducer) (from to : ℤ) where
  module _ (p : Reading) (first : first_port tree ≡ Some p) (only : reads_only p tree ≡ true) where
    cells : (tick : ℤ) → y.cell tick ≡ map_cell (as_map tree) ((source_of xs p.source).cell (tick +ℤ p.offset))
    cells tick = same.cells tick ∙ only-cell P n xs p tree asks only tick

    marks : (tick : ℤ) → y.mark tick ≡ (source_of xs p.source).mark (tick +ℤ p.offset)
    marks tick =
        same.marks tick ∙ only-mark P n xs p tree asks only tick
        ∙ ap (λ (port : Option Reading). is_some port && (source_of xs p.source).mark (tick +ℤ p.offset)) first

    over : (alone : Bool) → is_port tree ≡ alone
        → SameStream (fused_stream xs (if alone then Win reducer p.source (from +ℤ p.offset) (to +ℤ p.offset) else WinBy (as_map tree) reducer p.source (from +ℤ p.offset) (to +ℤ p.offset)))
        (windowed reducer from to y)
    over true is =
        window-later (source_of xs p.source) y p.offset
        (λ tick. cells tick ∙ ap (λ (map : FusedTree). map_cell map ((source_of xs p.source).cell (tick +ℤ p.offset))) (port-map tree is)) marks reducer from to
    over false is = window-moved (map_cell (as_map tree)) (source_of xs p.source) y p.offset cells marks reducer from to

  by_reading : (source : ℕ) (reading : Option Reading) → only_reading tree ≡ reading → is_some reading ≡ true
      → SameStream (fused_stream xs (option_map_or (λ p. window_over tree p reducer from to) reading (Win reducer source from to))) (windowed reducer from to y)
  by_reading source None is some = absurd (cc some)
  by_reading source (Some p) is some =
      let parts = only-parts (first_port tree) (λ q. reads_only q tree) p is in
      over p parts.0 parts.1 (is_port tree) refl

-- a source that was merged has the stream of its tree over the sources, and if it has windows on it, its tree is made from one reading
pub record StandsFor (P : ℕ → Need → Type 0) (xs : List Stream) (windowed_on : Bool) (source : ℕ) (tree : FusedTree) : Type 0 where
  pub need : Need
  pub asks : EachAsks P need tree
  pub same : SameStream (source_of xs source) (fused_stream xs tree)
  pub fits : windowed_on ≡ true → is_some (only_reading tree) ≡ true

module _ (P : ℕ → Need → Type 0) (xs : List Stream) (merged : List (Option FusedTree)) where
  -- each merged source does, as far as an expression looks at it
  abbrev pub AllStand : (ℕ → Bool) → Type 0
  AllStand windowed_on = (source : ℕ) (tree : FusedTree) → get_or merged source None ≡ Some tree → StandsFor P xs (windowed_on source) source tree

  stand-fewer : (one other : ℕ → Bool) → ((source : ℕ) → one source ≡ true → other source ≡ true) → AllStand other → AllStand one
  stand-fewer one other less h source tree is =
      let s = h source tree is in
      record { need = s.need; asks = s.asks; same = s.same; fits = λ on. s.fits (less source on) }

  read-means : (source : ℕ) (offset : ℤ) (of : Option FusedTree) → ((tree : FusedTree) → of ≡ Some tree → SameStream (source_of xs source) (fused_stream xs tree))
      → SameStream (fused_stream xs (reading_of of source offset)) (shifted (source_of xs source) offset)
  read-means source offset None h = same-refl (shifted (source_of xs source) offset)
  read-means source offset (Some tree) h =
      same-trans (fused_stream xs (moved offset tree)) (shifted (fused_stream xs tree) offset) (shifted (source_of xs source) offset)
      (moved-stream xs offset tree)
      (shifted-same (fused_stream xs tree) (source_of xs source) offset (same-sym (source_of xs source) (fused_stream xs tree) (h tree refl)))

  window-means : (reducer : Reducer) (source : ℕ) (from to : ℤ) (of : Option FusedTree) → ((tree : FusedTree) → of ≡ Some tree → StandsFor P xs true source tree)
      → SameStream (fused_stream xs (window_on of reducer source from to)) (windowed reducer from to (source_of xs source))
  window-means reducer source from to None h = same-refl (windowed reducer from to (source_of xs source))
  window-means reducer source from to (Some tree) h =
      let s = h tree refl in
      by_reading P s.need xs (source_of xs source) tree s.asks s.same reducer from to source (only_reading tree) refl (s.fits refl)

  -- so an expression with the trees put in gives what it gives over the sources
  pub fused-means : (body : CoreTree) → AllStand (has_window_on body) → SameStream (fused_stream xs (fused merged body)) (body_of xs body)
  fused-means (Leaf (core.Const number)) h = same-refl (constant (Some number))
  fused-means (Leaf (core.Read source offset)) h = read-means source offset (get_or merged source None) (λ tree is. (h source tree is).same)
  fused-means (Leaf (core.Reduce reducer source from to)) h =
      window-means reducer source from to (get_or merged source None)
      (λ tree is. let s = h source tree is in record { need = s.need; asks = s.asks; same = s.same; fits = λ on. s.fits (same_number source) })
  fused-means (expression.One op a) h = lifted1-same op (fused_stream xs (fused merged a)) (body_of xs a) (fused-means a h)
  fused-means (expression.Two op a b) h =
      lifted2-same op (fused_stream xs (fused merged a)) (body_of xs a) (fused_stream xs (fused merged b)) (body_of xs b)
      (fused-means a (stand-fewer (has_window_on a) (has_window_on (expression.Two op a b)) (λ s is. or_left (has_window_on a s) (has_window_on b s) is) h))
      (fused-means b (stand-fewer (has_window_on b) (has_window_on (expression.Two op a b)) (λ s is. or_right (has_window_on a s) (has_window_on b s) is) h))
  fused-means (expression.If c a b) h =
      branched-same (fused_stream xs (fused merged c)) (body_of xs c) (fused_stream xs (fused merged a)) (body_of xs a) (fused_stream xs (fused merged b)) (body_of xs b)
      (fused-means c (stand-fewer (has_window_on c) (has_window_on (expression.If c a b)) (λ s is. or_left (has_window_on c s) (has_window_on a s || has_window_on b s) is) h))
      (fused-means a (stand-fewer (has_window_on a) (has_window_on (expression.If c a b))
      (λ s is. or_right (has_window_on c s) (has_window_on a s || has_window_on b s) (or_left (has_window_on a s) (has_window_on b s) is)) h))
      (fused-means b (stand-fewer (has_window_on b) (has_window_on (expression.If c a b))
      (λ s is. or_right (has_window_on c s) (has_window_on a s || has_window_on b s) (or_right (has_window_on a s) (has_window_on b s) is)) h))
