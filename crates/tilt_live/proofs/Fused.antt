-- The horizon of a tree isn't below the horizon of its definition's body, and the horizon of its block isn't below its own.
use Rattle.std.proofs.Common.{◌≡◌, ℕ, ◌+◌, ℤ, pos, ◌+ℤ◌, ◌≤ℤ◌, Bool, true, false, List, [], ◌∷◌, ◌++◌, get_or, Option, Some, None, if◌then◌else◌, int_le, refl, arith, subst}
use Rattle.std.specs.Prelude.{◌||◌, is_some}
use Rattle.std.specs.Int.{int_max}
use Rattle.std.specs.Option.{option_map_or, option_or}
use Rattle.std.proofs.lemmas.Bool.{or_left, or_right}
use Rattle.std.proofs.lemmas.Int.{ints, clamps}
use Rattle.tilt_base.proofs.Comparisons.{same_number}
use Rattle.tilt_base.specs.Expression.{Leaf}
use Rattle.tilt_base.specs.Expression as expression
use Rattle.tilt_base.specs.Grid.{GridPoints, ceil}
use Rattle.tilt_base.proofs.GridPoints.{ceil-low}
use Rattle.tilt_base.specs.declared.reducer.Reducer.{Reducer}
use Rattle.tilt_base.specs.declared.span.Span.{Span}
use Rattle.tilt_code.specs.Code.{Block}
use Rattle.tilt_code.specs.declared.instr.Instr.TheVariants as instr
use Rattle.tilt_core.specs.CoreTree as core
use Rattle.tilt_core.specs.CoreTree.{CoreTree}
use Rattle.tilt_core.specs.Needs.{Need}
use Rattle.tilt_engine.specs.CodeHorizon.{instr_horizon, block_horizon}
use Rattle.tilt_feed.proofs.Known.{IsNotAbove, above-refl, above-trans, known-below, known-both, known-earlier, known-first, known-later, known-point, known-second}
use Rattle.tilt_feed.proofs.Rising.{earlier-rises, moved-rises}
use Rattle.tilt_feed.specs.Horizon.{Horizon, Until, ForEver, IsKnownAt, earlier, earlier_by, horizon_of, body_horizon, grid_horizon, over_horizon}
use Rattle.tilt_fuse.proofs.Law.{only-parts}
use Rattle.tilt_fuse.specs.FusedTree.{FusedTree}
use Rattle.tilt_fuse.specs.FusedTree as tree
use Rattle.tilt_fuse.specs.Plan.{moved, first_port, reads_only, only_reading, as_map, is_port, window_over, window_on, reading_of, fused, has_window_on}
use Rattle.tilt_fuse.specs.Trees.{EachAsks}
use Rattle.tilt_fuse.specs.declared.reading.Reading.{Reading}
use Rattle.tilt_lower.specs.Lowering.{registers, maps, result_at, block_of}

-- a horizon that isn't above another stays so when both are moved, joined with others, or taken on a grid
above-both : (f g h : Horizon) → IsNotAbove f g → IsNotAbove f h → IsNotAbove f (earlier g h)
above-both f g h first second = record { all = λ tick known. known-both g h tick (first.all tick known) (second.all tick known) }

above-first : (f g h : Horizon) → IsNotAbove f h → IsNotAbove (earlier f g) h
above-first f g h above = record { all = λ tick known. above.all tick (known-first f g tick known) }

above-second : (f g h : Horizon) → IsNotAbove g h → IsNotAbove (earlier f g) h
above-second f g h above = record { all = λ tick known. above.all tick (known-second f g tick known) }

pub above-for_ever : (h : Horizon) → IsNotAbove h ForEver
above-for_ever h = record { all = λ tick known. tt }

-- a grid makes no more ticks known
pub grid-above : (grid : GridPoints) (h : Horizon) → pos 1 ≤ℤ grid.period → IsNotAbove (grid_horizon grid h) h
grid-above grid h valid = record {
  all = λ tick known. known-below h (ceil grid tick) tick (known-point grid h tick valid known) (ceil-low grid tick valid);
}

-- a tree over sources: the earliest horizon of what it reads, less how far ahead it reads there, and for ever if it reads nothing
abbrev pub fused_horizon : List Horizon → FusedTree → Horizon
fused_horizon hs (tree.Port source offset) = earlier_by (horizon_of hs source) offset
fused_horizon hs (tree.Win reducer source from to) = earlier_by (horizon_of hs source) to
fused_horizon hs (tree.WinBy map reducer source from to) = earlier_by (horizon_of hs source) to
fused_horizon hs (tree.One op a) = fused_horizon hs a
fused_horizon hs (tree.Two op a b) = earlier (fused_horizon hs a) (fused_horizon hs b)
fused_horizon hs (tree.If c a b) = earlier (fused_horizon hs c) (earlier (fused_horizon hs a) (fused_horizon hs b))
fused_horizon hs other = ForEver

-- a horizon that is moved twice
moved-twice : (h : Horizon) (offset by : ℤ) → IsNotAbove (earlier_by (earlier_by h offset) by) (earlier_by h (offset +ℤ by))
moved-twice h offset by = record {
  all = λ tick known.
      let there = known-later h offset (tick +ℤ by) (known-later (earlier_by h offset) by tick known) in
      let same : tick +ℤ by +ℤ offset ≡ tick +ℤ (offset +ℤ by) = omega (arith, ints) in
      known-earlier h (offset +ℤ by) tick (subst (λ (t : ℤ). IsKnownAt h t) same there);
}

moved-first : (g h : Horizon) (by : ℤ) → IsNotAbove (earlier_by (earlier g h) by) (earlier_by g by)
moved-first g h by = moved-rises (earlier g h) g by (above-first g h g (above-refl g))

moved-second : (g h : Horizon) (by : ℤ) → IsNotAbove (earlier_by (earlier g h) by) (earlier_by h by)
moved-second g h by = moved-rises (earlier g h) h by (above-second g h h (above-refl h))

-- a tree that is moved
moved-reaches : (hs : List Horizon) (by : ℤ) (t : FusedTree) → IsNotAbove (earlier_by (fused_horizon hs t) by) (fused_horizon hs (moved by t))
moved-reaches hs by (tree.Const number) = above-for_ever ForEver
moved-reaches hs by (tree.Port source offset) = moved-twice (horizon_of hs source) offset by
moved-reaches hs by (tree.Win reducer source from to) = moved-twice (horizon_of hs source) to by
moved-reaches hs by (tree.WinBy map reducer source from to) = moved-twice (horizon_of hs source) to by
moved-reaches hs by tree.Argument = above-for_ever ForEver
moved-reaches hs by (tree.One op a) = moved-reaches hs by a
moved-reaches hs by (tree.Two op a b) =
    let g = fused_horizon hs a in
    let h = fused_horizon hs b in
    let all = earlier_by (earlier g h) by in
    let m = fused_horizon hs (moved by a) in
    let n = fused_horizon hs (moved by b) in
    above-both all m n
    (above-trans all (earlier_by g by) m (moved-first g h by) (moved-reaches hs by a))
    (above-trans all (earlier_by h by) n (moved-second g h by) (moved-reaches hs by b))
moved-reaches hs by (tree.If c a b) =
    let f = fused_horizon hs c in
    let g = fused_horizon hs a in
    let h = fused_horizon hs b in
    let all = earlier_by (earlier f (earlier g h)) by in
    let two = earlier_by (earlier g h) by in
    let l = fused_horizon hs (moved by c) in
    let m = fused_horizon hs (moved by a) in
    let n = fused_horizon hs (moved by b) in
    above-both all l (earlier m n)
    (above-trans all (earlier_by f by) l (moved-first f (earlier g h) by) (moved-reaches hs by c))
    (above-trans all two (earlier m n) (moved-second f (earlier g h) by)
    (above-both two m n
    (above-trans two (earlier_by g by) m (moved-first g h by) (moved-reaches hs by a))
    (above-trans two (earlier_by h by) n (moved-second g h by) (moved-reaches hs by b))))

-- the horizon of a tree isn't above the horizon of its first port
module _ (hs : List Horizon) where
  abbrev port_horizon : Reading → Horizon
  port_horizon p = earlier_by (horizon_of hs p.source) p.offset

  port-or : (g h : Horizon) (one other : Option Reading) (p : Reading) → ((q : Reading) → one ≡ Some q → IsNotAbove g (port_horizon q))
      → ((q : Reading) → other ≡ Some q → IsNotAbove h (port_horizon q)) → option_or one other ≡ Some p → IsNotAbove (earlier g h) (port_horizon p)
  port-or g h None other p left right is = above-second g h (port_horizon p) (right p is)
  port-or g h (Some q) other p left right is = above-first g h (port_horizon p) (left p is)

  port-above : (t : FusedTree) (p : Reading) → first_port t ≡ Some p → IsNotAbove (fused_horizon hs t) (port_horizon p)
  port-above (tree.Const number) p is = absurd (cc is)
  port-above (tree.Port source offset) p is =
      let q : Reading = record { source = source; offset = offset } in
      let same : q ≡ p = cc is in
      subst (λ (r : Reading). IsNotAbove (port_horizon q) (port_horizon r)) same (above-refl (port_horizon q))
  port-above (tree.Win reducer source from to) p is = absurd (cc is)
  port-above (tree.WinBy map reducer source from to) p is = absurd (cc is)
  port-above tree.Argument p is = absurd (cc is)
  port-above (tree.One op a) p is = port-above a p is
  port-above (tree.Two op a b) p is = port-or (fused_horizon hs a) (fused_horizon hs b) (first_port a) (first_port b) p (port-above a) (port-above b) is
  port-above (tree.If c a b) p is =
      let f = fused_horizon hs c in
      let g = fused_horizon hs a in
      let h = fused_horizon hs b in
      let all = earlier f (earlier g h) in
      let again = earlier (earlier f g) h in
      let front : IsNotAbove all (earlier f g) =
      above-both all f g (above-first f (earlier g h) f (above-refl f)) (above-second f (earlier g h) g (above-first g h g (above-refl g))) in
      let back : IsNotAbove all h = above-second f (earlier g h) h (above-second g h h (above-refl h)) in
      above-trans all again (port_horizon p) (above-both all (earlier f g) h front back)
      (port-or (earlier f g) h (option_or (first_port c) (first_port a)) (first_port b) p
      (λ q. port-or f g (first_port c) (first_port a) q (port-above c) (port-above a)) (port-above b) is)

-- two horizons for each source, of which the first isn't above the second; the second horizon of a merged source is the horizon of its tree
module _ (gs ys : List Horizon) (below : (source : ℕ) → IsNotAbove (horizon_of gs source) (horizon_of ys source)) where
  read-reaches : (source : ℕ) (offset : ℤ) (of : Option FusedTree) → ((t : FusedTree) → of ≡ Some t → horizon_of ys source ≡ fused_horizon ys t)
      → IsNotAbove (earlier_by (horizon_of gs source) offset) (fused_horizon ys (reading_of of source offset))
  read-reaches source offset None stand = moved-rises (horizon_of gs source) (horizon_of ys source) offset (below source)
  read-reaches source offset (Some t) stand =
      let g = horizon_of gs source in
      let y = fused_horizon ys t in
      let above : IsNotAbove g y = subst (λ (h : Horizon). IsNotAbove g h) (stand t refl) (below source) in
      above-trans (earlier_by g offset) (earlier_by y offset) (fused_horizon ys (moved offset t)) (moved-rises g y offset above) (moved-reaches ys offset t)

  port-moved : (g : Horizon) (t : FusedTree) (p : Reading) (to : ℤ) → IsNotAbove g (fused_horizon ys t) → first_port t ≡ Some p
      → IsNotAbove (earlier_by g to) (earlier_by (horizon_of ys p.source) (to +ℤ p.offset))
  port-moved g t p to above first =
      let y = horizon_of ys p.source in
      let port = earlier_by y p.offset in
      let turned : p.offset +ℤ to ≡ to +ℤ p.offset = omega (arith, ints) in
      subst (λ (d : ℤ). IsNotAbove (earlier_by g to) (earlier_by y d)) turned
      (above-trans (earlier_by g to) (earlier_by port to) (earlier_by y (p.offset +ℤ to))
      (moved-rises g port to (above-trans g (fused_horizon ys t) port above (port-above ys t p first))) (moved-twice y p.offset to))

  over-reaches : (g : Horizon) (t : FusedTree) (p : Reading) (alone : Bool) (reducer : Reducer) (from to : ℤ) → IsNotAbove g (fused_horizon ys t) → first_port t ≡ Some p
      → IsNotAbove (earlier_by g to)
      (fused_horizon ys (if alone then tree.Win reducer p.source (from +ℤ p.offset) (to +ℤ p.offset) else tree.WinBy (as_map t) reducer p.source (from +ℤ p.offset) (to +ℤ p.offset)))
  over-reaches g t p true reducer from to above first = port-moved g t p to above first
  over-reaches g t p false reducer from to above first = port-moved g t p to above first

  window-reaches : (reducer : Reducer) (source : ℕ) (from to : ℤ) (t : FusedTree) (reading : Option Reading) → only_reading t ≡ reading → is_some reading ≡ true
      → horizon_of ys source ≡ fused_horizon ys t
      → IsNotAbove (earlier_by (horizon_of gs source) to)
      (fused_horizon ys (option_map_or (λ p. window_over t p reducer from to) reading (tree.Win reducer source from to)))
  window-reaches reducer source from to t None is some stand = absurd (cc some)
  window-reaches reducer source from to t (Some p) is some stand =
      let g = horizon_of gs source in
      let parts = only-parts (first_port t) (λ q. reads_only q t) p is in
      over-reaches g t p (is_port t) reducer from to (subst (λ (h : Horizon). IsNotAbove g h) stand (below source)) parts.0

  reduce-reaches : (reducer : Reducer) (source : ℕ) (from to : ℤ) (of : Option FusedTree) → ((t : FusedTree) → of ≡ Some t → horizon_of ys source ≡ fused_horizon ys t)
      → ((t : FusedTree) → of ≡ Some t → is_some (only_reading t) ≡ true)
      → IsNotAbove (earlier_by (horizon_of gs source) to) (fused_horizon ys (window_on of reducer source from to))
  reduce-reaches reducer source from to None stand fits = moved-rises (horizon_of gs source) (horizon_of ys source) to (below source)
  reduce-reaches reducer source from to (Some t) stand fits = window-reaches reducer source from to t (only_reading t) refl (fits t refl) (stand t refl)

  module _ (merged : List (Option FusedTree)) (stand : (source : ℕ) (t : FusedTree) → get_or merged source None ≡ Some t → horizon_of ys source ≡ fused_horizon ys t) where
    abbrev pub AllFit : (ℕ → Bool) → Type 0
    AllFit windowed_on = (source : ℕ) (t : FusedTree) → get_or merged source None ≡ Some t → windowed_on source ≡ true → is_some (only_reading t) ≡ true

    -- the horizon of a body isn't above the horizon of its tree
    pub fused-reaches : (body : CoreTree) → AllFit (has_window_on body) → IsNotAbove (body_horizon gs body) (fused_horizon ys (fused merged body))
    fused-reaches (Leaf (core.Const number)) fits = above-for_ever ForEver
    fused-reaches (Leaf (core.Read source offset)) fits = read-reaches source offset (get_or merged source None) (stand source)
    fused-reaches (Leaf (core.Reduce reducer source from to)) fits =
        reduce-reaches reducer source from to (get_or merged source None) (stand source) (λ t is. fits source t is (same_number source))
    fused-reaches (expression.One op a) fits = fused-reaches a fits
    fused-reaches (expression.Two op a b) fits =
        earlier-rises (body_horizon gs a) (body_horizon gs b) (fused_horizon ys (fused merged a)) (fused_horizon ys (fused merged b))
        (fused-reaches a (λ s t is on. fits s t is (or_left (has_window_on a s) (has_window_on b s) on)))
        (fused-reaches b (λ s t is on. fits s t is (or_right (has_window_on a s) (has_window_on b s) on)))
    fused-reaches (expression.If c a b) fits =
        earlier-rises (body_horizon gs c) (earlier (body_horizon gs a) (body_horizon gs b))
        (fused_horizon ys (fused merged c)) (earlier (fused_horizon ys (fused merged a)) (fused_horizon ys (fused merged b)))
        (fused-reaches c (λ s t is on. fits s t is (or_left (has_window_on c s) (has_window_on a s || has_window_on b s) on)))
        (earlier-rises (body_horizon gs a) (body_horizon gs b) (fused_horizon ys (fused merged a)) (fused_horizon ys (fused merged b))
        (fused-reaches a (λ s t is on. fits s t is (or_right (has_window_on c s) (has_window_on a s || has_window_on b s) (or_left (has_window_on a s) (has_window_on b s) on))))
        (fused-reaches b (λ s t is on. fits s t is (or_right (has_window_on c s) (has_window_on a s || has_window_on b s) (or_right (has_window_on a s) (has_window_on b s) on)))))

-- a horizon that isn't above either part of a block isn't above the block
module _ (fs : List Horizon) (h : Horizon) where
  block-append : (one two : Block) → IsNotAbove h (block_horizon fs one) → IsNotAbove h (block_horizon fs two) → IsNotAbove h (block_horizon fs (one ++ two))
  block-append [] two first second = second
  block-append (i ∷ one) two first second =
      let head = instr_horizon fs i in
      let rest = block_horizon fs one in
      above-both h head (block_horizon fs (one ++ two))
      (above-trans h (earlier head rest) head first (above-first head rest head (above-refl head)))
      (block-append one two (above-trans h (earlier head rest) rest first (above-second head rest rest (above-refl rest))) second)

-- a block reads buffers that have the same horizons as the sources that its tree reads
module _ (ys fs : List Horizon) (buffer : ℕ → ℕ) (n : Need) where
  abbrev pub AreBuffered : FusedTree → Type 0
  AreBuffered t = EachAsks (λ source asked. horizon_of ys source ≡ horizon_of fs (buffer source)) n t

  reading-reaches : (source : ℕ) (offset : ℤ) → horizon_of ys source ≡ horizon_of fs (buffer source)
      → IsNotAbove (earlier_by (horizon_of ys source) offset) (earlier (earlier_by (horizon_of fs (buffer source)) offset) ForEver)
  reading-reaches source offset same =
      let f = earlier_by (horizon_of fs (buffer source)) offset in
      rw same (above-both f f ForEver (above-refl f) (above-for_ever f))

  pub block-reaches : (t : FusedTree) (register number : ℕ) → AreBuffered t → IsNotAbove (fused_horizon ys t) (block_horizon fs (block_of buffer register number t))
  block-reaches (tree.Const value) register number asks = above-for_ever ForEver
  block-reaches (tree.Port source offset) register number asks = reading-reaches source offset asks
  block-reaches (tree.Win reducer source from to) register number asks = reading-reaches source to asks.0
  block-reaches (tree.WinBy map reducer source from to) register number asks = reading-reaches source to asks.0
  block-reaches tree.Argument register number asks = absurd asks
  block-reaches (tree.One op a) register number asks =
      let h = fused_horizon ys a in
      block-append fs h (block_of buffer register number a) (instr.One op (result_at register a) ∷ []) (block-reaches a register number asks) (above-for_ever h)
  block-reaches (tree.Two op a b) register number asks =
      let second = register + registers a in
      let one = block_of buffer register number a in
      let two = block_of buffer second (number + maps a) b in
      let g = fused_horizon ys a in
      let h = fused_horizon ys b in
      let all = earlier g h in
      block-append fs all (one ++ two) (instr.Two op (result_at register a) (result_at second b) ∷ [])
      (block-append fs all one two
      (above-first g h (block_horizon fs one) (block-reaches a register number asks.0))
      (above-second g h (block_horizon fs two) (block-reaches b second (number + maps a) asks.1)))
      (above-for_ever all)
  block-reaches (tree.If c a b) register number asks =
      let second = register + registers c in
      let third = second + registers a in
      let one = block_of buffer register number c in
      let two = block_of buffer second (number + maps c) a in
      let three = block_of buffer third (number + maps c + maps a) b in
      let f = fused_horizon ys c in
      let g = fused_horizon ys a in
      let h = fused_horizon ys b in
      let all = earlier f (earlier g h) in
      block-append fs all (one ++ two ++ three) (instr.If (result_at register c) (result_at second a) (result_at third b) ∷ [])
      (block-append fs all (one ++ two) three
      (block-append fs all one two
      (above-first f (earlier g h) (block_horizon fs one) (block-reaches c register number asks.0))
      (above-second f (earlier g h) (block_horizon fs two) (above-first g h (block_horizon fs two) (block-reaches a second (number + maps c) asks.1))))
      (above-second f (earlier g h) (block_horizon fs three) (above-second g h (block_horizon fs three) (block-reaches b third (number + maps c + maps a) asks.2))))
      (above-for_ever all)

-- a narrower span makes no fewer ticks known
within-by : (start end low high last other tick : ℤ) (whole more : Bool) → int_le end last ≡ whole → int_le high other ≡ more → last ≤ℤ other → start ≤ℤ low → high ≤ℤ end
    → IsKnownAt (if whole then ForEver else Until (int_max start last)) tick → IsKnownAt (if more then ForEver else Until (int_max low other)) tick
within-by start end low high last other tick whole true is more above from to known = tt
within-by start end low high last other tick true false is more above from to known = absurd (grind (arith, ints))
within-by start end low high last other tick false false is more above from to known = omega (arith, ints, clamps)

within-known : (span inner : Span) (g h : Horizon) → IsNotAbove g h → span.start ≤ℤ inner.start → inner.end ≤ℤ span.end → (tick : ℤ) → IsKnownAt (over_horizon (Some span) g) tick
    → IsKnownAt (over_horizon (Some inner) h) tick
within-known span inner g ForEver above from to tick known = tt
within-known span inner ForEver (Until other) above from to tick known = let none : (other +ℤ pos 1) ≤ℤ other = above.all (other +ℤ pos 1) tt in absurd (omega (arith, ints))
within-known span inner (Until last) (Until other) above from to tick known =
    let on : last ≤ℤ other = above.all last (omega (arith, ints)) in
    within-by span.start span.end inner.start inner.end last other tick (int_le span.end last) (int_le inner.end other) refl refl on from to known

pub above-within : (span inner : Span) (g h : Horizon) → IsNotAbove g h → span.start ≤ℤ inner.start → inner.end ≤ℤ span.end
    → IsNotAbove (over_horizon (Some span) g) (over_horizon (Some inner) h)
above-within span inner g h above from to = record { all = within-known span inner g h above from to }
