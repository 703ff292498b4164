-- What trees ask of the sources that they read, when the trees of merged sources are inserted.
use Rattle.std.proofs.Common.{◌≡◌, ℕ, ◌*◌, ◌<◌, ◌≤◌, ◌==◌, ℤ, pos, ◌+ℤ◌, ◌≤ℤ◌, ◌<ℤ◌, Bool, true, false, List, get_or, Option, Some, None, if◌then◌else◌, refl, arith, subst}
use Rattle.std.specs.Prelude.{◌||◌, is_some, ⊤}
use Rattle.std.specs.Option.{option_map_or, option_or}
use Rattle.std.proofs.lemmas.Int.{ints, clamps}
use Rattle.std.proofs.lemmas.Bool.{or_right, or_left}
use Rattle.tilt_base.proofs.Comparisons.{same_number}
use Rattle.tilt_base.specs.Expression.{Leaf}
use Rattle.tilt_base.specs.Expression as expression
use Rattle.tilt_base.specs.declared.limits.TheConstants.{REACH}
use Rattle.tilt_base.specs.declared.reducer.Reducer.{Reducer}
use Rattle.tilt_fuse.proofs.Law.{only-parts}
use Rattle.tilt_fuse.specs.FusedTree.{FusedTree, Const, Port, Win, WinBy, Argument, One, Two, If}
use Rattle.tilt_fuse.specs.Plan.{nodes, moved, first_port, reads_only, only_reading, as_map, is_port, window_over, window_on, reading_of, fused, has_window_on}
use Rattle.tilt_fuse.specs.Trees.{IsMap, IsNear, IsNearBody, EachAsks}
use Rattle.tilt_fuse.specs.declared.reading.Reading.{Reading}
use Rattle.tilt_core.specs.Core.{ReadsBelow}
use Rattle.tilt_core.specs.CoreTree.{CoreTree}
use Rattle.tilt_core.specs.CoreTree as core
use Rattle.tilt_core.specs.Needs.{Need, wider, either, reaching, asked_by}

-- a map is one
pub as_map-is : (tree : FusedTree) → IsMap (as_map tree)
as_map-is (Const number) = tt
as_map-is (Port source offset) = tt
as_map-is (Win reducer source from to) = tt
as_map-is (WinBy map reducer source from to) = tt
as_map-is Argument = tt
as_map-is (One op a) = as_map-is a
as_map-is (Two op a b) = (as_map-is a, as_map-is b)
as_map-is (If c a b) = (as_map-is c, as_map-is a, as_map-is b)

-- trees that are moved, and trees as maps, have no more nodes
nodes-moved : (by : ℤ) (tree : FusedTree) → nodes (moved by tree) ≡ nodes tree
nodes-moved by (Const number) = refl
nodes-moved by (Port source offset) = refl
nodes-moved by (Win reducer source from to) = refl
nodes-moved by (WinBy map reducer source from to) = refl
nodes-moved by Argument = refl
nodes-moved by (One op a) = omega (arith, nodes-moved by a)
nodes-moved by (Two op a b) = omega (arith, nodes-moved by a, nodes-moved by b)
nodes-moved by (If c a b) = omega (arith, nodes-moved by c, nodes-moved by a, nodes-moved by b)

nodes-as_map : (tree : FusedTree) → nodes (as_map tree) ≤ nodes tree
nodes-as_map (Const number) = omega arith
nodes-as_map (Port source offset) = omega arith
nodes-as_map (Win reducer source from to) = omega arith
nodes-as_map (WinBy map reducer source from to) = omega arith
nodes-as_map Argument = omega arith
nodes-as_map (One op a) = omega (arith, nodes-as_map a)
nodes-as_map (Two op a b) = omega (arith, nodes-as_map a, nodes-as_map b)
nodes-as_map (If c a b) = omega (arith, nodes-as_map c, nodes-as_map a, nodes-as_map b)

few-over : (alone : Bool) (map : FusedTree) (reducer : Reducer) (source : ℕ) (from to : ℤ) → nodes map ≤ 64
    → nodes (if alone then Win reducer source from to else WinBy map reducer source from to) ≤ 65
few-over true map reducer source from to small = omega arith
few-over false map reducer source from to small = omega arith

few-window : (tree : FusedTree) (reading : Option Reading) (reducer : Reducer) (source : ℕ) (from to : ℤ) → nodes tree ≤ 64
    → nodes (option_map_or (λ p. window_over tree p reducer from to) reading (Win reducer source from to)) ≤ 65
few-window tree None reducer source from to small = omega arith
few-window tree (Some p) reducer source from to small =
    few-over (is_port tree) (as_map tree) reducer p.source (from +ℤ p.offset) (to +ℤ p.offset) (omega (arith, nodes-as_map tree))

-- so each node of an expression becomes no more than 65
module _ (merged : List (Option FusedTree)) (small : (source : ℕ) (tree : FusedTree) → get_or merged source None ≡ Some tree → nodes tree ≤ 64) where
  few-read : (source : ℕ) (offset : ℤ) (of : Option FusedTree) → ((tree : FusedTree) → of ≡ Some tree → nodes tree ≤ 64) → nodes (reading_of of source offset) ≤ 65
  few-read source offset None h = omega arith
  few-read source offset (Some tree) h =
      let few = h tree refl in
      omega (arith, nodes-moved offset tree)

  few-reduce : (reducer : Reducer) (source : ℕ) (from to : ℤ) (of : Option FusedTree) → ((tree : FusedTree) → of ≡ Some tree → nodes tree ≤ 64)
      → nodes (window_on of reducer source from to) ≤ 65
  few-reduce reducer source from to None h = omega arith
  few-reduce reducer source from to (Some tree) h = few-window tree (only_reading tree) reducer source from to (h tree refl)

  pub few-nodes : (body : CoreTree) → nodes (fused merged body) ≤ 65 * core.nodes body
  few-nodes (Leaf (core.Const number)) = omega arith
  few-nodes (Leaf (core.Read source offset)) = let few = few-read source offset (get_or merged source None) (small source) in omega arith
  few-nodes (Leaf (core.Reduce reducer source from to)) = let few = few-reduce reducer source from to (get_or merged source None) (small source) in omega arith
  few-nodes (expression.One op a) = omega (arith, few-nodes a)
  few-nodes (expression.Two op a b) = omega (arith, few-nodes a, few-nodes b)
  few-nodes (expression.If c a b) = omega (arith, few-nodes c, few-nodes a, few-nodes b)

-- a need that is no wider than another
abbrev pub NoWider : Need → Need → Type 0
NoWider m n = (m.back ≤ℤ n.back) × (m.ahead ≤ℤ n.ahead)

-- a condition on what is asked of a source that holds of narrower needs too
module _ (P : ℕ → Need → Type 0) (narrow : (source : ℕ) (asked other : Need) → NoWider other asked → P source asked → P source other) where
  -- a tree that is moved asks no more than what is asked of its own need
  moved-asks : (n m : Need) (by : ℤ) (tree : FusedTree) → NoWider (reaching n by by) m → EachAsks P m tree → EachAsks P n (moved by tree)
  moved-asks n m by (Const number) less h = tt
  moved-asks n m by (Port source offset) less h =
      let back = less.0 in
      let ahead = less.1 in
      narrow source (reaching m offset offset) (reaching n (offset +ℤ by) (offset +ℤ by)) (omega (arith, ints, clamps), omega (arith, ints, clamps)) h
  moved-asks n m by (Win reducer source from to) less h =
      let back = less.0 in
      let ahead = less.1 in
      let some = h.1 in
      (narrow source (reaching m (from +ℤ pos 1) to) (reaching n (from +ℤ by +ℤ pos 1) (to +ℤ by)) (omega (arith, ints, clamps), omega (arith, ints, clamps)) h.0, omega (arith, ints))
  moved-asks n m by (WinBy map reducer source from to) less h =
      let back = less.0 in
      let ahead = less.1 in
      let some = h.1 in
      (narrow source (reaching m (from +ℤ pos 1) to) (reaching n (from +ℤ by +ℤ pos 1) (to +ℤ by)) (omega (arith, ints, clamps), omega (arith, ints, clamps)) h.0, omega (arith, ints), h.2)
  moved-asks n m by Argument less h = h
  moved-asks n m by (One op a) less h = moved-asks n m by a less h
  moved-asks n m by (Two op a b) less h = (moved-asks n m by a less h.0, moved-asks n m by b less h.1)
  moved-asks n m by (If c a b) less h = (moved-asks n m by c less h.0, moved-asks n m by a less h.1, moved-asks n m by b less h.2)

  -- the first port asks what it reads
  first-or : (m : Need) (p : Reading) (one other : Option Reading) → ((q : Reading) → one ≡ Some q → P q.source (reaching m q.offset q.offset))
      → ((q : Reading) → other ≡ Some q → P q.source (reaching m q.offset q.offset)) → option_or one other ≡ Some p → P p.source (reaching m p.offset p.offset)
  first-or m p None other g h is = h p is
  first-or m p (Some q) other g h is = g p is

  first-asks : (m : Need) (tree : FusedTree) (p : Reading) → EachAsks P m tree → first_port tree ≡ Some p → P p.source (reaching m p.offset p.offset)
  first-asks m (Const number) p h is = absurd (cc is)
  first-asks m (Port source offset) p h is =
      let q : Reading = record { source = source; offset = offset } in
      let same : q ≡ p = cc is in
      subst (λ (r : Reading). P r.source (reaching m r.offset r.offset)) same h
  first-asks m (Win reducer source from to) p h is = absurd (cc is)
  first-asks m (WinBy map reducer source from to) p h is = absurd (cc is)
  first-asks m Argument p h is = absurd h
  first-asks m (One op a) p h is = first-asks m a p h is
  first-asks m (Two op a b) p h is =
      first-or m p (first_port a) (first_port b) (λ q. first-asks m a q h.0) (λ q. first-asks m b q h.1) is
  first-asks m (If c a b) p h is =
      first-or m p (option_or (first_port c) (first_port a)) (first_port b)
      (λ q. first-or m q (first_port c) (first_port a) (λ r. first-asks m c r h.0) (λ r. first-asks m a r h.1)) (λ q. first-asks m b q h.2) is

  -- a window on a tree that is made from one reading asks no more than what is asked of the tree's own need
  over-asks : (n m : Need) (p : Reading) (alone : Bool) (map : FusedTree) (reducer : Reducer) (from to : ℤ) → NoWider (reaching n (from +ℤ pos 1) to) m → from <ℤ to → IsMap map
      → P p.source (reaching m p.offset p.offset)
      → EachAsks P n (if alone then Win reducer p.source (from +ℤ p.offset) (to +ℤ p.offset) else WinBy map reducer p.source (from +ℤ p.offset) (to +ℤ p.offset))
  over-asks n m p true map reducer from to less some is h =
      let back = less.0 in
      let ahead = less.1 in
      (narrow p.source (reaching m p.offset p.offset) (reaching n (from +ℤ p.offset +ℤ pos 1) (to +ℤ p.offset)) (omega (arith, ints, clamps), omega (arith, ints, clamps)) h, omega (arith, ints))
  over-asks n m p false map reducer from to less some is h =
      let back = less.0 in
      let ahead = less.1 in
      (narrow p.source (reaching m p.offset p.offset) (reaching n (from +ℤ p.offset +ℤ pos 1) (to +ℤ p.offset)) (omega (arith, ints, clamps), omega (arith, ints, clamps)) h, omega (arith, ints), is)

  window-asks : (n m : Need) (tree : FusedTree) (reading : Option Reading) (reducer : Reducer) (source : ℕ) (from to : ℤ) → only_reading tree ≡ reading → is_some reading ≡ true
      → NoWider (reaching n (from +ℤ pos 1) to) m → from <ℤ to → EachAsks P m tree
      → EachAsks P n (option_map_or (λ p. window_over tree p reducer from to) reading (Win reducer source from to))
  window-asks n m tree None reducer source from to is some less ends h = absurd (cc some)
  window-asks n m tree (Some p) reducer source from to is some less ends h =
      let parts = only-parts (first_port tree) (λ q. reads_only q tree) p is in
      over-asks n m p (is_port tree) (as_map tree) reducer from to less ends (as_map-is tree) (first-asks m tree p h parts.0)

  -- what is asked of a source is as the condition says, if it has a buffer; if it was merged, it is no more than the need of its tree
  abbrev pub ServesAs : Option FusedTree → ℕ → Need → Type 0
  ServesAs None source asked = P source asked
  ServesAs (Some tree) source asked = (m : Need) × (NoWider asked m × EachAsks P m tree)

  serves-narrow : (of : Option FusedTree) (source : ℕ) (asked other : Need) → NoWider other asked → ServesAs of source asked → ServesAs of source other
  serves-narrow None source asked other less h = narrow source asked other less h
  serves-narrow (Some tree) source asked other less h =
      let back = less.0 in
      let ahead = less.1 in
      let most_back = h.1.0.0 in
      let most_ahead = h.1.0.1 in
      (h.0, ((omega (arith, ints), omega (arith, ints)), h.1.1))

  module _ (merged : List (Option FusedTree)) where
    abbrev pub Serves : ℕ → Option Need → Type 0
    Serves source None = ⊤
    Serves source (Some asked) = ServesAs (get_or merged source None) source asked

    serves-first : (source : ℕ) (m n : Option Need) → Serves source (either m n) → Serves source m
    serves-first source None n h = tt
    serves-first source (Some m) None h = h
    serves-first source (Some m) (Some n) h =
        serves-narrow (get_or merged source None) source (wider m n) m (omega (arith, ints, clamps), omega (arith, ints, clamps)) h

    serves-second : (source : ℕ) (m n : Option Need) → Serves source (either m n) → Serves source n
    serves-second source m None h = tt
    serves-second source None (Some n) h = h
    serves-second source (Some m) (Some n) h =
        serves-narrow (get_or merged source None) source (wider m n) n (omega (arith, ints, clamps), omega (arith, ints, clamps)) h

    module _ (bound : ℕ) (n : Need) where
      served : (read : ℕ) (asked : Need) → read < bound → ((source : ℕ) → source < bound → Serves source (if read == source then Some asked else None)) → ServesAs (get_or merged read None) read asked
      served read asked low h = rw (same_number read) at (h read low)

      read-asks : (source : ℕ) (offset : ℤ) (of : Option FusedTree) → ServesAs of source (reaching n offset offset) → EachAsks P n (reading_of of source offset)
      read-asks source offset None h = h
      read-asks source offset (Some tree) h = moved-asks n h.0 offset tree h.1.0 h.1.1

      reduce-asks : (reducer : Reducer) (source : ℕ) (from to : ℤ) (of : Option FusedTree) → ((tree : FusedTree) → of ≡ Some tree → is_some (only_reading tree) ≡ true)
          → from <ℤ to → ServesAs of source (reaching n (from +ℤ pos 1) to) → EachAsks P n (window_on of reducer source from to)
      reduce-asks reducer source from to None fits some h = (h, some)
      reduce-asks reducer source from to (Some tree) fits some h =
          window-asks n h.0 tree (only_reading tree) reducer source from to refl (fits tree refl) h.1.0 some h.1.1

      -- where windows on merged sources have trees that are made from one reading
      abbrev pub Fits : (ℕ → Bool) → Type 0
      Fits windowed_on = (source : ℕ) (tree : FusedTree) → get_or merged source None ≡ Some tree → windowed_on source ≡ true → is_some (only_reading tree) ≡ true

      -- the tree of an expression asks what the condition says
      pub fused-asks : (body : CoreTree) → ReadsBelow bound body → Fits (has_window_on body)
          → ((source : ℕ) → source < bound → Serves source (asked_by n body source)) → EachAsks P n (fused merged body)
      fused-asks (Leaf (core.Const number)) reads fits h = tt
      fused-asks (Leaf (core.Read source offset)) reads fits h = read-asks source offset (get_or merged source None) (served source (reaching n offset offset) reads h)
      fused-asks (Leaf (core.Reduce reducer source from to)) reads fits h =
          reduce-asks reducer source from to (get_or merged source None) (λ tree is. fits source tree is (same_number source)) reads.1
          (served source (reaching n (from +ℤ pos 1) to) reads.0 h)
      fused-asks (expression.One op a) reads fits h = fused-asks a reads fits h
      fused-asks (expression.Two op a b) reads fits h = (
        fused-asks a reads.0 (λ s t is on. fits s t is (or_left (has_window_on a s) (has_window_on b s) on)) (λ s low. serves-first s (asked_by n a s) (asked_by n b s) (h s low)),
        fused-asks b reads.1 (λ s t is on. fits s t is (or_right (has_window_on a s) (has_window_on b s) on)) (λ s low. serves-second s (asked_by n a s) (asked_by n b s) (h s low)),
      )
      fused-asks (expression.If c a b) reads fits h =
          let others : (s : ℕ) → s < bound → Serves s (either (asked_by n a s) (asked_by n b s)) =
          λ s low. serves-second s (asked_by n c s) (either (asked_by n a s) (asked_by n b s)) (h s low) in (
            fused-asks c reads.0 (λ s t is on. fits s t is (or_left (has_window_on c s) (has_window_on a s || has_window_on b s) on))
                (λ s low. serves-first s (asked_by n c s) (either (asked_by n a s) (asked_by n b s)) (h s low)),
            fused-asks a reads.1 (λ s t is on. fits s t is (or_right (has_window_on c s) (has_window_on a s || has_window_on b s) (or_left (has_window_on a s) (has_window_on b s) on)))
                (λ s low. serves-first s (asked_by n a s) (asked_by n b s) (others s low)),
            fused-asks b reads.2 (λ s t is on. fits s t is (or_right (has_window_on c s) (has_window_on a s || has_window_on b s) (or_right (has_window_on a s) (has_window_on b s) on)))
                (λ s low. serves-second s (asked_by n a s) (asked_by n b s) (others s low)),
          )

-- what holds of all that is asked under one condition holds under a weaker one
pub asks-weaker : (P Q : ℕ → Need → Type 0) → ((source : ℕ) (asked : Need) → P source asked → Q source asked) → (n : Need) (tree : FusedTree) → EachAsks P n tree → EachAsks Q n tree
asks-weaker P Q weaker n (Const number) h = tt
asks-weaker P Q weaker n (Port source offset) h = weaker source (reaching n offset offset) h
asks-weaker P Q weaker n (Win reducer source from to) h = (weaker source (reaching n (from +ℤ pos 1) to) h.0, h.1)
asks-weaker P Q weaker n (WinBy map reducer source from to) h = (weaker source (reaching n (from +ℤ pos 1) to) h.0, h.1, h.2)
asks-weaker P Q weaker n Argument h = h
asks-weaker P Q weaker n (One op a) h = asks-weaker P Q weaker n a h
asks-weaker P Q weaker n (Two op a b) h = (asks-weaker P Q weaker n a h.0, asks-weaker P Q weaker n b h.1)
asks-weaker P Q weaker n (If c a b) h = (asks-weaker P Q weaker n c h.0, asks-weaker P Q weaker n a h.1, asks-weaker P Q weaker n b h.2)

-- what is asked within the reach has offsets that a loop may have
abbrev pub WithinReach : Need → Type 0
WithinReach asked = (asked.back ≤ℤ REACH) × (asked.ahead ≤ℤ REACH)

map-near : (map : FusedTree) → IsMap map → IsNear map
map-near (Const number) h = tt
map-near (Port source offset) h = absurd h
map-near (Win reducer source from to) h = absurd h
map-near (WinBy map reducer source from to) h = absurd h
map-near Argument h = tt
map-near (One op a) h = map-near a h
map-near (Two op a b) h = (map-near a h.0, map-near b h.1)
map-near (If c a b) h = (map-near c h.0, map-near a h.1, map-near b h.2)

module _ (n : Need) (back_low : pos 0 ≤ℤ n.back) (ahead_low : pos 0 ≤ℤ n.ahead) where
  pub asks-near : (tree : FusedTree) → EachAsks (λ source asked. WithinReach asked) n tree → IsNear tree
  asks-near (Const number) h = tt
  asks-near (Port source offset) h =
      let back = h.0 in
      let ahead = h.1 in
      (omega (arith, ints, clamps), omega (arith, ints, clamps))
  asks-near (Win reducer source from to) h =
      let back = h.0.0 in
      let ahead = h.0.1 in
      let some = h.1 in
      ((omega (arith, ints, clamps), omega (arith, ints, clamps)), (omega (arith, ints, clamps), omega (arith, ints, clamps)))
  asks-near (WinBy map reducer source from to) h =
      let back = h.0.0 in
      let ahead = h.0.1 in
      let some = h.1 in
      (map-near map h.2, (omega (arith, ints, clamps), omega (arith, ints, clamps)), (omega (arith, ints, clamps), omega (arith, ints, clamps)))
  asks-near Argument h = absurd h
  asks-near (One op a) h = asks-near a h
  asks-near (Two op a b) h = (asks-near a h.0, asks-near b h.1)
  asks-near (If c a b) h = (asks-near c h.0, asks-near a h.1, asks-near b h.2)

  -- the same of an expression
  abbrev pub AskedWithin : Option Need → Type 0
  AskedWithin None = ⊤
  AskedWithin (Some asked) = WithinReach asked

  within-first : (a b : Option Need) → AskedWithin (either a b) → AskedWithin a
  within-first None b h = tt
  within-first (Some a) None h = h
  within-first (Some a) (Some b) h =
      let back = h.0 in
      let ahead = h.1 in
      (omega (arith, ints, clamps), omega (arith, ints, clamps))

  within-second : (a b : Option Need) → AskedWithin (either a b) → AskedWithin b
  within-second a None h = tt
  within-second None (Some b) h = h
  within-second (Some a) (Some b) h =
      let back = h.0 in
      let ahead = h.1 in
      (omega (arith, ints, clamps), omega (arith, ints, clamps))

  module _ (bound : ℕ) where
    read-within : (read : ℕ) (asked : Need) → read < bound → ((source : ℕ) → source < bound → AskedWithin (if read == source then Some asked else None)) → WithinReach asked
    read-within read asked low h = rw (same_number read) at (h read low)

    pub body-near : (body : CoreTree) → ReadsBelow bound body → ((source : ℕ) → source < bound → AskedWithin (asked_by n body source)) → IsNearBody body
    body-near (Leaf (core.Const number)) reads h = tt
    body-near (Leaf (core.Read source offset)) reads h =
        let within = read-within source (reaching n offset offset) reads h in
        let back = within.0 in
        let ahead = within.1 in
        (omega (arith, ints, clamps), omega (arith, ints, clamps))
    body-near (Leaf (core.Reduce reducer source from to)) reads h =
        let within = read-within source (reaching n (from +ℤ pos 1) to) reads.0 h in
        let back = within.0 in
        let ahead = within.1 in
        let some = reads.1 in
        ((omega (arith, ints, clamps), omega (arith, ints, clamps)), (omega (arith, ints, clamps), omega (arith, ints, clamps)))
    body-near (expression.One op a) reads h = body-near a reads h
    body-near (expression.Two op a b) reads h =
        (body-near a reads.0 (λ s low. within-first (asked_by n a s) (asked_by n b s) (h s low)), body-near b reads.1 (λ s low. within-second (asked_by n a s) (asked_by n b s) (h s low)))
    body-near (expression.If c a b) reads h =
        let others : (s : ℕ) → s < bound → AskedWithin (either (asked_by n a s) (asked_by n b s)) =
        λ s low. within-second (asked_by n c s) (either (asked_by n a s) (asked_by n b s)) (h s low) in (
          body-near c reads.0 (λ s low. within-first (asked_by n c s) (either (asked_by n a s) (asked_by n b s)) (h s low)),
          body-near a reads.1 (λ s low. within-first (asked_by n a s) (asked_by n b s) (others s low)),
          body-near b reads.2 (λ s low. within-second (asked_by n a s) (asked_by n b s) (others s low)),
        )
