-- The loops of a plan, definition by definition: the horizon of a source isn't above the horizon of its buffer, or of its tree if the source is merged.
use Rattle.std.proofs.Common.{◌≡◌, ℕ, zero, suc, ◌+◌, ◌<◌, ◌≤◌, ℤ, ◌+ℤ◌, ◌-ℤ◌, Bool, true, false, List, [], ◌∷◌, ◌++◌, length, map, get_or, drop, replicate, Option, Some, None}
use Rattle.std.proofs.Common.{◌⊎◌, inl, inr, if◌then◌else◌, refl, sym, ap, ◌∙◌, arith, subst, append_assoc, length-append}
use Rattle.std.specs.Prelude.{◌&&◌, is_some, int_lt}
use Rattle.std.specs.Int.{int_min, int_max}
use Rattle.std.specs.Option.{unwrap_or}
use Rattle.std.proofs.Math.ListN.{get_or-append}
use Rattle.std.proofs.Math.Seq.{get_or-append_seam}
use Rattle.std.proofs.lemmas.Bool.{cases_Bool, or_left, and_parts}
use Rattle.std.proofs.lemmas.Int.{ints, clamps}
use Rattle.std.proofs.lemmas.List.{length-map, length-replicate, map-append, get_or_past, get_or_default}
use Rattle.tilt_base.proofs.Comparisons.{below_or_at}
use Rattle.tilt_base.specs.declared.span.Span.{Span}
use Rattle.tilt_bounds.proofs.Needs.{below_or_behind, need_at-definition}
use Rattle.tilt_bounds.specs.Margins.{MarginsParts, need_at}
use Rattle.tilt_bounds.specs.Stretch.{cut_down, stretch_of}
use Rattle.tilt_code.specs.Code.{LoopParts}
use Rattle.tilt_core.specs.Core.{CoreParts, IsDefinition}
use Rattle.tilt_core.specs.CoreTree.{Definition}
use Rattle.tilt_core.specs.Needs.{Need, no_margin, asked_by, body_need, asked_of, needs_from, needs}
use Rattle.tilt_live.proofs.Fused.{above-for_ever, grid-above, above-within, fused_horizon, fused-reaches, block-reaches}
use Rattle.tilt_live.proofs.Ticks.{horizon_of-last}
use Rattle.tilt_engine.proofs.Readied.{horizons-long}
use Rattle.tilt_engine.specs.CodeHorizon.{block_horizon, loop_horizon, with_loop_horizons}
use Rattle.tilt_feed.proofs.Known.{IsNotAbove, above-refl, above-trans, known-over}
use Rattle.tilt_feed.proofs.Rising.{AreNotAbove, grid-rises, rises-at, rises-push}
use Rattle.tilt_feed.specs.Horizon.{Horizon, ForEver, earlier, earlier_by, horizon_of, body_horizon, grid_horizon, over_horizon, definition_horizon, with_horizons}
use Rattle.tilt_fuse.proofs.Asks.{NoWider, Serves, ServesAs, fused-asks, asks-weaker}
use Rattle.tilt_fuse.proofs.Means.{definition-there}
use Rattle.tilt_fuse.proofs.Planned.{HoldsAll, holds-narrow, asked-within, body_need-itself, merged-is, is, windows, merged-more, trees-kept, trees-merged, rest-skip, rest-merge, rest-loop}
use Rattle.tilt_fuse.proofs.Places.{defs-from}
use Rattle.tilt_fuse.proofs.Used.{replicate-at}
use Rattle.tilt_fuse.specs.FusedTree.{FusedTree, PlannedLoop}
use Rattle.tilt_fuse.specs.FusedTree as tree
use Rattle.tilt_fuse.specs.Plan.{only_reading, fused, has_window_on, is_windowed, is_merged, loops_from, plan_of}
use Rattle.tilt_fuse.specs.Trees.{Holds, EachAsks, AreMergedTrees, IsKnown}
use Rattle.tilt_lower.proofs.Numbers.{buffer_of-input, AreBefore, before-next, before-more, loops_from-behind, buffer_of-next}
use Rattle.tilt_lower.specs.Lowering.{buffer_of, block_of, loop_on, no_definition, lowered}

-- horizons by their numbers
horizon_of-front : (hs : List Horizon) (h : Horizon) (i : ℕ) → i < length hs → horizon_of (hs ++ h ∷ []) i ≡ horizon_of hs i
horizon_of-front [] h i low = absurd (omega arith)
horizon_of-front (g ∷ hs) h zero low = refl
horizon_of-front (g ∷ hs) h (suc i) low = horizon_of-front hs h i (omega arith)

-- the horizons of loops after others
pub with_loop_horizons-last : (hs : List Horizon) (front : List LoopParts) (l : LoopParts)
    → with_loop_horizons hs (front ++ l ∷ []) ≡ with_loop_horizons hs front ++ loop_horizon (with_loop_horizons hs front) l ∷ []
with_loop_horizons-last hs [] l = refl
with_loop_horizons-last hs (k ∷ front) l = with_loop_horizons-last (hs ++ loop_horizon hs k ∷ []) front l

-- lists of horizons of which none in the first is above that in the second
not-above : (hs : List Horizon) → AreNotAbove hs hs
not-above [] = tt
not-above (h ∷ hs) = (above-refl h, not-above hs)

-- a tree has the same horizon over lists in which the sources that it reads have the same horizons
fused_horizon-same : (xs ys : List Horizon) (n : Need) (t : FusedTree) → EachAsks (λ source asked. horizon_of xs source ≡ horizon_of ys source) n t → fused_horizon xs t ≡ fused_horizon ys t
fused_horizon-same xs ys n (tree.Const number) asks = refl
fused_horizon-same xs ys n (tree.Port source offset) asks = ap (λ (h : Horizon). earlier_by h offset) asks
fused_horizon-same xs ys n (tree.Win reducer source from to) asks = ap (λ (h : Horizon). earlier_by h to) asks.0
fused_horizon-same xs ys n (tree.WinBy map reducer source from to) asks = ap (λ (h : Horizon). earlier_by h to) asks.0
fused_horizon-same xs ys n tree.Argument asks = refl
fused_horizon-same xs ys n (tree.One op a) asks = fused_horizon-same xs ys n a asks
fused_horizon-same xs ys n (tree.Two op a b) asks = λ i. earlier (fused_horizon-same xs ys n a asks.0 i) (fused_horizon-same xs ys n b asks.1 i)
fused_horizon-same xs ys n (tree.If c a b) asks =
    λ i. earlier (fused_horizon-same xs ys n c asks.0 i) (earlier (fused_horizon-same xs ys n a asks.1 i) (fused_horizon-same xs ys n b asks.2 i))

-- without a span nothing is cut off
unbounded : (over : Option Span) (h : Horizon) → is_some over ≡ false → over_horizon over h ≡ h
unbounded None h none = refl
unbounded (Some span) h none = absurd (cc none)

need-held : (need : Option Need) (asked : Need) → Holds need asked → (m : Need) × (need ≡ Some m)
need-held None asked h = absurd h
need-held (Some m) asked h = (m, refl)

abbrev none_merged : Option FusedTree
none_merged = None

-- if the horizon of a body on its grid isn't above the horizon of the loop's block there, the horizon of the definition isn't above the horizon of the loop
module _ (fs : List Horizon) (buffer : ℕ → ℕ) (def : Definition) (t : FusedTree) (g : Horizon) (above : IsNotAbove g (grid_horizon def.grid (block_horizon fs (block_of buffer 0 0 t)))) where
  abbrev h : Horizon
  h = grid_horizon def.grid (block_horizon fs (block_of buffer 0 0 t))

  cut-reaches : (span : Span) (from to : ℤ) (test : Bool)
      → IsNotAbove (over_horizon (Some span) g)
      (loop_horizon fs (loop_on
      (if test then record { lo = int_max from span.start; hi = int_min to span.end; empty = false } else record { lo = from; hi = to; empty = true })
      buffer def t))
  cut-reaches span from to true =
      above-within span (record { start = int_max from span.start; end = int_min to span.end }) g h above (omega (arith, ints, clamps)) (omega (arith, ints, clamps))
  cut-reaches span from to false = above-for_ever (over_horizon (Some span) g)

  pub stretch-reaches : (over : Option Span) (from to : ℤ) → IsNotAbove (over_horizon over g) (loop_horizon fs (loop_on (cut_down over from to) buffer def t))
  stretch-reaches None from to = record { all = λ tick known. known-over (Some (record { start = from; end = to })) h tick (above.all tick known) }
  stretch-reaches (Some span) from to = cut-reaches span from to (int_lt (int_max from span.start) (int_min to span.end))

module _ (query : CoreParts) (margins : MarginsParts) (lo hi : ℤ) (used : List Bool) (known_query : IsKnown (length query.inputs) query.defs used)
    (margins_are : margins.needs ≡ needs (length query.inputs) query.defs) (fuse : Bool) (loops : List PlannedLoop) (plan : loops ≡ plan_of query fuse)
    (hs : List Horizon) (many : length hs ≡ length query.inputs) where
  abbrev inputs : ℕ
  inputs = length query.inputs

  abbrev defs : List Definition
  defs = query.defs

  abbrev ns : List (Option Need)
  ns = needs_from inputs defs

  abbrev all : List (Option Need)
  all = needs inputs defs

  abbrev buffer : ℕ → ℕ
  buffer = buffer_of inputs loops

  abbrev lower : PlannedLoop → LoopParts
  lower = lowered loops query margins lo hi

  -- the loops from a place on
  abbrev left : ℕ → List (Option FusedTree) → List PlannedLoop
  left place merged = loops_from fuse inputs place merged (drop place defs) (drop place ns)

  -- the horizons of the buffers after so many loops
  abbrev pub buffers : List PlannedLoop → List Horizon
  buffers front = with_loop_horizons hs (map lower front)

  length-buffers : (front : List PlannedLoop) → length (buffers front) ≡ inputs + length front
  length-buffers front = horizons-long hs (map lower front) ∙ omega (arith, many, length-map front lower)

  buffers-more : (front : List PlannedLoop) (l : PlannedLoop) → buffers (front ++ l ∷ []) ≡ buffers front ++ loop_horizon (buffers front) (lower l) ∷ []
  buffers-more front l = ap (with_loop_horizons hs) (map-append lower front (l ∷ [])) ∙ with_loop_horizons-last hs (map lower front) (lower l)

  -- a source has the horizon of its buffer
  abbrev pub HasBuffer : List PlannedLoop → List Horizon → ℕ → Type 0
  HasBuffer front ys source = (buffer source < length (buffers front)) × (horizon_of ys source ≡ horizon_of (buffers front) (buffer source))

  -- what is asked of a source with a buffer is held by its need
  abbrev pub IsAsked : List PlannedLoop → List Horizon → ℕ → Need → Type 0
  IsAsked front ys source asked = (source < length ys) × (HasBuffer front ys source × Holds (need_at all source) asked)

  asked-narrow : (front : List PlannedLoop) (ys : List Horizon) (source : ℕ) (asked other : Need) → NoWider other asked → IsAsked front ys source asked → IsAsked front ys source other
  asked-narrow front ys source asked other less h = (h.0, (h.1.0, holds-narrow (need_at all source) asked other less h.1.1))

  -- after the definitions before a place: `gs` are the horizons of the sources so far, and `ys` the horizons of the same sources in the code
  pub record State (place : ℕ) : Type 0 where
    pub merged : List (Option FusedTree)
    pub as_many : length merged ≡ inputs + place
    pub trees : AreMergedTrees all (is_windowed (drop place defs) (drop place ns)) merged
    pub front : List PlannedLoop
    pub loops_are : loops ≡ front ++ left place merged
    pub before : AreBefore place front
    pub ys : List Horizon
    pub gs : List Horizon
    pub ys_are : length ys ≡ inputs + place
    pub gs_are : length gs ≡ inputs + place
    pub rest : with_horizons hs defs ≡ with_horizons gs (drop place defs)
    pub below : AreNotAbove gs ys
    pub have : (source : ℕ) → source < inputs + place → get_or merged source None ≡ None → (m : Need) → need_at all source ≡ Some m → HasBuffer front ys source
    pub stand : (source : ℕ) (t : FusedTree) → get_or merged source None ≡ Some t → horizon_of ys source ≡ fused_horizon ys t
    pub asks : (source : ℕ) (t : FusedTree) → get_or merged source None ≡ Some t → (m : Need) × ((need_at all source ≡ Some m) × EachAsks (IsAsked front ys) m t)

  module _ (place : ℕ) (low : place < length defs) (def : Definition) (def_is : def ≡ get_or defs place def) (s : State place) where
    abbrev number : ℕ
    number = inputs + place

    abbrev this : Option Need
    this = get_or ns place None

    abbrev behind : List Definition
    behind = drop (suc place) defs

    abbrev behind_ns : List (Option Need)
    behind_ns = drop (suc place) ns

    abbrev t : FusedTree
    t = fused s.merged def.body

    abbrev g : Horizon
    g = definition_horizon s.gs def

    need_is : need_at all number ≡ this
    need_is = need_at-definition inputs defs place

    isdef : IsDefinition number def
    isdef = is inputs defs used known_query place low def def_is

    -- one more source
    module _ (y : Horizon) (e : Option FusedTree) (front : List PlannedLoop) (loops_are : loops ≡ front ++ left (suc place) (s.merged ++ e ∷ []))
        (trees : AreMergedTrees all (is_windowed behind behind_ns) (s.merged ++ e ∷ [])) (before : AreBefore (suc place) front)
        (grows : (source : ℕ) → source < number → HasBuffer s.front s.ys source → HasBuffer front (s.ys ++ y ∷ []) source)
        (above : IsNotAbove g y)
        (have : e ≡ None → (m : Need) → need_at all number ≡ Some m → HasBuffer front (s.ys ++ y ∷ []) number)
        (stand : (u : FusedTree) → e ≡ Some u → y ≡ fused_horizon s.ys u)
        (asks : (u : FusedTree) → e ≡ Some u → (m : Need) × ((need_at all number ≡ Some m) × EachAsks (IsAsked s.front s.ys) m u)) where
      abbrev more : List Horizon
      more = s.ys ++ y ∷ []

      more_are : length more ≡ inputs + suc place
      more_are = omega (arith, s.ys_are, length-append s.ys (y ∷ []))

      at_y : horizon_of more number ≡ y
      at_y = ap (horizon_of more) (sym s.ys_are) ∙ horizon_of-last s.ys y

      asked-more : (source : ℕ) (asked : Need) → IsAsked s.front s.ys source asked → IsAsked front more source asked
      asked-more source asked h =
          let stands = h.0 in
          (omega (arith, length-append s.ys (y ∷ [])), (grows source (omega (arith, s.ys_are)) h.1.0, h.1.1))

      tree-same : (m : Need) (u : FusedTree) → EachAsks (IsAsked s.front s.ys) m u → fused_horizon more u ≡ fused_horizon s.ys u
      tree-same m u h =
          fused_horizon-same more s.ys m u
          (asks-weaker (IsAsked s.front s.ys) (λ source asked. horizon_of more source ≡ horizon_of s.ys source) (λ source asked h. horizon_of-front s.ys y source h.0) m u h)

      e_is : (source : ℕ) → source ≡ number → get_or (s.merged ++ e ∷ []) source None ≡ e
      e_is source at = ap (λ (i : ℕ). get_or (s.merged ++ e ∷ []) i None) (at ∙ sym s.as_many) ∙ get_or-append_seam s.merged e [] None

      have-more : (source : ℕ) → (source < number) ⊎ (source ≡ number) → get_or (s.merged ++ e ∷ []) source None ≡ None → (m : Need) → need_at all source ≡ Some m
          → HasBuffer front more source
      have-more source (inl less) none m m_is =
          grows source less (s.have source less (sym (get_or-append s.merged (e ∷ []) None source (omega (arith, s.as_many))) ∙ none) m m_is)
      have-more source (inr at) none m m_is =
          subst (λ (i : ℕ). HasBuffer front more i) (sym at)
          (have (sym (e_is source at) ∙ none) m (ap (need_at all) (sym at) ∙ m_is))

      stood : (source : ℕ) (u : FusedTree) → get_or s.merged source None ≡ Some u → source < number
      stood source u at = elim (below_or_behind source number) [
        | inl less ↦ less
        | inr past ↦ (let past_is = past.1 in absurd (cc (sym (get_or_past s.merged source None (omega (arith, s.as_many))) ∙ at)))
      ]

      next : State (suc place)
      next = record {
        merged = s.merged ++ e ∷ [];
        as_many = omega (arith, s.as_many, length-append s.merged (e ∷ []));
        trees = trees;
        front = front;
        loops_are = loops_are;
        before = before;
        ys = more;
        gs = s.gs ++ g ∷ [];
        ys_are = more_are;
        gs_are = omega (arith, s.gs_are, length-append s.gs (g ∷ []));
        rest = s.rest ∙ ap (with_horizons s.gs) (defs-from inputs defs place low def def_is);
        below = rises-push s.gs s.ys g y s.below above;
        have = λ source below. have-more source (below_or_at source number (omega arith));
        stand = merged-more (λ source u. horizon_of more source ≡ fused_horizon more u) s.merged number e s.as_many
            (λ source u at.
            let a = s.asks source u at in
            let less : source < number = stood source u at in
            horizon_of-front s.ys y source (omega (arith, s.ys_are)) ∙ s.stand source u at ∙ sym (tree-same a.0 u a.1.1))
            (λ u at. let a = asks u at in at_y ∙ stand u at ∙ sym (tree-same a.0 u a.1.1));
        asks = merged-more (λ source u. (m : Need) × ((need_at all source ≡ Some m) × EachAsks (IsAsked front more) m u)) s.merged number e s.as_many
            (λ source u at. let a = s.asks source u at in (a.0, (a.1.0, asks-weaker (IsAsked s.front s.ys) (IsAsked front more) asked-more a.0 u a.1.1)))
            (λ u at. let a = asks u at in (a.0, (a.1.0, asks-weaker (IsAsked s.front s.ys) (IsAsked front more) asked-more a.0 u a.1.1)));
      }

    -- a definition that isn't used
    next-skip : this ≡ None → State (suc place)
    next-skip none =
        next ForEver None s.front
        (s.loops_are ∙ ap (λ (ls : List PlannedLoop). s.front ++ ls) (rest-skip inputs defs used known_query place low def def_is s.merged s.as_many s.trees fuse none))
        (trees-kept inputs defs used known_query place low def def_is s.merged s.as_many s.trees)
        (before-next place s.front s.before)
        (λ source below h. (h.0, horizon_of-front s.ys ForEver source (omega (arith, s.ys_are)) ∙ h.1))
        (above-for_ever g)
        (λ e_none m m_is. absurd (cc (sym m_is ∙ need_is ∙ none)))
        (λ u u_is. absurd (cc u_is))
        (λ u u_is. absurd (cc u_is))

    module _ (n : Need) (n_is : this ≡ Some n) where
      abbrev P : ℕ → Need → Type 0
      P = IsAsked s.front s.ys

      abbrev narrow : (source : ℕ) (asked other : Need) → NoWider other asked → P source asked → P source other
      narrow = asked-narrow s.front s.ys

      abbrev w : Need
      w = body_need def n

      this_need : need_at all number ≡ Some n
      this_need = need_is ∙ n_is

      held : (source : ℕ) → source < number → HoldsAll (need_at all source) (asked_by w def.body source)
      held source below = subst (λ (m : Option Need). HoldsAll (need_at all source) (asked_of def m source)) n_is (asked-within inputs place defs def low def_is source below)

      serve-as : (source : ℕ) (asked : Need) (of : Option FusedTree) → get_or s.merged source None ≡ of → source < number → Holds (need_at all source) asked
          → ServesAs P narrow of source asked
      serve-as source asked None of_is below h =
          let m = need-held (need_at all source) asked h in
          (omega (arith, s.ys_are), (s.have source below of_is m.0 m.1, h))
      serve-as source asked (Some u) of_is below h =
          let a = s.asks source u of_is in
          (a.0, (subst (λ (m : Option Need). Holds m asked) a.1.0 h, a.1.1))

      serves : (source : ℕ) (asked : Option Need) → source < number → HoldsAll (need_at all source) asked → Serves P narrow s.merged source asked
      serves source None below h = tt
      serves source (Some asked) below h = serve-as source asked (get_or s.merged source None) refl below h

      fits : (source : ℕ) (u : FusedTree) → get_or s.merged source None ≡ Some u → has_window_on def.body source ≡ true → is_some (only_reading u) ≡ true
      fits source u at on =
          (s.trees.each source u at).fits
          (windows inputs defs used known_query place low def def_is source
          ∙ or_left (is_some this && has_window_on def.body source) (is_windowed behind behind_ns source)
          (ap (λ (m : Option Need). is_some m && has_window_on def.body source) n_is ∙ on))

      this_asks : EachAsks P w t
      this_asks = fused-asks P narrow s.merged number w def.body isdef.reads fits (λ source below. serves source (asked_by w def.body source) below (held source below))

      -- the horizon of its body isn't above the horizon of its tree
      body-reaches : IsNotAbove (body_horizon s.gs def.body) (fused_horizon s.ys t)
      body-reaches = fused-reaches s.gs s.ys (rises-at s.gs s.ys s.below) s.merged s.stand def.body fits

      -- one that is merged
      merged-reaches : is_some def.over ≡ false → IsNotAbove g (fused_horizon s.ys t)
      merged-reaches no_span =
          let body = body_horizon s.gs def.body in
          let points = grid_horizon def.grid body in
          subst (λ (h : Horizon). IsNotAbove h (fused_horizon s.ys t)) (sym (unbounded def.over points no_span))
          (above-trans points body (fused_horizon s.ys t) (grid-above def.grid body isdef.grid.period_low) body-reaches)

      next-merge : (fuse && is_merged def behind behind_ns number t) ≡ true → State (suc place)
      next-merge test =
          let merge = (and_parts fuse (is_merged def behind behind_ns number t) test).1 in
          let about = merged-is def behind behind_ns number t merge in
          let y = fused_horizon s.ys t in
          next y (Some t) s.front
          (s.loops_are ∙ ap (λ (ls : List PlannedLoop). s.front ++ ls) (rest-merge inputs defs used known_query place low def def_is s.merged s.as_many s.trees fuse n n_is test))
          (trees-merged inputs defs used known_query place low def def_is s.merged s.as_many s.trees n n_is merge)
          (before-next place s.front s.before)
          (λ source below h. (h.0, horizon_of-front s.ys y source (omega (arith, s.ys_are)) ∙ h.1))
          (merged-reaches about.no_span)
          (λ e_none m m_is. absurd (cc e_none))
          (λ u u_is. let same_tree : t ≡ u = cc u_is in ap (fused_horizon s.ys) same_tree)
          (λ u u_is.
          let same_tree : t ≡ u = cc u_is in
          (n, (this_need, subst (λ (v : FusedTree). EachAsks P n v) same_tree (subst (λ (m : Need). EachAsks P m t) (body_need-itself def n about.period) this_asks))))

      abbrev l : PlannedLoop
      l = record { def = place; body = t }

      -- the loop of the code is the loop of the definition
      lower-is : lower l ≡ loop_on (stretch_of def n lo hi) buffer def t
      lower-is =
          let def_there : get_or query.defs place no_definition ≡ def = get_or_default query.defs place no_definition def low ∙ sym def_is in
          let need_there : unwrap_or (need_at margins.needs number) no_margin ≡ n =
          ap (λ (ms : List (Option Need)). unwrap_or (need_at ms number) no_margin) margins_are ∙ ap (λ (m : Option Need). unwrap_or m no_margin) this_need in
          λ i. loop_on (stretch_of (def_there i) (need_there i) lo hi) buffer (def_there i) t

      -- the horizon of the definition isn't above the horizon of its loop
      pub loop-reaches : IsNotAbove g (loop_horizon (buffers s.front) (lower l))
      loop-reaches =
          let fs = buffers s.front in
          let body = body_horizon s.gs def.body in
          let block = block_horizon fs (block_of buffer 0 0 t) in
          let read = asks-weaker P (λ source asked. horizon_of s.ys source ≡ horizon_of fs (buffer source)) (λ source asked h. h.1.0.1) w t this_asks in
          let above : IsNotAbove body block = above-trans body (fused_horizon s.ys t) block body-reaches (block-reaches s.ys fs buffer w t 0 0 read) in
          subst (λ (made : LoopParts). IsNotAbove g (loop_horizon fs made)) (sym lower-is)
          (stretch-reaches fs buffer def t (grid_horizon def.grid body) (grid-rises def.grid body block isdef.grid.period_low above) def.over (lo -ℤ n.back) (hi +ℤ n.ahead))

      buffer-this : buffer number ≡ length (buffers s.front)
      buffer-this =
          ap (λ (ls : List PlannedLoop). buffer_of inputs ls number) s.loops_are
          ∙ buffer_of-next inputs place s.front (left place s.merged) s.before (loops_from-behind fuse inputs place s.merged (drop place defs) (drop place ns))
          ∙ sym (length-buffers s.front)

      -- one that has a loop
      next-loop : (fuse && is_merged def behind behind_ns number t) ≡ false → State (suc place)
      next-loop test =
          let front = s.front ++ l ∷ [] in
          let grown = buffers-more s.front l in
          let fs = buffers s.front in
          let b = loop_horizon fs (lower l) in
          next b None front
          (s.loops_are ∙ ap (λ (ls : List PlannedLoop). s.front ++ ls) (rest-loop inputs defs used known_query place low def def_is s.merged s.as_many s.trees fuse n n_is test)
          ∙ sym (append_assoc s.front (l ∷ []) (left (suc place) (s.merged ++ None ∷ []))))
          (trees-kept inputs defs used known_query place low def def_is s.merged s.as_many s.trees)
          (before-more place s.front l s.before refl)
          (λ source below h.
          let stands = h.0 in
          rw grown
          (omega (arith, length-append fs (b ∷ [])), horizon_of-front s.ys b source (omega (arith, s.ys_are)) ∙ h.1 ∙ sym (horizon_of-front fs b (buffer source) stands)))
          loop-reaches
          (λ e_none m m_is.
          rw (grown, buffer-this) (
            omega (arith, length-append fs (b ∷ [])),
            ap (horizon_of (s.ys ++ b ∷ [])) (sym s.ys_are) ∙ horizon_of-last s.ys b ∙ sym (horizon_of-last fs b),
          ))
          (λ u u_is. absurd (cc u_is))
          (λ u u_is. absurd (cc u_is))

    next-by : (m : Option Need) → this ≡ m → State (suc place)
    next-by None none = next-skip none
    next-by (Some n) n_is = elim (cases_Bool (fuse && is_merged def behind behind_ns number t)) [
      | inl merge ↦ next-merge n n_is merge
      | inr apart ↦ next-loop n n_is apart
    ]

  -- nothing is merged at first, and each input is its own buffer
  start : State 0
  start =
      let none : (source : ℕ) (u : FusedTree) → get_or (replicate inputs none_merged) source None ≡ Some u → ⊥ =
      λ source u at. absurd (cc (sym (replicate-at none_merged inputs source) ∙ at)) in
      record {
        merged = replicate inputs None;
        as_many = omega (arith, length-replicate inputs none_merged);
        trees = record { each = λ source u at. absurd (none source u at) };
        front = [];
        loops_are = plan;
        before = tt;
        ys = hs;
        gs = hs;
        ys_are = omega (arith, many);
        gs_are = omega (arith, many);
        rest = refl;
        below = not-above hs;
        have = λ source below is_none m m_is.
            let itself = buffer_of-input inputs loops source (omega arith) in
            (omega (arith, itself, many), ap (horizon_of hs) (sym itself));
        stand = λ source u at. absurd (none source u at);
        asks = λ source u at. absurd (none source u at);
      }

  -- the state after any number of definitions
  pub state : (place : ℕ) → place ≤ length defs → State place
  state zero low = start
  state (suc place) low =
      let here = definition-there defs place (omega arith) in
      next-by place (omega arith) here.0 here.1 (state place (omega arith)) (get_or ns place None) refl
