-- How a plan is lowered, definition by definition. Each source with a buffer is that buffer's stream, and each merged one is its tree's.
-- Each agrees with its meaning on all that it is asked for.
use Rattle.std.proofs.Common.{◌≡◌, ℕ, zero, suc, ◌+◌, ◌<◌, ◌≤◌, ◌*◌, ◌==◌, ℤ, ◌+ℤ◌, ◌-ℤ◌, Bool, true, false, List, [], ◌∷◌, ◌++◌, length, map, get_or, drop, replicate, Option, Some, None, ◌⊎◌, inl}
use Rattle.std.proofs.Common.{inr, refl, sym, ap, ◌∙◌, arith, subst, append_assoc, length-append}
use Rattle.std.specs.Prelude.{⊤, ◌&&◌, ◌||◌, is_some}
use Rattle.std.specs.Option.{unwrap_or}
use Rattle.std.proofs.Math.ListN.{get_or-append}
use Rattle.std.proofs.Math.Seq.{get_or-append_seam}
use Rattle.std.proofs.lemmas.Int.{ints}
use Rattle.std.proofs.lemmas.Bool.{cases_Bool, or_left, and_parts}
use Rattle.std.proofs.lemmas.List.{length-map, length-replicate, map-append, get_or_past, get_or_default}
use Rattle.tilt_base.proofs.Comparisons.{below_or_at}
use Rattle.tilt_code.proofs.Runs.{with_loops-last}
use Rattle.tilt_bounds.proofs.Needs.{below_or_behind, need_at-definition}
use Rattle.tilt_bounds.specs.Laws.{AgreeAsAsked}
use Rattle.tilt_bounds.specs.Margins.{MarginsParts, need_at}
use Rattle.tilt_bounds.specs.Stretch.{stretch_of}
use Rattle.tilt_code.specs.Body as code
use Rattle.tilt_code.specs.Code.{LoopParts}
use Rattle.tilt_code.specs.Meaning.{loop_of, with_loops}
use Rattle.tilt_fuse.proofs.Asks.{NoWider, Serves, ServesAs, fused-asks, asks-weaker}
use Rattle.tilt_fuse.proofs.Law.{fused-means}
use Rattle.tilt_fuse.proofs.Means.{definition-there, merged-definition}
use Rattle.tilt_fuse.proofs.Planned.{HoldsAll, holds-narrow, asked-within, body_need-itself, merged-is, is, windows, few, merged-more, trees-kept, trees-merged, rest-skip, rest-merge, rest-loop}
use Rattle.tilt_fuse.proofs.Places.{defs-from}
use Rattle.tilt_stream.proofs.Same.{same-refl, same-sym, same-trans}
use Rattle.tilt_fuse.proofs.Used.{replicate-at}
use Rattle.tilt_fuse.specs.FusedTree.{FusedTree, PlannedLoop}
use Rattle.tilt_fuse.specs.FusedTree as tree
use Rattle.tilt_fuse.specs.Plan.{nodes, only_reading, fused, has_window_on, is_windowed, is_merged, loops_from, plan_of, has_loop}
use Rattle.tilt_fuse.specs.Streams.{map_cell, fused_stream}
use Rattle.tilt_fuse.specs.Trees.{Holds, EachAsks, AreMergedTrees, IsKnown}
use Rattle.tilt_lower.proofs.Blocks.{IsBuffered, body-same}
use Rattle.tilt_lower.proofs.Numbers.{buffer_of-input, AreBefore, before-next, before-more, loops_from-behind, buffer_of-next}
use Rattle.tilt_lower.proofs.Single.{source_of-at, same-agree, agree-trans, AgreeForBody, definitions-agree, loop-agrees}
use Rattle.tilt_lower.specs.Lowering.{buffer_of, loop_on, no_definition, lowered}
use Rattle.tilt_stream.proofs.Locality.{same-agrees, narrower-agrees}
use Rattle.tilt_stream.specs.Agreement.{Agree}
use Rattle.tilt_stream.specs.Pointwise.{nothing, shifted, lifted1, lifted2, branched}
use Rattle.tilt_stream.specs.Stream.{Stream, SameStream}
use Rattle.tilt_stream.specs.Window.{windowed, windowed_by}
use Rattle.tilt_core.proofs.Sources.{source_of-front, source_of-last}
use Rattle.tilt_core.specs.Core.{CoreParts}
use Rattle.tilt_core.specs.CoreTree.{Definition}
use Rattle.tilt_core.specs.Meaning.{source_of, body_of, definition_of, with_definitions}
use Rattle.tilt_core.specs.Needs.{Need, no_margin, asked_by, body_need, asked_of, needs_from, needs}

-- a tree gives the same over sources that are the same where it reads them
fused_stream-same : (xs ys : List Stream) (n : Need) (t : FusedTree) → EachAsks (λ source asked. source_of xs source ≡ source_of ys source) n t → fused_stream xs t ≡ fused_stream ys t
fused_stream-same xs ys n (tree.Const number) asks = refl
fused_stream-same xs ys n (tree.Port source offset) asks = ap (λ (x : Stream). shifted x offset) asks
fused_stream-same xs ys n (tree.Win reducer source from to) asks = ap (windowed reducer from to) asks.0
fused_stream-same xs ys n (tree.WinBy map reducer source from to) asks = ap (windowed_by (map_cell map) reducer from to) asks.0
fused_stream-same xs ys n tree.Argument asks = refl
fused_stream-same xs ys n (tree.One op a) asks = ap (lifted1 op) (fused_stream-same xs ys n a asks)
fused_stream-same xs ys n (tree.Two op a b) asks = λ i. lifted2 op (fused_stream-same xs ys n a asks.0 i) (fused_stream-same xs ys n b asks.1 i)
fused_stream-same xs ys n (tree.If c a b) asks =
    λ i. branched (fused_stream-same xs ys n c asks.0 i) (fused_stream-same xs ys n a asks.1 i) (fused_stream-same xs ys n b asks.2 i)

pub length-with_loops : (bs : List Stream) (loops : List LoopParts) → length (with_loops bs loops) ≡ length bs + length loops
length-with_loops bs [] = omega arith
length-with_loops bs (l ∷ loops) =
    let b = loop_of bs l in
    omega (arith, length-with_loops (bs ++ b ∷ []) loops, length-append bs (b ∷ []))

-- streams that agree on what is needed agree on what is asked
agree-asked : (lo hi : ℤ) (x y : Stream) (need asked : Option Need) → HoldsAll need asked → AgreeAsAsked need lo hi x y → AgreeAsAsked asked lo hi x y
agree-asked lo hi x y need None holds h = tt
agree-asked lo hi x y None (Some asked) holds h = absurd holds
agree-asked lo hi x y (Some n) (Some asked) holds h =
    let back = holds.0 in
    let ahead = holds.1 in
    narrower-agrees x y (lo -ℤ n.back) (hi +ℤ n.ahead) (lo -ℤ asked.back) (hi +ℤ asked.ahead) h (omega (arith, ints)) (omega (arith, ints))

agree-none : (lo hi : ℤ) (x y : Stream) (need : Option Need) → need ≡ None → AgreeAsAsked need lo hi x y
agree-none lo hi x y need is = subst (λ (m : Option Need). AgreeAsAsked m lo hi x y) (sym is) tt

no_loop-before : (place : ℕ) (loops : List PlannedLoop) → AreBefore place loops → has_loop loops place ≡ false
no_loop-before place [] h = refl
no_loop-before place (l ∷ loops) h =
    let low = h.0 in
    let other : (l.def == place) ≡ false = grind arith in
    rw other (no_loop-before place loops h.1)

neither : (a b c : Bool) → (a || b) ≡ false → (b ≡ false → c ≡ false) → (a || c) ≡ false
neither true b c h then_ = absurd (cc h)
neither false b c h then_ = then_ h

has_loop-more : (loops : List PlannedLoop) (l : PlannedLoop) (k : ℕ) → has_loop loops k ≡ false → (l.def == k) ≡ false → has_loop (loops ++ l ∷ []) k ≡ false
has_loop-more [] l k none other = rw other refl
has_loop-more (m ∷ loops) l k none other =
    neither (m.def == k) (has_loop loops k) (has_loop (loops ++ l ∷ []) k) none (λ h. has_loop-more loops l k h other)

need-held : (need : Option Need) (asked : Need) → Holds need asked → (m : Need) × (need ≡ Some m)
need-held None asked h = absurd h
need-held (Some m) asked h = (m, refl)

abbrev none_merged : Option FusedTree
none_merged = None

module _ (query : CoreParts) (margins : MarginsParts) (lo hi : ℤ) (used : List Bool) (known : IsKnown (length query.inputs) query.defs used)
    (margins_are : margins.needs ≡ needs (length query.inputs) query.defs) (fuse : Bool) (loops : List PlannedLoop) (plan : loops ≡ plan_of query fuse) where
  abbrev inputs : ℕ
  inputs = length query.inputs

  abbrev defs : List Definition
  defs = query.defs

  abbrev ns : List (Option Need)
  ns = needs_from inputs defs

  abbrev all : List (Option Need)
  all = needs inputs defs

  abbrev pub buffer : ℕ → ℕ
  buffer = buffer_of inputs loops

  abbrev lower : PlannedLoop → LoopParts
  lower = lowered loops query margins lo hi

  -- the loops from a place on
  abbrev left : ℕ → List (Option FusedTree) → List PlannedLoop
  left place merged = loops_from fuse inputs place merged (drop place defs) (drop place ns)

  -- a loop of the plan, with this number of buffers before it: it is the loop of a used definition, and its tree is small. The tree asks
  -- each source, which has a buffer before the loop, for no more than the source's need
  pub record IsLowered (count : ℕ) (l : PlannedLoop) : Type 0 where
    pub numbered : l.def < length defs
    pub need : Need
    pub needed : get_or ns l.def None ≡ Some need
    pub small : nodes l.body ≤ 65 * 256
    pub asks : EachAsks (λ source asked. (buffer source < count) × Holds (need_at all source) asked) (body_need (get_or defs l.def no_definition) need) l.body

  abbrev pub AreLowered : ℕ → List PlannedLoop → Type 0
  AreLowered count [] = ⊤
  AreLowered count (l ∷ ls) = IsLowered count l × AreLowered (suc count) ls

  lowered-more : (count : ℕ) (ls : List PlannedLoop) (l : PlannedLoop) → AreLowered count ls → IsLowered (count + length ls) l → AreLowered count (ls ++ l ∷ [])
  lowered-more count [] l h one =
      let at : count + 0 ≡ count = omega arith in
      (subst (λ (c : ℕ). IsLowered c l) at one, tt)
  lowered-more count (m ∷ ls) l h one =
      let at : count + suc (length ls) ≡ suc count + length ls = omega arith in
      (h.0, lowered-more (suc count) ls l h.1 (subst (λ (c : ℕ). IsLowered c l) at one))

  module _ (inputs_bs : List Stream) (many : length inputs_bs ≡ inputs) where
    -- the buffers after these loops
    abbrev pub buffers : List PlannedLoop → List Stream
    buffers front = with_loops inputs_bs (map lower front)

    length-buffers : (front : List PlannedLoop) → length (buffers front) ≡ inputs + length front
    length-buffers front = length-with_loops inputs_bs (map lower front) ∙ omega (arith, many, length-map front lower)

    buffers-more : (front : List PlannedLoop) (l : PlannedLoop) → buffers (front ++ l ∷ []) ≡ buffers front ++ loop_of (buffers front) (lower l) ∷ []
    buffers-more front l = ap (with_loops inputs_bs) (map-append lower front (l ∷ [])) ∙ with_loops-last inputs_bs (map lower front) (lower l)

    -- a source is the stream of its buffer
    abbrev pub HasBuffer : List PlannedLoop → List Stream → ℕ → Type 0
    HasBuffer front ys source = (buffer source < length (buffers front)) × (source_of ys source ≡ get_or (buffers front) (buffer source) nothing)

    -- what is asked of a source with a buffer is held by its need
    abbrev pub IsAsked : List PlannedLoop → List Stream → ℕ → Need → Type 0
    IsAsked front ys source asked = (source < length ys) × (HasBuffer front ys source × Holds (need_at all source) asked)

    asked-narrow : (front : List PlannedLoop) (ys : List Stream) (source : ℕ) (asked other : Need) → NoWider other asked → IsAsked front ys source asked → IsAsked front ys source other
    asked-narrow front ys source asked other less h = (h.0, (h.1.0, holds-narrow (need_at all source) asked other less h.1.1))

    -- the definitions before a place are gone through
    pub record State (place : ℕ) : Type 0 where
      pub merged : List (Option FusedTree)
      pub as_many : length merged ≡ inputs + place
      pub trees : AreMergedTrees all (is_windowed (drop place defs) (drop place ns)) merged
      pub front : List PlannedLoop
      pub loops_are : loops ≡ front ++ left place merged
      pub before : AreBefore place front
      pub lowered : AreLowered inputs front
      pub ys : List Stream
      pub xs : List Stream
      pub ys_are : length ys ≡ inputs + place
      pub xs_are : length xs ≡ inputs + place
      pub rest : with_definitions inputs_bs defs ≡ with_definitions xs (drop place defs)
      pub agreed : (source : ℕ) → source < inputs + place → AgreeAsAsked (need_at all source) lo hi (source_of ys source) (source_of xs source)
      pub have : (source : ℕ) → source < inputs + place → get_or merged source None ≡ None → (m : Need) → need_at all source ≡ Some m → HasBuffer front ys source
      pub stand : (source : ℕ) (t : FusedTree) → get_or merged source None ≡ Some t → SameStream (source_of ys source) (fused_stream ys t)
      pub asks : (source : ℕ) (t : FusedTree) → get_or merged source None ≡ Some t → (m : Need) × ((need_at all source ≡ Some m) × EachAsks (IsAsked front ys) m t)
      pub apart : (source : ℕ) (t : FusedTree) → get_or merged source None ≡ Some t → (k : ℕ) × ((source ≡ inputs + k) × (has_loop front k ≡ false))

    module _ (place : ℕ) (low : place < length defs) (def : Definition) (def_is : def ≡ get_or defs place def) (s : State place) where
      abbrev number : ℕ
      number = inputs + place

      abbrev this : Option Need
      this = get_or ns place None

      abbrev behind : List Definition
      behind = drop (suc place) defs

      abbrev behind_ns : List (Option Need)
      behind_ns = drop (suc place) ns

      abbrev t : FusedTree
      t = fused s.merged def.body

      abbrev x : Stream
      x = definition_of s.xs def

      need_is : need_at all number ≡ this
      need_is = need_at-definition inputs defs place

      -- one source more
      module _ (y : Stream) (e : Option FusedTree) (front : List PlannedLoop) (loops_are : loops ≡ front ++ left (suc place) (s.merged ++ e ∷ []))
          (trees : AreMergedTrees all (is_windowed behind behind_ns) (s.merged ++ e ∷ [])) (before : AreBefore (suc place) front)
          (lowered : AreLowered inputs front)
          (grows : (source : ℕ) → source < number → HasBuffer s.front s.ys source → HasBuffer front (s.ys ++ y ∷ []) source)
          (agreed : AgreeAsAsked (need_at all number) lo hi y x)
          (have : e ≡ None → (m : Need) → need_at all number ≡ Some m → HasBuffer front (s.ys ++ y ∷ []) number)
          (stand : (u : FusedTree) → e ≡ Some u → SameStream y (fused_stream s.ys u))
          (asks : (u : FusedTree) → e ≡ Some u → (m : Need) × ((need_at all number ≡ Some m) × EachAsks (IsAsked s.front s.ys) m u))
          (apart : (source : ℕ) (u : FusedTree) → get_or s.merged source None ≡ Some u → (k : ℕ) × ((source ≡ inputs + k) × (has_loop front k ≡ false)))
          (apart_this : (u : FusedTree) → e ≡ Some u → has_loop front place ≡ false) where
        abbrev more : List Stream
        more = s.ys ++ y ∷ []

        more_are : length more ≡ inputs + suc place
        more_are = omega (arith, s.ys_are, length-append s.ys (y ∷ []))

        at_y : source_of more number ≡ y
        at_y = ap (source_of more) (sym s.ys_are) ∙ source_of-last s.ys y

        at_x : source_of (s.xs ++ x ∷ []) number ≡ x
        at_x = ap (source_of (s.xs ++ x ∷ [])) (sym s.xs_are) ∙ source_of-last s.xs x

        asked-more : (source : ℕ) (asked : Need) → IsAsked s.front s.ys source asked → IsAsked front more source asked
        asked-more source asked h =
            let below = h.0 in
            (omega (arith, length-append s.ys (y ∷ [])), (grows source (omega (arith, s.ys_are)) h.1.0, h.1.1))

        tree-same : (m : Need) (u : FusedTree) → EachAsks (IsAsked s.front s.ys) m u → fused_stream more u ≡ fused_stream s.ys u
        tree-same m u h =
            fused_stream-same more s.ys m u
            (asks-weaker (IsAsked s.front s.ys) (λ source asked. source_of more source ≡ source_of s.ys source) (λ source asked h. source_of-front s.ys y source h.0) m u h)

        e_is : (source : ℕ) → source ≡ number → get_or (s.merged ++ e ∷ []) source None ≡ e
        e_is source at = ap (λ (i : ℕ). get_or (s.merged ++ e ∷ []) i None) (at ∙ sym s.as_many) ∙ get_or-append_seam s.merged e [] None

        agreed-more : (source : ℕ) → (source < number) ⊎ (source ≡ number) → AgreeAsAsked (need_at all source) lo hi (source_of more source) (source_of (s.xs ++ x ∷ []) source)
        agreed-more source (inl less) =
            rw (source_of-front s.ys y source (omega (arith, s.ys_are)), source_of-front s.xs x source (omega (arith, s.xs_are))) (s.agreed source less)
        agreed-more source (inr at) = rw (at, at_y, at_x) agreed

        have-more : (source : ℕ) → (source < number) ⊎ (source ≡ number) → get_or (s.merged ++ e ∷ []) source None ≡ None → (m : Need) → need_at all source ≡ Some m → HasBuffer front more source
        have-more source (inl less) none m m_is =
            grows source less (s.have source less (sym (get_or-append s.merged (e ∷ []) None source (omega (arith, s.as_many))) ∙ none) m m_is)
        have-more source (inr at) none m m_is =
            subst (λ (i : ℕ). HasBuffer front more i) (sym at)
            (have (sym (e_is source at) ∙ none) m (ap (need_at all) (sym at) ∙ m_is))

        pub next : State (suc place)
        next = record {
          merged = s.merged ++ e ∷ [];
          as_many = omega (arith, s.as_many, length-append s.merged (e ∷ []));
          trees = trees;
          front = front;
          loops_are = loops_are;
          before = before;
          lowered = lowered;
          ys = more;
          xs = s.xs ++ x ∷ [];
          ys_are = more_are;
          xs_are = omega (arith, s.xs_are, length-append s.xs (x ∷ []));
          rest = s.rest ∙ ap (with_definitions s.xs) (defs-from inputs defs place low def def_is);
          agreed = λ source below. agreed-more source (below_or_at source number (omega arith));
          have = λ source below. have-more source (below_or_at source number (omega arith));
          stand = merged-more (λ source u. SameStream (source_of more source) (fused_stream more u)) s.merged number e s.as_many
              (λ source u at.
              let a = s.asks source u at in
              let less : source < number = stood source u at in
              rw (source_of-front s.ys y source (omega (arith, s.ys_are)), tree-same a.0 u a.1.1) (s.stand source u at))
              (λ u at. let a = asks u at in rw (at_y, tree-same a.0 u a.1.1) (stand u at));
          asks = merged-more (λ source u. (m : Need) × ((need_at all source ≡ Some m) × EachAsks (IsAsked front more) m u)) s.merged number e s.as_many
              (λ source u at. let a = s.asks source u at in (a.0, (a.1.0, asks-weaker (IsAsked s.front s.ys) (IsAsked front more) asked-more a.0 u a.1.1)))
              (λ u at. let a = asks u at in (a.0, (a.1.0, asks-weaker (IsAsked s.front s.ys) (IsAsked front more) asked-more a.0 u a.1.1)));
          apart = merged-more (λ source u. (k : ℕ) × ((source ≡ inputs + k) × (has_loop front k ≡ false))) s.merged number e s.as_many apart
              (λ u u_is. (place, (refl, apart_this u u_is)));
        } where
          stood : (source : ℕ) (u : FusedTree) → get_or s.merged source None ≡ Some u → source < number
          stood source u at = elim (below_or_behind source number) [
            | inl less ↦ less
            | inr past ↦ (let is = past.1 in absurd (cc (sym (get_or_past s.merged source None (omega (arith, s.as_many))) ∙ at)))
          ]

      -- a definition that isn't used
      pub next-skip : this ≡ None → State (suc place)
      next-skip none =
          next nothing None s.front
          (s.loops_are ∙ ap (λ (ls : List PlannedLoop). s.front ++ ls) (rest-skip inputs defs used known place low def def_is s.merged s.as_many s.trees fuse none))
          (trees-kept inputs defs used known place low def def_is s.merged s.as_many s.trees)
          (before-next place s.front s.before)
          s.lowered
          (λ source below h. (h.0, source_of-front s.ys nothing source (omega (arith, s.ys_are)) ∙ h.1))
          (agree-none lo hi nothing x (need_at all number) (need_is ∙ none))
          (λ e_none m m_is. absurd (cc (sym m_is ∙ need_is ∙ none)))
          (λ u u_is. absurd (cc u_is))
          (λ u u_is. absurd (cc u_is))
          s.apart
          (λ u u_is. absurd (cc u_is))

      module _ (n : Need) (n_is : this ≡ Some n) where
        abbrev P : ℕ → Need → Type 0
        P = IsAsked s.front s.ys

        abbrev narrow : (source : ℕ) (asked other : Need) → NoWider other asked → P source asked → P source other
        narrow = asked-narrow s.front s.ys

        abbrev w : Need
        w = body_need def n

        this_need : need_at all number ≡ Some n
        this_need = need_is ∙ n_is

        held : (source : ℕ) → source < number → HoldsAll (need_at all source) (asked_by w def.body source)
        held source below = subst (λ (m : Option Need). HoldsAll (need_at all source) (asked_of def m source)) n_is (asked-within inputs place defs def low def_is source below)

        serve-as : (source : ℕ) (asked : Need) (of : Option FusedTree) → get_or s.merged source None ≡ of → source < number → Holds (need_at all source) asked → ServesAs P narrow of source asked
        serve-as source asked None of_is below h =
            let m = need-held (need_at all source) asked h in
            (omega (arith, s.ys_are), (s.have source below of_is m.0 m.1, h))
        serve-as source asked (Some u) of_is below h =
            let a = s.asks source u of_is in
            (a.0, (subst (λ (m : Option Need). Holds m asked) a.1.0 h, a.1.1))

        serves : (source : ℕ) (asked : Option Need) → source < number → HoldsAll (need_at all source) asked → Serves P narrow s.merged source asked
        serves source None below h = tt
        serves source (Some asked) below h = serve-as source asked (get_or s.merged source None) refl below h

        fits : (source : ℕ) (u : FusedTree) → get_or s.merged source None ≡ Some u → has_window_on def.body source ≡ true → is_some (only_reading u) ≡ true
        fits source u at on =
            (s.trees.each source u at).fits
            (windows inputs defs used known place low def def_is source
            ∙ or_left (is_some this && has_window_on def.body source) (is_windowed behind behind_ns source)
            (ap (λ (m : Option Need). is_some m && has_window_on def.body source) n_is ∙ on))

        this_asks : EachAsks P w t
        this_asks =
            fused-asks P narrow s.merged number w def.body (is inputs defs used known place low def def_is).reads fits
            (λ source below. serves source (asked_by w def.body source) below (held source below))

        -- its tree over the sources is its body over them
        body-means : SameStream (fused_stream s.ys t) (body_of s.ys def.body)
        body-means =
            fused-means P s.ys s.merged def.body
            (λ source u at. let a = s.asks source u at in record { need = a.0; asks = a.1.1; same = s.stand source u at; fits = fits source u at })

        for_body : AgreeForBody lo hi number n s.ys s.xs s.ys_are s.xs_are def
        for_body source below =
            agree-asked lo hi (source_of s.ys source) (source_of s.xs source) (need_at all source) (asked_by w def.body source) (held source below) (s.agreed source below)

        -- one that is merged
        pub next-merge : (fuse && is_merged def behind behind_ns number t) ≡ true → State (suc place)
        next-merge test =
            let merge = (and_parts fuse (is_merged def behind behind_ns number t) test).1 in
            let isdef = is inputs defs used known place low def def_is in
            let y = fused_stream s.ys t in
            let same : SameStream y (definition_of s.ys def) =
            same-trans y (body_of s.ys def.body) (definition_of s.ys def) body-means
            (same-sym (definition_of s.ys def) (body_of s.ys def.body) (merged-definition s.ys def behind behind_ns number t merge)) in
            let agree : Agree y x (lo -ℤ n.back) (hi +ℤ n.ahead) =
            agree-trans y (definition_of s.ys def) x (lo -ℤ n.back) (hi +ℤ n.ahead) (same-agree y (definition_of s.ys def) (lo -ℤ n.back) (hi +ℤ n.ahead) same)
            (definitions-agree lo hi number n s.ys s.xs s.ys_are s.xs_are def isdef for_body) in
            next y (Some t) s.front
            (s.loops_are ∙ ap (λ (ls : List PlannedLoop). s.front ++ ls) (rest-merge inputs defs used known place low def def_is s.merged s.as_many s.trees fuse n n_is test))
            (trees-merged inputs defs used known place low def def_is s.merged s.as_many s.trees n n_is merge)
            (before-next place s.front s.before)
            s.lowered
            (λ source below h. (h.0, source_of-front s.ys y source (omega (arith, s.ys_are)) ∙ h.1))
            (subst (λ (m : Option Need). AgreeAsAsked m lo hi y x) (sym this_need) agree)
            (λ e_none m m_is. absurd (cc e_none))
            (λ u u_is. let same_tree : t ≡ u = cc u_is in subst (λ (v : FusedTree). SameStream y (fused_stream s.ys v)) same_tree (same-refl y))
            (λ u u_is.
            let same_tree : t ≡ u = cc u_is in
            let period = (merged-is def behind behind_ns number t merge).period in
            (n, (this_need, subst (λ (v : FusedTree). EachAsks P n v) same_tree (subst (λ (m : Need). EachAsks P m t) (body_need-itself def n period) this_asks))))
            s.apart
            (λ u u_is. no_loop-before place s.front s.before)

        abbrev l : PlannedLoop
        l = record { def = place; body = t }

        -- the loop of the code is the definition's
        lower-is : lower l ≡ loop_on (stretch_of def n lo hi) buffer def t
        lower-is =
            let def_there : get_or query.defs place no_definition ≡ def = get_or_default query.defs place no_definition def low ∙ sym def_is in
            let need_there : unwrap_or (need_at margins.needs number) no_margin ≡ n =
            ap (λ (ms : List (Option Need)). unwrap_or (need_at ms number) no_margin) margins_are ∙ ap (λ (m : Option Need). unwrap_or m no_margin) this_need in
            λ i. loop_on (stretch_of (def_there i) (need_there i) lo hi) buffer (def_there i) t

        abbrev b : Stream
        b = loop_of (buffers s.front) (lower l)

        loop-agree : Agree b x (lo -ℤ n.back) (hi +ℤ n.ahead)
        loop-agree =
            let bs = buffers s.front in
            let isdef = is inputs defs used known place low def def_is in
            subst (λ (made : LoopParts). Agree (loop_of bs made) x (lo -ℤ n.back) (hi +ℤ n.ahead)) (sym lower-is)
            (loop-agrees lo hi number n s.ys s.xs s.ys_are s.xs_are def isdef for_body bs buffer t
            (λ made body_is maps_are.
            same-trans (code.body_of bs made) (fused_stream s.ys t) (body_of s.ys def.body)
            (body-same bs made buffer s.ys w t (asks-weaker P (IsBuffered bs made.maps buffer s.ys w) (λ source asked h. h.1.0.1) w t this_asks) body_is maps_are) body-means))

        buffer-this : buffer number ≡ length (buffers s.front)
        buffer-this =
            ap (λ (ls : List PlannedLoop). buffer_of inputs ls number) s.loops_are
            ∙ buffer_of-next inputs place s.front (left place s.merged) s.before (loops_from-behind fuse inputs place s.merged (drop place defs) (drop place ns))
            ∙ sym (length-buffers s.front)

        -- one that has a loop
        pub next-loop : (fuse && is_merged def behind behind_ns number t) ≡ false → State (suc place)
        next-loop test =
            let front = s.front ++ l ∷ [] in
            let grown = buffers-more s.front l in
            let bs = buffers s.front in
            next b None front
            (s.loops_are ∙ ap (λ (ls : List PlannedLoop). s.front ++ ls) (rest-loop inputs defs used known place low def def_is s.merged s.as_many s.trees fuse n n_is test)
            ∙ sym (append_assoc s.front (l ∷ []) (left (suc place) (s.merged ++ None ∷ []))))
            (trees-kept inputs defs used known place low def def_is s.merged s.as_many s.trees)
            (before-more place s.front l s.before refl)
            (lowered-more inputs s.front l s.lowered (record {
              numbered = low;
              need = n;
              needed = n_is;
              small = few inputs defs used known place low def def_is s.merged s.as_many s.trees;
              asks =
                  let def_there : get_or defs place no_definition ≡ def = get_or_default defs place no_definition def low ∙ sym def_is in
                  subst (λ (d : Definition). EachAsks (λ source asked. (buffer source < inputs + length s.front) × Holds (need_at all source) asked) (body_need d n) t) (sym def_there)
                  (asks-weaker P (λ source asked. (buffer source < inputs + length s.front) × Holds (need_at all source) asked)
                  (λ source asked h. let below = h.1.0.0 in (omega (arith, length-buffers s.front), h.1.1)) w t this_asks);
            }))
            (λ source below h.
            let stands = h.0 in
            rw grown
            (omega (arith, length-append bs (b ∷ [])), source_of-front s.ys b source (omega (arith, s.ys_are)) ∙ h.1 ∙ sym (get_or-append bs (b ∷ []) nothing (buffer source) stands)))
            (subst (λ (m : Option Need). AgreeAsAsked m lo hi b x) (sym this_need) loop-agree)
            (λ e_none m m_is.
            rw (grown, buffer-this) (
              omega (arith, length-append bs (b ∷ [])),
              ap (source_of (s.ys ++ b ∷ [])) (sym s.ys_are) ∙ source_of-last s.ys b ∙ sym (get_or-append_seam bs b [] nothing),
            ))
            (λ u u_is. absurd (cc u_is))
            (λ u u_is. absurd (cc u_is))
            (λ source u at.
            let a = s.apart source u at in
            let source_is = a.1.0 in
            let inside : source < number = elim (below_or_behind source number) [
              | inl less ↦ less
              | inr past ↦ (let at_past = past.1 in absurd (cc (sym (get_or_past s.merged source None (omega (arith, s.as_many))) ∙ at)))
            ] in
            let other : (place == a.0) ≡ false = grind arith in
            (a.0, (source_is, has_loop-more s.front l a.0 a.1.1 other)))
            (λ u u_is. absurd (cc u_is))

      next-by : (m : Option Need) → this ≡ m → State (suc place)
      next-by None none = next-skip none
      next-by (Some n) n_is = elim (cases_Bool (fuse && is_merged def behind behind_ns number t)) [
        | inl merge ↦ next-merge n n_is merge
        | inr apart ↦ next-loop n n_is apart
      ]

    -- nothing is merged at first, and each input is its own buffer
    start : State 0
    start =
        let none : (source : ℕ) (u : FusedTree) → get_or (replicate inputs none_merged) source None ≡ Some u → ⊥ =
        λ source u at. absurd (cc (sym (replicate-at none_merged inputs source) ∙ at)) in
        record {
          merged = replicate inputs None;
          as_many = omega (arith, length-replicate inputs none_merged);
          trees = record { each = λ source u at. absurd (none source u at) };
          front = [];
          loops_are = plan;
          before = tt;
          lowered = tt;
          ys = inputs_bs;
          xs = inputs_bs;
          ys_are = omega (arith, many);
          xs_are = omega (arith, many);
          rest = refl;
          agreed = λ source below. agree-itself (need_at all source) (source_of inputs_bs source);
          have = λ source below is_none m m_is.
              let itself = buffer_of-input inputs loops source (omega arith) in
              (omega (arith, itself, many), source_of-at inputs_bs source ∙ ap (λ (i : ℕ). get_or inputs_bs i nothing) (sym itself));
          stand = λ source u at. absurd (none source u at);
          asks = λ source u at. absurd (none source u at);
          apart = λ source u at. absurd (none source u at);
        } where
          agree-itself : (m : Option Need) (z : Stream) → AgreeAsAsked m lo hi z z
          agree-itself None z = tt
          agree-itself (Some m) z = same-agrees z (lo -ℤ m.back) (hi +ℤ m.ahead)

    -- so all definitions can be gone through
    pub state : (place : ℕ) → place ≤ length defs → State place
    state zero low = start
    state (suc place) low =
        let here = definition-there defs place (omega arith) in
        next-by place (omega arith) here.0 here.1 (state place (omega arith)) (get_or ns place None) refl
