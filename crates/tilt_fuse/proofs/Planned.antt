-- How a plan goes on from one definition to the next.
use Rattle.std.proofs.Common.{◌≡◌, ℕ, zero, suc, ◌+◌, ◌*◌, ◌<◌, ◌≤◌, pos, ◌≤ℤ◌, Bool, true, false, List, [], ◌∷◌, ◌++◌, length, get_or, drop, replicate, Option, Some, None, inl, inr, refl}
use Rattle.std.proofs.Common.{sym, ap, ◌∙◌, arith, subst, append_assoc, length-append}
use Rattle.std.specs.Prelude.{◌&&◌, ◌||◌, not, nat_le, is_some, ⊤}
use Rattle.std.specs.Ordering.{int_eq}
use Rattle.std.proofs.Math.ListN.{get_or-append}
use Rattle.std.proofs.Math.Seq.{get_or-append_seam}
use Rattle.std.proofs.lemmas.Int.{ints, clamps}
use Rattle.std.proofs.lemmas.List.{get_or_past}
use Rattle.std.proofs.lemmas.Bool.{not-true, or_right, or_left, and_parts}
use Rattle.tilt_base.proofs.Comparisons.{below_or_at}
use Rattle.tilt_base.specs.declared.limits.TheConstants.{REACH}
use Rattle.tilt_bounds.proofs.Needs.{below_or_behind, need_at-input, need_at-definition, same_need}
use Rattle.tilt_bounds.proofs.Steps.{definition-at}
use Rattle.tilt_bounds.specs.Margins.{IsWithin, evenly, need_at}
use Rattle.tilt_fuse.proofs.Asks.{NoWider, Serves, ServesAs, fused-asks, few-nodes, asks-weaker, WithinReach, asks-near, AskedWithin, body-near}
use Rattle.tilt_fuse.proofs.Law.{same_offset}
use Rattle.tilt_fuse.proofs.Places.{defs-from, needs-from, windowed-from}
use Rattle.tilt_fuse.proofs.Used.{no_need}
use Rattle.tilt_fuse.specs.FusedTree.{FusedTree, PlannedLoop}
use Rattle.tilt_fuse.specs.Plan.{nodes, only_reading, fused, has_window_on, is_windowed, is_merged, are_none, loops_from}
use Rattle.tilt_fuse.specs.Trees.{IsNearBody, AreNear, EachAsks, Holds, IsMergedTree, AreMergedTrees, IsKnown, IsPlanned}
use Rattle.tilt_core.specs.Core.{IsDefinition}
use Rattle.tilt_core.specs.CoreTree.{Definition}
use Rattle.tilt_core.specs.Needs.{Need, either, asked_by, body_need, asked_of, need_before, asked_from, needs_from, needs}

-- all that is asked is held by a need
abbrev pub HoldsAll : Option Need → Option Need → Type 0
HoldsAll need None = ⊤
HoldsAll need (Some asked) = Holds need asked

holds-itself : (m : Option Need) → HoldsAll m m
holds-itself None = tt
holds-itself (Some m) = (omega (arith, ints), omega (arith, ints))

holds-first : (need a b : Option Need) → HoldsAll need (either a b) → HoldsAll need a
holds-first need None b h = tt
holds-first need (Some a) None h = h
holds-first None (Some a) (Some b) h = h
holds-first (Some n) (Some a) (Some b) h =
    let back = h.0 in
    let ahead = h.1 in
    (omega (arith, ints, clamps), omega (arith, ints, clamps))

holds-second : (need a b : Option Need) → HoldsAll need (either a b) → HoldsAll need b
holds-second need a None h = tt
holds-second need None (Some b) h = h
holds-second None (Some a) (Some b) h = h
holds-second (Some n) (Some a) (Some b) h =
    let back = h.0 in
    let ahead = h.1 in
    (omega (arith, ints, clamps), omega (arith, ints, clamps))

pub holds-narrow : (need : Option Need) (asked other : Need) → NoWider other asked → Holds need asked → Holds need other
holds-narrow None asked other less h = h
holds-narrow (Some n) asked other less h =
    let back = h.0 in
    let ahead = h.1 in
    let less_back = less.0 in
    let less_ahead = less.1 in
    (omega (arith, ints), omega (arith, ints))

-- what the definitions after one ask of it is held by its need
asked-behind : (number : ℕ) (behind : List Definition) → HoldsAll (need_before behind (asked_from (suc number) behind number)) (asked_from (suc number) behind number)
asked-behind number [] = tt
asked-behind number (def ∷ behind) = holds-itself (asked_from (suc number) (def ∷ behind) number)

-- each definition asks of the sources before it no more than their needs
asked-held : (all : List (Option Need)) (number k : ℕ) (defs : List Definition) (def : Definition) → ((source : ℕ) → source < number → HoldsAll (need_at all source) (asked_from number defs source))
    → ((j : ℕ) → need_at all (number + j) ≡ get_or (needs_from number defs) j None) → k < length defs → def ≡ get_or defs k def
    → (source : ℕ) → source < number + k → HoldsAll (need_at all source) (asked_of def (get_or (needs_from number defs) k None) source)
asked-held all number k [] def h are low is source before = absurd (omega arith)
asked-held all number zero (first ∷ defs) def h are low is source before =
    subst (λ (d : Definition). HoldsAll (need_at all source) (asked_of d (need_before defs (asked_from (suc number) defs number)) source)) (sym is)
    (holds-second (need_at all source) (asked_from (suc number) defs source) (asked_of first (need_before defs (asked_from (suc number) defs number)) source) (h source (omega arith)))
asked-held all number (suc k) (first ∷ defs) def h are low is source before =
    let this = need_before defs (asked_from (suc number) defs number) in
    let zero_at : number + zero ≡ number = omega arith in
    let this_is : need_at all number ≡ this = ap (need_at all) (sym zero_at) ∙ are zero in
    asked-held all (suc number) k defs def
    (λ s below. elim (below_or_at s number below) [
      | inl less ↦ holds-first (need_at all s) (asked_from (suc number) defs s) (asked_of first this s) (h s less)
      | inr same ↦ rw (same, this_is) (asked-behind number defs)
    ])
    (λ j. let at : suc number + j ≡ number + suc j = omega arith in ap (need_at all) at ∙ are (suc j))
    (omega arith) is source (omega arith)

pub asked-within : (inputs k : ℕ) (defs : List Definition) (def : Definition) → k < length defs → def ≡ get_or defs k def
    → (source : ℕ) → source < inputs + k → HoldsAll (need_at (needs inputs defs) source) (asked_of def (get_or (needs_from inputs defs) k None) source)
asked-within inputs k defs def =
    asked-held (needs inputs defs) inputs k defs def
    (λ s low. subst (λ (m : Option Need). HoldsAll m (asked_from inputs defs s)) (sym (need_at-input inputs defs s low)) (holds-itself (asked_from inputs defs s)))
    (need_at-definition inputs defs)

-- what holds of the tree of each merged source, where there is one source more
pub merged-more : (Q : ℕ → FusedTree → Type 0) (merged : List (Option FusedTree)) (number : ℕ) (x : Option FusedTree) → length merged ≡ number
    → ((source : ℕ) (tree : FusedTree) → get_or merged source None ≡ Some tree → Q source tree) → ((tree : FusedTree) → x ≡ Some tree → Q number tree)
    → (source : ℕ) (tree : FusedTree) → get_or (merged ++ x ∷ []) source None ≡ Some tree → Q source tree
merged-more Q merged number x many each last source tree at = elim (below_or_behind source number) [
  | inl less ↦ each source tree (sym (get_or-append merged (x ∷ []) None source (omega (arith, many))) ∙ at)
  | inr e ↦ last-one e.0 e.1
] where
  last-one : (k : ℕ) → source ≡ number + k → Q source tree
  last-one zero e =
      let same : source ≡ number = omega arith in
      let end : source ≡ length merged = omega (arith, many) in
      let x_is : x ≡ Some tree = sym (ap (λ (i : ℕ). get_or (merged ++ x ∷ []) i None) end ∙ get_or-append_seam merged x [] None) ∙ at in
      subst (λ (s : ℕ). Q s tree) (sym same) (last tree x_is)
  last-one (suc k) e =
      let past = get_or_past (merged ++ x ∷ []) source None (omega (arith, many, length-append merged (x ∷ []))) in
      absurd (cc (sym past ∙ at))

-- what a need within the reach holds is within it
pub held-within : (m : Option Need) (asked : Need) → IsWithin (evenly REACH) m → Holds m asked → WithinReach asked
held-within None asked near h = absurd h
held-within (Some m) asked near h =
    let back = h.0 in
    let ahead = h.1 in
    let most_back = near.1 in
    let most_ahead = near.3 in
    (omega (arith, ints), omega (arith, ints))

asked-near : (n : Need) (back_low : pos 0 ≤ℤ n.back) (ahead_low : pos 0 ≤ℤ n.ahead) (m asked : Option Need) → IsWithin (evenly REACH) m → HoldsAll m asked → AskedWithin n back_low ahead_low asked
asked-near n back_low ahead_low m None near h = tt
asked-near n back_low ahead_low m (Some asked) near h = held-within m asked near h

-- without a grid the need of a body is that of the definition
pub body_need-itself : (def : Definition) (n : Need) → def.grid.period ≡ pos 1 → body_need def n ≡ n
body_need-itself def n is = same_need (body_need def n) n refl (omega (arith, ints))

fits-so : (on some : Bool) → (not on || some) ≡ true → on ≡ true → some ≡ true
fits-so true some h is = h
fits-so false some h is = absurd (cc is)

-- what is known of a merged definition
pub record IsMerged (def : Definition) (behind : List Definition) (ns : List (Option Need)) (number : ℕ) (tree : FusedTree) : Type 0 where
  pub some_behind : are_none behind ≡ false
  pub no_span : is_some def.over ≡ false
  pub period : def.grid.period ≡ pos 1
  pub small : nodes tree ≤ 64
  pub fits : is_windowed behind ns number ≡ true → is_some (only_reading tree) ≡ true

pub merged-is : (def : Definition) (behind : List Definition) (ns : List (Option Need)) (number : ℕ) (tree : FusedTree)
    → is_merged def behind ns number tree ≡ true → IsMerged def behind ns number tree
merged-is def behind ns number tree test =
    let one = and_parts (not (are_none behind) && not (is_some def.over) && int_eq def.grid.period (pos 1) && nat_le (nodes tree) 64)
    (not (is_windowed behind ns number) || is_some (only_reading tree)) test in
    let two = and_parts (not (are_none behind) && not (is_some def.over) && int_eq def.grid.period (pos 1)) (nat_le (nodes tree) 64) one.0 in
    let three = and_parts (not (are_none behind) && not (is_some def.over)) (int_eq def.grid.period (pos 1)) two.0 in
    let four = and_parts (not (are_none behind)) (not (is_some def.over)) three.0 in
    record {
      some_behind = not-true (are_none behind) four.0;
      no_span = not-true (is_some def.over) four.1;
      period = same_offset def.grid.period (pos 1) three.1;
      small = (let few = two.1 in grind arith);
      fits = fits-so (is_windowed behind ns number) (is_some (only_reading tree)) one.1;
    }

module _ (all : List (Option Need)) where
  -- what is asked of a source is held by its need
  abbrev pub Held : ℕ → Need → Type 0
  Held read asked = Holds (need_at all read) asked

  held-narrow : (source : ℕ) (asked other : Need) → NoWider other asked → Held source asked → Held source other
  held-narrow source asked other = holds-narrow (need_at all source) asked other

  serves-as : (windowed_on : Bool) (of : Option FusedTree) (source : ℕ) (asked : Need) → ((tree : FusedTree) → of ≡ Some tree → IsMergedTree all windowed_on source tree)
      → Held source asked → ServesAs Held held-narrow of source asked
  serves-as windowed_on None source asked trees h = h
  serves-as windowed_on (Some tree) source asked trees h =
      let t = trees tree refl in
      (t.need, (subst (λ (m : Option Need). Holds m asked) t.needed h, t.asks))

  serves : (windowed_on : ℕ → Bool) (merged : List (Option FusedTree)) (source : ℕ) (asked : Option Need) → AreMergedTrees all windowed_on merged → HoldsAll (need_at all source) asked
      → Serves Held held-narrow merged source asked
  serves windowed_on merged source None trees h = tt
  serves windowed_on merged source (Some asked) trees h = serves-as (windowed_on source) (get_or merged source None) source asked (trees.each source) h

module _ (inputs : ℕ) (defs : List Definition) (used : List Bool) (known : IsKnown inputs defs used) (place : ℕ) (low : place < length defs) (def : Definition)
    (def_is : def ≡ get_or defs place def) where
  abbrev all : List (Option Need)
  all = needs inputs defs

  abbrev number : ℕ
  number = inputs + place

  abbrev this : Option Need
  this = get_or (needs_from inputs defs) place None

  abbrev behind : List Definition
  behind = drop (suc place) defs

  abbrev behind_ns : List (Option Need)
  behind_ns = drop (suc place) (needs_from inputs defs)

  abbrev windowed_on : ℕ → Bool
  windowed_on = is_windowed (drop place defs) (drop place (needs_from inputs defs))

  pub is : IsDefinition number def
  is = subst (λ (d : Definition). IsDefinition number d) (sym def_is) (definition-at inputs place defs def known.definitions low)

  need_is : need_at all number ≡ this
  need_is = need_at-definition inputs defs place

  pub windows : (source : ℕ) → windowed_on source ≡ ((is_some this && has_window_on def.body source) || is_windowed behind behind_ns source)
  windows source = windowed-from inputs defs place low def source def_is

  windowed-later : (source : ℕ) → is_windowed behind behind_ns source ≡ true → windowed_on source ≡ true
  windowed-later source on = windows source ∙ or_right (is_some this && has_window_on def.body source) (is_windowed behind behind_ns source) on

  module _ (merged : List (Option FusedTree)) (many : length merged ≡ number) (trees : AreMergedTrees all windowed_on merged) where
    -- trees of merged sources have offsets that a loop may have
    pub near : AreNear merged
    near = record {
      each = λ source tree at.
          let t = trees.each source tree at in
          let within = subst (λ (m : Option Need). IsWithin (evenly REACH) m) t.needed (known.near.each source) in
          asks-near t.need within.0 within.2 tree
          (asks-weaker (Held all) (λ read asked. WithinReach asked) (λ read asked h. held-within (need_at all read) asked (known.near.each read) h) t.need tree t.asks);
    }

    pub few : nodes (fused merged def.body) ≤ 65 * 256
    few =
        let small = is.small in
        let most = few-nodes merged (λ source tree at. (trees.each source tree at).small) def.body in
        omega arith

    -- one more source
    trees-more : (x : Option FusedTree) → ((tree : FusedTree) → x ≡ Some tree → IsMergedTree all (is_windowed behind behind_ns number) number tree)
        → AreMergedTrees all (is_windowed behind behind_ns) (merged ++ x ∷ [])
    trees-more x last = record {
      each = merged-more (λ source tree. IsMergedTree all (is_windowed behind behind_ns source) source tree) merged number x many
          (λ source tree at.
          let t = trees.each source tree at in
          record { small = t.small; need = t.need; needed = t.needed; asks = t.asks; fits = λ on. t.fits (windowed-later source on) })
          last;
    }

    -- it isn't merged
    pub trees-kept : AreMergedTrees all (is_windowed behind behind_ns) (merged ++ None ∷ [])
    trees-kept = trees-more None (λ tree none. absurd (cc none))

    module _ (n : Need) (n_is : this ≡ Some n) where
      within : IsWithin (evenly REACH) (Some n)
      within = subst (λ (m : Option Need). IsWithin (evenly REACH) m) (need_is ∙ n_is) (known.near.each number)

      held : (source : ℕ) → source < number → HoldsAll (need_at all source) (asked_by (body_need def n) def.body source)
      held source below = subst (λ (m : Option Need). HoldsAll (need_at all source) (asked_of def m source)) n_is (asked-within inputs place defs def low def_is source below)

      ahead_low : pos 0 ≤ℤ (body_need def n).ahead
      ahead_low =
          let a = within.2 in
          let period = is.grid.period_low in
          omega (arith, ints)

      -- the offsets of the body are such as a loop may have
      pub this_near : IsNearBody def.body
      this_near =
          let w = body_need def n in
          body-near w within.0 ahead_low number def.body is.reads
          (λ s below. asked-near w within.0 ahead_low (need_at all s) (asked_by w def.body s) (known.near.each s) (held s below))

      -- the tree asks each source for no more than its need
      pub this_asks : EachAsks (Held all) (body_need def n) (fused merged def.body)
      this_asks =
          fused-asks (Held all) (held-narrow all) merged number (body_need def n) def.body is.reads
          (λ source tree at on. (trees.each source tree at).fits
          (windows source ∙ or_left (is_some this && has_window_on def.body source) (is_windowed behind behind_ns source)
          (ap (λ (m : Option Need). is_some m && has_window_on def.body source) n_is ∙ on)))
          (λ s below. serves all windowed_on merged s (asked_by (body_need def n) def.body s) trees (held s below))

      -- it is merged
      pub trees-merged : is_merged def behind behind_ns number (fused merged def.body) ≡ true → AreMergedTrees all (is_windowed behind behind_ns) (merged ++ Some (fused merged def.body) ∷ [])
      trees-merged test =
          let tree = fused merged def.body in
          let merge = merged-is def behind behind_ns number tree test in
          trees-more (Some tree)
          (λ t t_is.
          let same : tree ≡ t = cc t_is in
          subst (λ (u : FusedTree). IsMergedTree all (is_windowed behind behind_ns number) number u) same
          (record {
            small = merge.small;
            need = n;
            needed = need_is ∙ n_is;
            asks = subst (λ (m : Need). EachAsks (Held all) m tree) (body_need-itself def n merge.period) this_asks;
            fits = merge.fits;
          }))

    module _ (fuse : Bool) where
      abbrev rest : List PlannedLoop
      rest = loops_from fuse inputs place merged (drop place defs) (drop place (needs_from inputs defs))

      rest-is : (m : Option Need) → this ≡ m → rest ≡ loops_from fuse inputs place merged (def ∷ behind) (m ∷ behind_ns)
      rest-is m m_is =
          (λ i. loops_from fuse inputs place merged (defs-from inputs defs place low def def_is i) (needs-from inputs defs place low i))
          ∙ ap (λ (k : Option Need). loops_from fuse inputs place merged (def ∷ behind) (k ∷ behind_ns)) m_is

      pub rest-skip : this ≡ None → rest ≡ loops_from fuse inputs (suc place) (merged ++ None ∷ []) behind behind_ns
      rest-skip none = rest-is None none

      pub rest-merge : (n : Need) → this ≡ Some n → (fuse && is_merged def behind behind_ns number (fused merged def.body)) ≡ true
          → rest ≡ loops_from fuse inputs (suc place) (merged ++ Some (fused merged def.body) ∷ []) behind behind_ns
      rest-merge n n_is test = rest-is (Some n) n_is ∙ rw test refl

      pub rest-loop : (n : Need) → this ≡ Some n → (fuse && is_merged def behind behind_ns number (fused merged def.body)) ≡ false
          → rest ≡ record { def = place; body = fused merged def.body } ∷ loops_from fuse inputs (suc place) (merged ++ None ∷ []) behind behind_ns
      rest-loop n n_is test = rest-is (Some n) n_is ∙ rw test refl

      -- so the plan goes on
      module _ (loops : List PlannedLoop) (so_far : loops ++ rest ≡ loops_from fuse inputs 0 (replicate inputs None) defs (needs_from inputs defs)) where
        pub planned-skip : (more : List (Option FusedTree)) (same : List PlannedLoop) → is_some this ≡ false → more ≡ merged ++ None ∷ [] → same ≡ loops
            → IsPlanned fuse inputs defs (suc place) more same
        planned-skip more same none more_is same_is = rw (more_is, same_is) (record {
          many = omega (arith, many, length-append merged (None ∷ []));
          trees = trees-kept;
          so_far = ap (λ (ls : List PlannedLoop). loops ++ ls) (sym (rest-skip (no_need this none))) ∙ so_far;
        })

        module _ (n : Need) (n_is : this ≡ Some n) where
          pub planned-merge : (more : List (Option FusedTree)) (same : List PlannedLoop) (tree : FusedTree) → tree ≡ fused merged def.body
              → (fuse && is_merged def behind behind_ns number tree) ≡ true → more ≡ merged ++ Some tree ∷ [] → same ≡ loops → IsPlanned fuse inputs defs (suc place) more same
          planned-merge more same tree tree_is test more_is same_is =
              let merge = subst (λ (t : FusedTree). (fuse && is_merged def behind behind_ns number t) ≡ true) tree_is test in
              rw (more_is, same_is, tree_is) (record {
                many = omega (arith, many, length-append merged (Some (fused merged def.body) ∷ []));
                trees = trees-merged n n_is (and_parts fuse (is_merged def behind behind_ns number (fused merged def.body)) merge).1;
                so_far = ap (λ (ls : List PlannedLoop). loops ++ ls) (sym (rest-merge n n_is merge)) ∙ so_far;
              })

          pub planned-loop : (more : List (Option FusedTree)) (ls : List PlannedLoop) (tree : FusedTree) → tree ≡ fused merged def.body
              → (fuse && is_merged def behind behind_ns number tree) ≡ false → more ≡ merged ++ None ∷ [] → ls ≡ loops ++ record { def = place; body = tree } ∷ []
              → IsPlanned fuse inputs defs (suc place) more ls
          planned-loop more ls tree tree_is test more_is ls_is =
              let apart = subst (λ (t : FusedTree). (fuse && is_merged def behind behind_ns number t) ≡ false) tree_is test in
              let l : PlannedLoop = record { def = place; body = fused merged def.body } in
              rw (more_is, ls_is, tree_is) (record {
                many = omega (arith, many, length-append merged (None ∷ []));
                trees = trees-kept;
                so_far = append_assoc loops (l ∷ []) (loops_from fuse inputs (suc place) (merged ++ None ∷ []) behind behind_ns)
                    ∙ ap (λ (all_loops : List PlannedLoop). loops ++ all_loops) (sym (rest-loop n n_is apart)) ∙ so_far;
              })
