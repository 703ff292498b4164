-- What the loops of a plan are, one by one, and the loops of the code that they are lowered to.
use Rattle.std.proofs.Common.{◌≡◌, ℕ, zero, suc, ◌+◌, ◌<◌, ◌≤◌, ℤ, ◌≤ℤ◌, ◌<ℤ◌, Bool, true, false, List, [], ◌∷◌, ◌++◌, length, map, take, get_or, Option, Some, None, Ok, if◌then◌else◌, refl}
use Rattle.std.proofs.Common.{sym, ap, ◌∙◌, arith, subst}
use Rattle.std.specs.Prelude.{neg_ℤ, ◌&&◌, ◌*◌, is_some, replicate, IsOk}
use Rattle.std.specs.List.{AllByRecursion, slice_index_or}
use Rattle.std.specs.Option.{IsSome, unwrap_or}
use Rattle.std.proofs.lemmas.Int.{ints}
use Rattle.std.proofs.lemmas.List.{take_more, map-append, length-map, length-replicate, get_or_default}
use Rattle.tilt_base.proofs.Lists.{all-push}
use Rattle.tilt_base.specs.declared.limits.TheConstants.{T}
use Rattle.tilt_bounds.proofs.Margin.{margins-needs}
use Rattle.tilt_bounds.proofs.Needs.{need_at-definition}
use Rattle.tilt_bounds.specs.Margins.{MarginsParts, need_at, margins_of}
use Rattle.tilt_bounds.specs.Stretch.{stretch_of}
use Rattle.tilt_bounds.specs.declared.loop_span.LoopSpan.{LoopSpan}
use Rattle.tilt_code.specs.Code.{LoopParts}
use Rattle.tilt_fuse.proofs.Near.{needs-near}
use Rattle.tilt_fuse.specs.FusedTree.{FusedTree, PlannedLoop}
use Rattle.tilt_fuse.specs.Plan.{nodes, fused, is_merged, loops_from}
use Rattle.tilt_fuse.specs.Trees.{HasMaps, Holds, IsKnown}
use Rattle.tilt_fuse.specs.Used.{AreUsed}
use Rattle.tilt_lower.proofs.Bounds.{asks-maps}
use Rattle.tilt_lower.proofs.States.{AreLowered}
use Rattle.tilt_lower.proofs.Theorem.{all-lowered, some-loop}
use Rattle.tilt_lower.specs.Law.{IsPlan, LiesWithin}
use Rattle.tilt_lower.specs.Lowering.{buffer_of, loop_on, no_definition, lowered}
use Rattle.tilt_stream.specs.Pointwise.{nothing}
use Rattle.tilt_base.specs.declared.span.Span.{Span}
use Rattle.tilt_core.specs.Core.{CoreParts, IsCore, IsStretch, domain_of}
use Rattle.tilt_core.proofs.Last.{domain_of-stretch}
use Rattle.tilt_core.specs.CoreTree.{Definition}
use Rattle.tilt_core.specs.Needs.{Need, no_margin, body_need, needs_from, needs}

-- the output lies within the times that a query may write
output-bounds : (over : Option Span) (lo hi : ℤ) → IsStretch over → LiesWithin over lo hi → (neg_ℤ T ≤ℤ lo) × (lo <ℤ hi) × (hi ≤ℤ T)
output-bounds None lo hi is within = absurd within
output-bounds (Some span) lo hi is within =
    let a = is.0 in
    let b = is.2 in
    let c = within.0 in
    let d = within.2 in
    (omega (arith, ints), within.1, omega (arith, ints))

pub output-of : (query : CoreParts) (lo hi : ℤ) → IsCore query → LiesWithin (domain_of query.defs) lo hi → (neg_ℤ T ≤ℤ lo) × (lo <ℤ hi) × (hi ≤ℤ T)
output-of query lo hi is within = output-bounds (domain_of query.defs) lo hi (domain_of-stretch (length query.inputs) query.defs is.definitions) within

pub all-pushed : {A : Type 0} (P : A → Type 0) (xs ys : List A) (x : A) → AllByRecursion P xs → P x → ys ≡ xs ++ x ∷ [] → AllByRecursion P ys
all-pushed {A = A} P xs ys x all one is = subst (λ (zs : List A). AllByRecursion P zs) (sym is) (all-push P xs x all one)

-- there are no more loops than definitions
few-loops : (fuse : Bool) (inputs place : ℕ) (merged : List (Option FusedTree)) (defs : List Definition) (ns : List (Option Need)) → length (loops_from fuse inputs place merged defs ns) ≤ length defs
few-loops fuse inputs place merged [] ns = omega arith
few-loops fuse inputs place merged (def ∷ defs) [] = omega arith
few-loops fuse inputs place merged (def ∷ defs) (None ∷ ns) = omega (arith, few-loops fuse inputs (suc place) (merged ++ None ∷ []) defs ns)
few-loops fuse inputs place merged (def ∷ defs) (Some n ∷ ns) =
    let t = fused merged def.body in
    few-of (fuse && is_merged def defs ns (inputs + place) t) (loops_from fuse inputs (suc place) (merged ++ Some t ∷ []) defs ns) (loops_from fuse inputs (suc place) (merged ++ None ∷ []) defs ns)
    (record { def = place; body = t }) (length defs) (few-loops fuse inputs (suc place) (merged ++ Some t ∷ []) defs ns) (few-loops fuse inputs (suc place) (merged ++ None ∷ []) defs ns)
  where
    few-of : (test : Bool) (one other : List PlannedLoop) (l : PlannedLoop) (count : ℕ) → length one ≤ count → length other ≤ count → length (if test then one else l ∷ other) ≤ suc count
    few-of true one other l count g h = omega arith
    few-of false one other l count g h = omega arith

-- whether sources are used can be read off their needs
used-needs : (ns : List (Option Need)) → AreUsed (map is_some ns) ns
used-needs ns = record { many = length-map ns is_some; each = λ source low. get_or-map_at ns source (omega (arith, length-map ns is_some)) } where
  get_or-map_at : (ms : List (Option Need)) (i : ℕ) → i < length ms → get_or (map is_some ms) i false ≡ is_some (get_or ms i None)
  get_or-map_at [] i low = absurd (omega arith)
  get_or-map_at (m ∷ ms) zero low = refl
  get_or-map_at (m ∷ ms) (suc i) low = get_or-map_at ms i (omega arith)

-- what is known of a loop of the plan: its definition is used, its tree is small, and the tree's maps are maps
pub record IsTold (query : CoreParts) (l : PlannedLoop) : Type 0 where
  pub numbered : l.def < length query.defs
  pub is_used : IsSome (get_or (needs_from (length query.inputs) query.defs) l.def None)
  pub small : nodes l.body ≤ 65 * 256
  pub maps : HasMaps l.body

module _ (query : CoreParts) (margins : MarginsParts) (lo hi : ℤ) (is : IsCore query) (margins_is : margins_of query ≡ Ok margins) (loops : List PlannedLoop) (plan : IsPlan query loops) where
  abbrev pub sources_used : List Bool
  sources_used = map is_some (needs (length query.inputs) query.defs)

  pub known : IsKnown (length query.inputs) query.defs sources_used
  known = record {
    few = is.few;
    definitions = is.definitions;
    are_used = used-needs (needs (length query.inputs) query.defs);
    near = needs-near query is (subst IsOk (sym margins_is) refl);
  }

  pub few-all : length loops ≤ length query.defs
  few-all =
      let inputs = length query.inputs in
      let all = ap length plan.1 in
      omega (arith, few-loops plan.0 inputs 0 (replicate inputs None) query.defs (needs_from inputs query.defs))

  abbrev pub AllLowered : ℕ → List PlannedLoop → Type 0
  AllLowered = AreLowered query margins lo hi sources_used known (margins-needs query margins margins_is) plan.0 loops plan.1

  told-at : (count i : ℕ) (ls : List PlannedLoop) (l : PlannedLoop) → AllLowered count ls → i < length ls → l ≡ get_or ls i l → IsTold query l
  told-at count i [] l are low at = absurd (omega arith)
  told-at count zero (m ∷ ls) l are low at =
      let one = are.0 in
      subst (λ (k : PlannedLoop). IsTold query k) (sym at) (record {
        numbered = one.numbered;
        is_used = subst (λ (o : Option Need). IsSome o) (sym one.needed) refl;
        small = one.small;
        maps = asks-maps (λ source asked. (buffer_of (length query.inputs) loops source < count) × Holds (need_at (needs (length query.inputs) query.defs) source) asked)
            (body_need (get_or query.defs m.def no_definition) one.need) m.body one.asks;
      })
  told-at count (suc i) (m ∷ ls) l are low at = told-at (suc count) i ls l are.1 (omega arith) at

  pub lowered-all : AllLowered (length query.inputs) loops
  lowered-all =
      all-lowered query margins lo hi sources_used known (margins-needs query margins margins_is) plan.0 loops plan.1 is.one_emitted
      (replicate (length query.inputs) nothing) (length-replicate (length query.inputs) nothing)

  -- the emitted definition has a loop
  pub some-loops : 0 < length loops
  some-loops =
      some-loop query margins lo hi sources_used known (margins-needs query margins margins_is) plan.0 loops plan.1 is.one_emitted
      (replicate (length query.inputs) nothing) (length-replicate (length query.inputs) nothing)

  -- so it is of the one whose turn it is
  pub planned-at : (shown : List PlannedLoop) (i : ℕ) (item l : PlannedLoop) → shown ≡ loops → i < length shown → item ≡ get_or shown i item → l ≡ item → IsTold query l
  planned-at shown i item l are low at same =
      subst (λ (x : PlannedLoop). IsTold query x) (sym same)
      (told-at (length query.inputs) i loops item lowered-all (omega (arith, ap length are)) (at ∙ ap (λ (ls : List PlannedLoop). get_or ls i item) are))

-- the need of the definition of a loop
pub used-at : (query : CoreParts) (margins : MarginsParts) (place : ℕ) → margins.needs ≡ needs (length query.inputs) query.defs
    → IsSome (get_or (needs_from (length query.inputs) query.defs) place None)
    → IsSome (need_at margins.needs (length query.inputs + place))
used-at query margins place are used =
    subst (λ (o : Option Need). IsSome o) (sym (ap (λ (ns : List (Option Need)). need_at ns (length query.inputs + place)) are ∙ need_at-definition (length query.inputs) query.defs place)) used

some-is : (o : Option Need) → IsSome o → o ≡ Some (unwrap_or o no_margin)
some-is None is = absurd (cc is)
some-is (Some n) is = refl

-- the loop that is made of one of the plan's is the one that it is lowered to
pub lowered-is : (loops : List PlannedLoop) (query : CoreParts) (margins : MarginsParts) (lo hi : ℤ) (l : PlannedLoop) (span : LoopSpan) (def : Definition) (made : LoopParts)
    → l.def < length query.defs → def ≡ get_or query.defs l.def def → IsSome (need_at margins.needs (length query.inputs + l.def))
    → ((d : Definition) (n : Need) → d ≡ slice_index_or query.defs l.def d → need_at margins.needs (length query.inputs + l.def) ≡ Some n → span ≡ stretch_of d n lo hi)
    → made ≡ loop_on span (buffer_of (length query.inputs) loops) def l.body → made ≡ lowered loops query margins lo hi l
lowered-is loops query margins lo hi l span def made low at used stretch is =
    let need = need_at margins.needs (length query.inputs + l.def) in
    let def_is : def ≡ get_or query.defs l.def no_definition = at ∙ get_or_default query.defs l.def def no_definition low in
    let span_is : span ≡ stretch_of def (unwrap_or need no_margin) lo hi = stretch def (unwrap_or need no_margin) at (some-is need used) in
    is ∙ ap (λ (s : LoopSpan). loop_on s (buffer_of (length query.inputs) loops) def l.body) span_is
    ∙ ap (λ (d : Definition). loop_on (stretch_of d (unwrap_or need no_margin) lo hi) (buffer_of (length query.inputs) loops) d l.body) def_is

-- one more is lowered
pub lowered-more : (f : PlannedLoop → LoopParts) (loops : List PlannedLoop) (i : ℕ) (l : PlannedLoop) (before after : List LoopParts) (made : LoopParts)
    → i < length loops → l ≡ get_or loops i l → before ≡ map f (take i loops) → made ≡ f l → after ≡ before ++ made ∷ [] → after ≡ map f (take (i + 1) loops)
lowered-more f loops i l before after made low at so_far is after_is =
    after_is ∙ (λ j. so_far j ++ is j ∷ [])
    ∙ sym (map-append f (take i loops) (l ∷ []))
    ∙ ap (λ (x : PlannedLoop). map f (take i loops ++ x ∷ [])) at
    ∙ ap (map f) (sym (take_more loops i l low))
