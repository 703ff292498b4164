-- The code of a query is known at least as far as the query.
use Rattle.std.proofs.Common.{None, Ok}
use Rattle.std.proofs.Common.{refl, sym, ap, ◌∙◌, arith, subst, length-append}
use Rattle.std.proofs.Common.{◌≡◌, ℕ, zero, suc, ◌+◌, ◌-◌, ◌<◌, ℤ, pos, ◌+ℤ◌, ◌-ℤ◌, ◌<ℤ◌, Bool, true, false, List, [], ◌∷◌, ◌++◌, length, map, get_or, drop, replicate, Option, Some}
use Rattle.std.proofs.Math.Seq.{drop-length}
use Rattle.std.proofs.lemmas.Int.{ints, clamps}
use Rattle.std.proofs.lemmas.List.{length-replicate, map-append, get_or_default}
use Rattle.std.specs.Int.{int_min, int_max}
use Rattle.std.specs.Option.{unwrap_or}
use Rattle.std.specs.Prelude.{◌&&◌, int_lt}
use Rattle.tilt_base.specs.declared.span.Span.{Span}
use Rattle.tilt_bounds.proofs.Margin.{margins-needs}
use Rattle.tilt_bounds.proofs.Needs.{need_at-definition}
use Rattle.tilt_bounds.specs.Margins.{MarginsParts, need_at, margins_of}
use Rattle.tilt_bounds.specs.Stretch.{cut_down, stretch_of}
use Rattle.tilt_bounds.specs.declared.loop_span.LoopSpan.{LoopSpan}
use Rattle.tilt_code.specs.Code.{LoopParts}
use Rattle.tilt_core.proofs.Last.{domain_of-stretch, last-need}
use Rattle.tilt_core.specs.Core.{CoreParts, IsCore, IsStretch, domain_of}
use Rattle.tilt_core.specs.CoreTree.{Definition}
use Rattle.tilt_core.specs.Needs.{Need, no_margin, needs_from, needs}
use Rattle.tilt_live.proofs.Ticks.{horizon_of-last}
use Rattle.tilt_engine.proofs.Readied.{horizons-long}
use Rattle.tilt_live.proofs.Loops.{with_loop_horizons-last, State, loop-reaches, state}
use Rattle.tilt_engine.specs.CodeHorizon.{loop_horizon, with_loop_horizons}
use Rattle.tilt_live.specs.Laws.{EndsOn, Reaches}
use Rattle.tilt_feed.proofs.Known.{IsNotAbove}
use Rattle.tilt_feed.specs.Horizon.{Horizon, ForEver, horizon_of, definition_horizon, with_horizons}
use Rattle.tilt_fuse.proofs.Places.{defs-from}
use Rattle.tilt_fuse.proofs.Planned.{rest-loop}
use Rattle.tilt_fuse.specs.FusedTree.{FusedTree, PlannedLoop}
use Rattle.tilt_fuse.specs.Plan.{fused, is_merged, loops_from, plan_of}
use Rattle.tilt_fuse.specs.Trees.{IsKnown}
use Rattle.tilt_lower.proofs.Planned.{known, sources_used}
use Rattle.tilt_lower.specs.Lowering.{buffer_of, loop_on, no_definition, lowered, code_of}

-- the emitted definition is never merged, and its stretch is the output domain
never-merged : (fuse : Bool) (def : Definition) (behind : List Definition) (ns : List (Option Need)) (number : ℕ) (t : FusedTree) → behind ≡ [] → (fuse && is_merged def behind ns number t) ≡ false
never-merged false def behind ns number t is = refl
never-merged true def behind ns number t is = rw is refl

output_stretch : (domain : Span) → domain.start <ℤ domain.end
    → (let s = cut_down (Some domain) (domain.start -ℤ pos 0) (domain.end +ℤ pos 0) in s ≡ record { lo = domain.start; hi = domain.end; empty = false })
output_stretch domain some =
    let start : int_max (domain.start -ℤ pos 0) domain.start ≡ domain.start = omega (arith, ints, clamps) in
    let end : int_min (domain.end +ℤ pos 0) domain.end ≡ domain.end = omega (arith, ints, clamps) in
    let test : int_lt domain.start domain.end ≡ true = grind (arith, ints) in
    rw (start, end, test) refl

last-domain : (place : ℕ) (defs : List Definition) (other : Definition) → length defs ≡ suc place → domain_of defs ≡ (get_or defs place other).over
last-domain place [] other is = absurd (omega arith)
last-domain zero (def ∷ []) other is = refl
last-domain (suc place) (def ∷ []) other is = absurd (omega arith)
last-domain zero (def ∷ next ∷ defs) other is = absurd (omega arith)
last-domain (suc place) (def ∷ next ∷ defs) other is = last-domain place (next ∷ defs) other (omega arith)

domain-some : (over : Option Span) (domain : Span) → over ≡ Some domain → IsStretch over → domain.start <ℤ domain.end
domain-some None domain is stretch = absurd (cc is)
domain-some (Some span) domain is stretch = let same : span ≡ domain = cc is in subst (λ (s : Span). s.start <ℤ s.end) same stretch.1

module _ (query : CoreParts) (margins : MarginsParts) (lo hi : ℤ) (is_core : IsCore query) (margins_is : margins_of query ≡ Ok margins) (fuse : Bool)
    (hs : List Horizon) (many : length hs ≡ length query.inputs) where
  abbrev inputs : ℕ
  inputs = length query.inputs

  abbrev defs : List Definition
  defs = query.defs

  abbrev ns : List (Option Need)
  ns = needs_from inputs defs

  abbrev loops : List PlannedLoop
  loops = plan_of query fuse

  abbrev lower : PlannedLoop → LoopParts
  lower = lowered loops query margins lo hi

  abbrev used : List Bool
  used = sources_used query margins lo hi is_core margins_is loops (fuse, refl)

  known_query : IsKnown inputs defs used
  known_query = known query margins lo hi is_core margins_is loops (fuse, refl)

  needs_are : margins.needs ≡ needs inputs defs
  needs_are = margins-needs query margins margins_is

  -- the place of the emitted definition
  abbrev place : ℕ
  place = length query.names

  abbrev def : Definition
  def = get_or defs place no_definition

  low : place < length defs
  low = omega (arith, is_core.one_emitted)

  def_there : def ≡ get_or defs place def
  def_there = get_or_default defs place no_definition (get_or defs place no_definition) low

  none_behind : drop (suc place) defs ≡ []
  none_behind = ap (λ (k : ℕ). drop k defs) (sym is_core.one_emitted) ∙ drop-length defs

  before : State query margins lo hi used known_query needs_are fuse loops refl hs many place
  before = state query margins lo hi used known_query needs_are fuse loops refl hs many place (omega (arith, low))

  -- its loop is the last one
  abbrev last : PlannedLoop
  last = record { def = place; body = fused before.merged def.body }

  ends : loops ≡ before.front ++ last ∷ []
  ends =
      before.loops_are
      ∙ ap (λ (ls : List PlannedLoop). before.front ++ ls)
      (rest-loop inputs defs used known_query place low def def_there before.merged before.as_many before.trees fuse no_margin (last-need inputs place defs is_core.one_emitted)
      (never-merged fuse def (drop (suc place) defs) (drop (suc place) ns) (inputs + place) (fused before.merged def.body) none_behind)
      ∙ ap (λ (ds : List Definition). last ∷ loops_from fuse inputs (suc place) (before.merged ++ None ∷ []) ds (drop (suc place) ns)) none_behind)

  lower-ends : map lower loops ≡ map lower before.front ++ lower last ∷ []
  lower-ends = ap (map lower) ends ∙ map-append lower before.front (last ∷ [])

  abbrev fs : List Horizon
  fs = with_loop_horizons hs (map lower before.front)

  abbrev g : Horizon
  g = definition_horizon before.gs def

  abbrev b : Horizon
  b = loop_horizon fs (lower last)

  query-horizon : horizon_of (with_horizons hs defs) (inputs + place) ≡ g
  query-horizon =
      ap (λ (xs : List Horizon). horizon_of xs (inputs + place))
      (before.rest ∙ ap (with_horizons before.gs) (defs-from inputs defs place low def def_there)
      ∙ ap (λ (ds : List Definition). with_horizons before.gs (def ∷ ds)) none_behind)
      ∙ ap (horizon_of (before.gs ++ g ∷ [])) (sym before.gs_are) ∙ horizon_of-last before.gs g

  code-horizon : horizon_of (with_loop_horizons hs (map lower loops)) (inputs + (length (map lower loops) - 1)) ≡ b
  code-horizon =
      let front = map lower before.front in
      let at : inputs + (length (front ++ lower last ∷ []) - 1) ≡ length fs =
      omega (arith, many, length-append front (lower last ∷ []), horizons-long hs front) in
      ap (λ (ls : List LoopParts). horizon_of (with_loop_horizons hs ls) (inputs + (length ls - 1))) lower-ends
      ∙ (λ i. horizon_of (with_loop_horizons-last hs front (lower last) i) (at i))
      ∙ horizon_of-last fs b

  -- the horizon of the query isn't above the horizon of the last buffer of its code
  pub emitted-reaches : IsNotAbove (horizon_of (with_horizons hs defs) (inputs + place)) (horizon_of (with_loop_horizons hs (map lower loops)) (inputs + (length (map lower loops) - 1)))
  emitted-reaches =
      subst (λ (h : Horizon). IsNotAbove h (horizon_of (with_loop_horizons hs (map lower loops)) (inputs + (length (map lower loops) - 1)))) (sym query-horizon)
      (subst (λ (h : Horizon). IsNotAbove g h) (sym code-horizon)
      (loop-reaches query margins lo hi used known_query needs_are fuse loops refl hs many place low def def_there before no_margin (last-need inputs place defs is_core.one_emitted)))

  stretch-last : (domain : Span) → domain_of defs ≡ Some domain → lo ≡ domain.start → hi ≡ domain.end → ((lower last).lo ≡ domain.start) × ((lower last).hi ≡ domain.end)
  stretch-last domain domain_is lo_is hi_is =
      let need_there : unwrap_or (need_at margins.needs (inputs + place)) no_margin ≡ no_margin =
      ap (λ (ms : List (Option Need)). unwrap_or (need_at ms (inputs + place)) no_margin) needs_are
      ∙ ap (λ (m : Option Need). unwrap_or m no_margin) (need_at-definition inputs defs place ∙ last-need inputs place defs is_core.one_emitted) in
      let over_is : def.over ≡ Some domain = sym (last-domain place defs no_definition is_core.one_emitted) ∙ domain_is in
      let some : domain.start <ℤ domain.end = domain-some (domain_of defs) domain domain_is (domain_of-stretch inputs defs is_core.definitions) in
      let is : lower last ≡ loop_on (record { lo = domain.start; hi = domain.end; empty = false }) (buffer_of inputs loops) def last.body =
      (λ i. loop_on (stretch_of def (need_there i) (lo_is i) (hi_is i)) (buffer_of inputs loops) def last.body)
      ∙ ap (λ (o : Option Span). loop_on (cut_down o (domain.start -ℤ pos 0) (domain.end +ℤ pos 0)) (buffer_of inputs loops) def last.body) over_is
      ∙ ap (λ (s : LoopSpan). loop_on s (buffer_of inputs loops) def last.body) (output_stretch domain some) in
      (ap (λ (l : LoopParts). l.lo) is, ap (λ (l : LoopParts). l.hi) is)

-- the code of a query, for the output on any stretch, is known at each tick at which the query is
pub code-reaches : (core : CoreParts) (margins : MarginsParts) (fuse : Bool) (lo hi : ℤ) (hs : List Horizon) → IsCore core → margins_of core ≡ Ok margins → length hs ≡ length core.inputs
    → Reaches core (code_of (plan_of core fuse) core margins lo hi) hs
code-reaches core margins fuse lo hi hs is_core margins_is many = record { all = (emitted-reaches core margins lo hi is_core margins_is fuse hs many).all }

-- its last loop runs on the output domain
pub code-ends : (core : CoreParts) (margins : MarginsParts) (fuse : Bool) (domain : Span) → IsCore core → margins_of core ≡ Ok margins → domain_of core.defs ≡ Some domain
    → EndsOn (code_of (plan_of core fuse) core margins domain.start domain.end) domain
code-ends core margins fuse domain is_core margins_is domain_is =
    let hs = replicate (length core.inputs) ForEver in
    let many : length hs ≡ length core.inputs = length-replicate (length core.inputs) ForEver in
    let lower = lowered (plan_of core fuse) core margins domain.start domain.end in
    let s = before core margins domain.start domain.end is_core margins_is fuse hs many in
    let stretch = stretch-last core margins domain.start domain.end is_core margins_is fuse hs many domain domain_is refl refl in
    record {
      front = map lower s.front;
      last = lower (last core margins domain.start domain.end is_core margins_is fuse hs many);
      loops_are = lower-ends core margins domain.start domain.end is_core margins_is fuse hs many;
      lo_is = stretch.0;
      hi_is = stretch.1;
    }
