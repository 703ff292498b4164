-- The horizon isn't below the tick up to which sessions with the same cuts have decided the output.
use Rattle.std.proofs.Common.{◌≡◌, ◌==◌, ℕ, zero, suc, ◌+◌, ◌<◌, ℤ, pos, ◌+ℤ◌, ◌-ℤ◌, ◌≤ℤ◌, Bool, List, [], ◌∷◌, ◌++◌, length, map, get_or, Option, Some, None}
use Rattle.std.proofs.Common.{if◌then◌else◌, refl, ap, sym, subst, ◌∙◌, inl, inr, ◌⊎◌, unwrap_or, length-append, arith}
use Rattle.std.specs.Prelude.{⊤}
use Rattle.std.specs.List.{AllByRecursion, range_with_len}
use Rattle.std.proofs.Math.ListN.{get_or-append}
use Rattle.std.proofs.lemmas.Int.{ints, clamps}
use Rattle.std.proofs.lemmas.List.{length-map}
use Rattle.std.proofs.lemmas.List.FromFn.{get_or-map-range_with_len, length-map-range_with_len}
use Rattle.tilt_base.proofs.Comparisons.{below_or_at, same_number}
use Rattle.tilt_base.proofs.GridPoints.{ceil-high}
use Rattle.tilt_base.specs.Expression.{Leaf, One, Two, If}
use Rattle.tilt_base.specs.Grid.{ceil}
use Rattle.tilt_base.specs.declared.span.Span.{Span}
use Rattle.tilt_checkpoint.specs.Cuts.{IsLeast}
use Rattle.tilt_checkpoint.specs.Decided.{decided, frame_of, frame_with}
use Rattle.tilt_core.specs.Core.{AreDefinitions, CoreParts, IsCore, IsDefinition, ReadsBelow, domain_of, emitted_number}
use Rattle.tilt_core.specs.CoreTree.{Const, Read, Reduce, CoreTree, Definition}
use Rattle.tilt_core.specs.Needs.{Need, asked_by, asked_from, asked_of, body_need, body_needs, either, need_before, needs_from, reach, reaching, wider, widest}
use Rattle.tilt_feed.proofs.Following.{fed-length, input_horizons}
use Rattle.tilt_feed.proofs.Known.{known-clipped, known-below, known-both, known-earlier, known-over, point-known}
use Rattle.tilt_feed.proofs.Updates.{known-watermark}
use Rattle.tilt_feed.specs.Feed.{InputFeed, Feed, watermarks}
use Rattle.tilt_feed.specs.Horizon.{Horizon, IsKnownAt, body_horizon, definition_horizon, output_domain, grid_horizon, horizon, horizon_of, horizons, input_horizon, with_horizons}
use Rattle.tilt_feed.specs.Laws.{fed}
use Rattle.tilt_feed.specs.declared.event.Event.{Event}

-- a source is known as far beyond a tick as it is looked ahead
abbrev pub IsFar : ℤ → Option Need → Horizon → Type 0
IsFar base None h = ⊤
IsFar base (Some n) h = IsKnownAt h (base +ℤ n.ahead)

module _ (base : ℤ) where
  first_of_both : (m n : Option Need) (h : Horizon) → IsFar base (either m n) h → IsFar base m h
  first_of_both None n h far = tt
  first_of_both (Some m) None h far = far
  first_of_both (Some m) (Some n) h far = known-below h (base +ℤ (wider m n).ahead) (base +ℤ m.ahead) far (omega (arith, ints, clamps))

  second_of_both : (m n : Option Need) (h : Horizon) → IsFar base (either m n) h → IsFar base n h
  second_of_both m None h far = tt
  second_of_both None (Some n) h far = far
  second_of_both (Some m) (Some n) h far = known-below h (base +ℤ (wider m n).ahead) (base +ℤ n.ahead) far (omega (arith, ints, clamps))

  module _ (hs : List Horizon) (bound : ℕ) where
    asked : (read : ℕ) (n : Need) → read < bound → ((source : ℕ) → source < bound → IsFar base (if read == source then Some n else None) (horizon_of hs source))
        → IsKnownAt (horizon_of hs read) (base +ℤ n.ahead)
    asked read n low h = rw (same_number read) at (h read low)

    -- what a source is read by is known as far as it is asked for
    body-far : (n : Need) (body : CoreTree) → ReadsBelow bound body → ((source : ℕ) → source < bound → IsFar base (asked_by n body source) (horizon_of hs source))
        → IsKnownAt (body_horizon hs body) (base +ℤ n.ahead)
    body-far n (Leaf (Const number)) reads far = tt
    body-far n (Leaf (Read read offset)) reads far =
        let r = reaching n offset offset in
        let h = horizon_of hs read in
        known-earlier h offset (base +ℤ n.ahead)
        (known-below h (base +ℤ r.ahead) (base +ℤ n.ahead +ℤ offset) (asked read r reads far) (omega (arith, ints, clamps)))
    body-far n (Leaf (Reduce reducer read from to)) reads far =
        let r = reaching n (from +ℤ pos 1) to in
        let h = horizon_of hs read in
        known-earlier h to (base +ℤ n.ahead)
        (known-below h (base +ℤ r.ahead) (base +ℤ n.ahead +ℤ to) (asked read r reads.0 far) (omega (arith, ints, clamps)))
    body-far n (One op a) reads far = body-far n a reads far
    body-far n (Two op a b) reads far =
        known-both (body_horizon hs a) (body_horizon hs b) (base +ℤ n.ahead)
        (body-far n a reads.0 (λ s low. first_of_both (asked_by n a s) (asked_by n b s) (horizon_of hs s) (far s low)))
        (body-far n b reads.1 (λ s low. second_of_both (asked_by n a s) (asked_by n b s) (horizon_of hs s) (far s low)))
    body-far n (If c a b) reads far =
        let others : (s : ℕ) → s < bound → IsFar base (either (asked_by n a s) (asked_by n b s)) (horizon_of hs s) =
        λ s low. second_of_both (asked_by n c s) (either (asked_by n a s) (asked_by n b s)) (horizon_of hs s) (far s low) in
        known-both (body_horizon hs c) _ (base +ℤ n.ahead)
        (body-far n c reads.0 (λ s low. first_of_both (asked_by n c s) (either (asked_by n a s) (asked_by n b s)) (horizon_of hs s) (far s low)))
        (known-both (body_horizon hs a) (body_horizon hs b) (base +ℤ n.ahead)
        (body-far n a reads.1 (λ s low. first_of_both (asked_by n a s) (asked_by n b s) (horizon_of hs s) (others s low)))
        (body-far n b reads.2 (λ s low. second_of_both (asked_by n a s) (asked_by n b s) (horizon_of hs s) (others s low))))

    definition-far : (def : Definition) (n : Option Need) → IsDefinition bound def → ((source : ℕ) → source < bound → IsFar base (asked_of def n source) (horizon_of hs source))
        → IsFar base n (definition_horizon hs def)
    definition-far def None is far = tt
    definition-far def (Some n) is far =
        let w = body_need def n in
        let h = body_horizon hs def.body in
        let at = base +ℤ n.ahead in
        let high = ceil-high def.grid at is.grid.period_low in
        known-over def.over (grid_horizon def.grid h) at
        (point-known def.grid h at is.grid.period_low
        (known-below h (base +ℤ w.ahead) (ceil def.grid at) (body-far w def.body is.reads far) (omega (arith, ints))))

  -- what the definitions after one ask it for is its need
  asked_behind : (number : ℕ) (defs : List Definition) (h : Horizon) → IsFar base (need_before defs (asked_from (suc number) defs number)) h
      → IsFar base (asked_from (suc number) defs number) h
  asked_behind number [] h far = tt
  asked_behind number (def ∷ defs) h far = far

  horizon-front : (hs : List Horizon) (h : Horizon) (i : ℕ) → i < length hs → horizon_of (hs ++ h ∷ []) i ≡ horizon_of hs i
  horizon-front [] h i low = absurd (omega arith)
  horizon-front (g ∷ hs) h zero low = refl
  horizon-front (g ∷ hs) h (suc i) low = horizon-front hs h i (omega arith)

  horizon-last : (hs : List Horizon) (h : Horizon) → horizon_of (hs ++ h ∷ []) (length hs) ≡ h
  horizon-last [] h = refl
  horizon-last (g ∷ hs) h = horizon-last hs h

  one_more : (hs : List Horizon) (h : Horizon) (number : ℕ) (n : ℕ → Option Need) → length hs ≡ number
      → ((source : ℕ) → source < number → IsFar base (n source) (horizon_of hs source)) → IsFar base (n number) h
      → (source : ℕ) → ((source < number) ⊎ (source ≡ number)) → IsFar base (n source) (horizon_of (hs ++ h ∷ []) source)
  one_more hs h number n many before last source (inl less) = rw (horizon-front hs h source (omega arith)) (before source less)
  one_more hs h number n many before last source (inr same) =
      let at = ap (horizon_of (hs ++ h ∷ [])) (same ∙ sym many) ∙ horizon-last hs h in
      rw at (subst (λ (s : ℕ). IsFar base (n s) h) (sym same) last)

  this_far : (number : ℕ) (def : Definition) (defs : List Definition) (hs : List Horizon) → IsDefinition number def
      → ((source : ℕ) → source < number → IsFar base (asked_from number (def ∷ defs) source) (horizon_of hs source))
      → IsFar base (need_before defs (asked_from (suc number) defs number)) (definition_horizon hs def)
  this_far number def defs hs is far =
      let n = need_before defs (asked_from (suc number) defs number) in
      definition-far hs number def n is (λ s low. second_of_both (asked_from (suc number) defs s) (asked_of def n s) (horizon_of hs s) (far s low))

  -- the last definition is known up to the tick itself
  pub last-far : (number place : ℕ) (defs : List Definition) (hs : List Horizon) → length hs ≡ number → length defs ≡ suc place → AreDefinitions number defs
      → ((source : ℕ) → source < number → IsFar base (asked_from number defs source) (horizon_of hs source))
      → IsKnownAt (horizon_of (with_horizons hs defs) (number + place)) base
  last-far number place [] hs many count are far = absurd (omega arith)
  last-far number zero (def ∷ []) hs many count are far =
      let at : number + zero ≡ length hs = omega arith in
      let this = this_far number def [] hs are.0 far in
      let here : base +ℤ pos 0 ≡ base = omega (arith, ints) in
      rw (at, horizon-last hs (definition_horizon hs def)) (subst (IsKnownAt (definition_horizon hs def)) here this)
  last-far number (suc place) (def ∷ []) hs many count are far = absurd (omega arith)
  last-far number zero (def ∷ next ∷ defs) hs many count are far = absurd (omega arith)
  last-far number (suc place) (def ∷ next ∷ defs) hs many count are far =
      let h = definition_horizon hs def in
      let rest = next ∷ defs in
      let at : number + suc place ≡ suc number + place = omega arith in
      let this = this_far number def rest hs are.0 far in
      rw at (last-far (suc number) place rest (hs ++ h ∷ []) (omega (arith, length-append hs (h ∷ []))) (omega arith) are.1
      (λ s low. one_more hs h number (asked_from (suc number) rest) many
      (λ t below. first_of_both (asked_from (suc number) rest t) (asked_of def (need_before rest (asked_from (suc number) rest number)) t) (horizon_of hs t) (far t below))
      (asked_behind number rest h this) s (below_or_at s number low)))

-- no need looks farther ahead than the widest
widest-ahead : (ns : List (Option Need)) (k : ℕ) (n : Need) → get_or ns k None ≡ Some n → n.ahead ≤ℤ (widest ns).ahead
widest-ahead [] k n is = absurd (cc is)
widest-ahead (None ∷ ns) zero n is = absurd (cc is)
widest-ahead (Some m ∷ ns) zero n is =
    let same : m ≡ n = cc is in
    let ahead : m.ahead ≡ n.ahead = ap (λ (p : Need). p.ahead) same in
    omega (arith, ints, clamps)
widest-ahead (None ∷ ns) (suc k) n is = widest-ahead ns k n is
widest-ahead (Some m ∷ ns) (suc k) n is = let rest = widest-ahead ns k n is in omega (arith, ints, clamps)

-- nor does what an input is asked for
pub input-ahead : (inputs : ℕ) (defs : List Definition) (input : ℕ) (n : Need) → input < inputs → asked_from inputs defs input ≡ Some n → n.ahead ≤ℤ (reach inputs defs).ahead
input-ahead inputs defs input n low is =
    let asks = map (asked_from inputs defs) (range_with_len 0 inputs) in
    let bodies = body_needs defs (needs_from inputs defs) in
    let many = length-map-range_with_len (asked_from inputs defs) 0 inputs in
    widest-ahead (asks ++ bodies) input n
    (get_or-append asks bodies None input (omega (arith, many)) ∙ get_or-map-range_with_len (asked_from inputs defs) 0 inputs input input None low (omega arith) ∙ is)

-- an input is known up to the least watermark
input-known : (finished : Bool) (inputs : List InputFeed) (least : ℤ) (input : ℕ) → input < length inputs
    → AllByRecursion (λ cut. least ≤ℤ cut) (map (λ (a : InputFeed). a.edge.watermark) inputs) → IsKnownAt (horizon_of (input_horizons finished inputs) input) least
input-known finished [] least input low all = absurd (omega arith)
input-known finished (a ∷ inputs) least zero low all = known-watermark finished a.edge least all.0
input-known finished (a ∷ inputs) least (suc input) low all = input-known finished inputs least input (omega arith) all.1

pub input-far : (n : Option Need) (ahead least : ℤ) (h : Horizon) → ((m : Need) → n ≡ Some m → m.ahead ≤ℤ ahead) → IsKnownAt h least → IsFar (least -ℤ ahead) n h
input-far None ahead least h within known = tt
input-far (Some n) ahead least h within known = let high = within n refl in known-below h least (least -ℤ ahead +ℤ n.ahead) known (omega (arith, ints))

-- the output domain of a frame is that of the query
frame-end : (span : Option Span) (n : Need) → (frame_with span n).end ≡ (unwrap_or span (record { start = pos 0; end = pos 0 })).end
frame-end None n = refl
frame-end (Some span) n = refl

frame-ahead : (span : Option Span) (n : Need) → (frame_with span n).ahead ≡ n.ahead
frame-ahead None n = refl
frame-ahead (Some span) n = refl

module _ (core : CoreParts) (is : IsCore core) (feed : Feed) (least : ℤ) (many : length feed.inputs ≡ length core.inputs) (on : IsLeast least (watermarks feed)) where
  pub horizon-timely : decided (frame_of core) least ≤ℤ horizon core feed
  horizon-timely =
      let n = reach (length core.inputs) core.defs in
      let hs = input_horizons feed.finished feed.inputs in
      let base = least -ℤ n.ahead in
      let counted : length hs ≡ length core.inputs = length-map feed.inputs (λ (a : InputFeed). input_horizon feed.finished a.edge) ∙ many in
      let far : (source : ℕ) → source < length core.inputs → IsFar base (asked_from (length core.inputs) core.defs source) (horizon_of hs source) =
      λ source low.
      input-far (asked_from (length core.inputs) core.defs source) n.ahead least (horizon_of hs source)
      (λ m asks. input-ahead (length core.inputs) core.defs source m low asks)
      (input-known feed.finished feed.inputs least source (omega arith) on.none_below) in
      let known = last-far base (length core.inputs) (length core.names) core.defs hs counted is.one_emitted is.definitions far in
      let high = known-clipped (output_domain core).end (horizon_of (horizons core feed) (emitted_number core)) base known in
      let end = frame-end (domain_of core.defs) n in
      let ahead = frame-ahead (domain_of core.defs) n in
      rw (end, ahead) high

pub fed-timely : (core : CoreParts) (events : List Event) (least : ℤ) → IsCore core → IsLeast least (watermarks (fed core events))
    → decided (frame_of core) least ≤ℤ horizon core (fed core events)
fed-timely core events least is on = horizon-timely core is (fed core events) least (fed-length core events) on
