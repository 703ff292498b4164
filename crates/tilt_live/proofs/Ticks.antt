-- Laws of horizons in memory, and how far from tick 0 they lie.
use Rattle.std.proofs.Common.{◌≡◌, ℕ, ◌+◌, ◌^◌, ◌≤◌, ℤ, ◌<ℤ◌, ◌≤ℤ◌, int_le, Bool, true, false, if◌then◌else◌}
use Rattle.std.proofs.Common.{List, [], ◌∷◌, ◌++◌, length, map, Option, Some, None, refl, ap, sym, subst, ◌∙◌, arith, length-append}
use Rattle.std.specs.Bool.{⊤}
use Rattle.std.specs.Int.{int_max}
use Rattle.std.specs.List.{AllByRecursion}
use Rattle.std.proofs.lemmas.Int.{ints, clamps}
use Rattle.std.proofs.lemmas.List.{length-map}
use Rattle.std.proofs.lemmas.Option.{none-some}
use Rattle.tilt_base.proofs.Lists.{all-push}
use Rattle.tilt_base.specs.declared.span.Span.{Span}
use Rattle.tilt_core.specs.Core.{IsStretch, domain_of}
use Rattle.tilt_core.specs.CoreTree.{Definition}
use Rattle.tilt_feed.specs.Horizon.{Horizon, Until, ForEver, body_horizon, definition_horizon, grid_horizon, horizon_of, over_horizon, with_horizons}
use Rattle.tilt_engine.specs.CodeHorizon.{horizon_by}
use Rattle.tilt_live.specs.Ticks.{IsWithin, drift}

-- a horizon within a lesser distance is within a greater one
pub within-greater : (less more : ℕ) (h : Option ℤ) → less ≤ more → IsWithin less h → IsWithin more h
within-greater less more None above near = tt
within-greater less more (Some t) above near = let low = near.0 in let high = near.1 in (omega (arith, ints), omega (arith, ints))

pub all_within-greater : (less more : ℕ) (hs : List (Option ℤ)) → less ≤ more → AllByRecursion (IsWithin less) hs → AllByRecursion (IsWithin more) hs
all_within-greater less more [] above near = tt
all_within-greater less more (h ∷ hs) above near = (within-greater less more h above near.0, all_within-greater less more hs above near.1)

-- the horizons of sources, and of one more
pub grown-near : (items seen new : List (Option ℤ)) (h : Option ℤ) → seen ≡ items → new ≡ items ++ h ∷ []
    → AllByRecursion (IsWithin (drift (length items))) items → IsWithin (drift (1 + length seen)) h → AllByRecursion (IsWithin (drift (length new))) new
grown-near items seen new h same grown near last =
    let count = length items in
    let many : length new ≡ 1 + count = ap length grown ∙ length-append items (h ∷ []) ∙ omega arith in
    let all = all_within-greater (drift count) (drift (1 + count)) items (omega arith) near in
    let one = subst (λ (xs : List (Option ℤ)). IsWithin (drift (1 + length xs)) h) same last in
    rw (many, grown) (all-push (IsWithin (drift (1 + count))) items h all one)

-- the horizon of a definition with `over` lies in the stretch, or is for ever
abbrev IsHeld : Span → Horizon → Type 0
IsHeld span ForEver = ⊤
IsHeld span (Until t) = (span.start ≤ℤ t) × (t ≤ℤ span.end)

over-held_by : (span : Span) (last : ℤ) (whole : Bool) → span.start <ℤ span.end → int_le span.end last ≡ whole
    → IsHeld span (if whole then ForEver else Until (int_max span.start last))
over-held_by span last true forward is = tt
over-held_by span last false forward is = (grind (arith, ints, clamps), grind (arith, ints, clamps))

over-held : (span : Span) (h : Horizon) → span.start <ℤ span.end → IsHeld span (over_horizon (Some span) h)
over-held span ForEver forward = tt
over-held span (Until last) forward = over-held_by span last (int_le span.end last) forward refl

pub horizon_of-last : (hs : List Horizon) (h : Horizon) → horizon_of (hs ++ h ∷ []) (length hs) ≡ h
horizon_of-last [] h = refl
horizon_of-last (g ∷ hs) h = horizon_of-last hs h

-- so does that of the last definition
last-held : (hs : List Horizon) (defs : List Definition) (span : Span) (number : ℕ) → domain_of defs ≡ Some span → span.start <ℤ span.end
    → number + 1 ≡ length hs + length defs → IsHeld span (horizon_of (with_horizons hs defs) number)
last-held hs [] span number is forward last = absurd (none-some span is)
last-held hs (def ∷ []) span number is forward last =
    let h = grid_horizon def.grid (body_horizon hs def.body) in
    let at : number ≡ length hs = omega arith in
    let held : IsHeld span (over_horizon def.over h) = subst (λ over. IsHeld span (over_horizon over h)) (sym is) (over-held span h forward) in
    subst (λ n. IsHeld span (horizon_of (hs ++ definition_horizon hs def ∷ []) n)) (sym at) (subst (IsHeld span) (sym (horizon_of-last hs (definition_horizon hs def))) held)
last-held hs (def ∷ next ∷ defs) span number is forward last =
    let h = definition_horizon hs def in
    last-held (hs ++ h ∷ []) (next ∷ defs) span number is forward (omega (arith, length-append hs (h ∷ [])))

-- such a horizon fits into 64 bits
held-within : (span : Span) (h : Option ℤ) → IsStretch (Some span) → IsHeld span (horizon_by h) → IsWithin (2 ^ 62) h
held-within span None stretch held = tt
held-within span (Some t) stretch held =
    let low = stretch.0 in
    let high = stretch.2 in
    let above = held.0 in
    let below = held.1 in
    (omega (arith, ints), omega (arith, ints))

pub last-within : (inputs all : List (Option ℤ)) (defs : List Definition) (span : Span) (number : ℕ) (h : Option ℤ) → domain_of defs ≡ Some span
    → IsStretch (Some span) → number + 1 ≡ length inputs + length defs → map horizon_by all ≡ with_horizons (map horizon_by inputs) defs
    → horizon_by h ≡ horizon_of (map horizon_by all) number → IsWithin (2 ^ 62) h
last-within inputs all defs span number h is stretch last made at =
    let held = last-held (map horizon_by inputs) defs span number is stretch.1 (omega (arith, length-map inputs horizon_by)) in
    held-within span h stretch (subst (IsHeld span) (sym (at ∙ ap (λ hs. horizon_of hs number) made)) held)
