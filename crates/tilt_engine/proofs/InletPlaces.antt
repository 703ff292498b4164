-- The inputs of an engine, by their numbers.
use Rattle.std.proofs.Common.{◌≡◌, ◌≤◌, ℕ, zero, suc, Bool, true, false, List, [], ◌∷◌, length, slice_get, slice_set, Some, None, refl, sym, ap, arith}
use Rattle.std.proofs.lemmas.Option.{same_Some}
use Rattle.tilt_engine.specs.Inlets.{inlet_edge, inlet_fault, updated_inlets}
use Rattle.tilt_engine.specs.Stock.{InletParts, resting_inlet}
use Rattle.tilt_feed.specs.Events.{updated}
use Rattle.tilt_feed.specs.Feed.{unknown_input}
use Rattle.tilt_feed.specs.declared.event.Event.{Event}
use Rattle.tilt_feed.specs.declared.event.Event.TheVariants.{Input, Finish}
use Rattle.tilt_feed.specs.declared.update.Update.{Update}

-- the edge of an input, and of none
pub edge-at : (inlets : List InletParts) (number : ℕ) (i : InletParts) → slice_get inlets number ≡ Some i → inlet_edge inlets number ≡ i.input.edge
edge-at [] number i is = absurd (cc is)
edge-at (x ∷ inlets) zero i is = ap (λ (v : InletParts). v.input.edge) (same_Some x i is)
edge-at (x ∷ inlets) (suc number) i is = edge-at inlets number i is

pub edge-past : (inlets : List InletParts) (number : ℕ) → length inlets ≤ number → inlet_edge inlets number ≡ unknown_input.edge
edge-past [] number past = refl
edge-past (x ∷ inlets) zero past = absurd (omega arith)
edge-past (x ∷ inlets) (suc number) past = edge-past inlets number (omega arith)

-- the inputs after an update of one, and of none
pub updated-at : (inlets : List InletParts) (number : ℕ) (i : InletParts) (update : Update) → slice_get inlets number ≡ Some i
    → updated_inlets number update inlets ≡ slice_set inlets number (resting_inlet (updated update i.input))
updated-at [] number i update is = absurd (cc is)
updated-at (x ∷ inlets) zero i update is = ap (λ (v : InletParts). resting_inlet (updated update v.input) ∷ inlets) (same_Some x i is)
updated-at (x ∷ inlets) (suc number) i update is = ap (λ (list : List InletParts). x ∷ list) (updated-at inlets number i update is)

pub updated-past : (inlets : List InletParts) (number : ℕ) (update : Update) → length inlets ≤ number → updated_inlets number update inlets ≡ inlets
updated-past [] number update past = refl
updated-past (x ∷ inlets) zero update past = absurd (omega arith)
updated-past (x ∷ inlets) (suc number) update past = ap (λ (list : List InletParts). x ∷ list) (updated-past inlets number update (omega arith))

-- an event that is allowed is so before the feed is finished
pub fault-unfinished : (finished : Bool) (inlets : List InletParts) (event : Event) → None ≡ inlet_fault finished inlets event
    → inlet_fault false inlets event ≡ None
fault-unfinished true inlets (Input number update) is = absurd (cc is)
fault-unfinished true inlets Finish is = absurd (cc is)
fault-unfinished false inlets event is = sym is
