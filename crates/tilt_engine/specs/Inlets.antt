-- The inputs of an engine, and the events that they take (our own rule).
use Rattle.std.specs.Prelude.{ℕ, zero, suc, Bool, if◌then◌else◌, List, [], ◌∷◌, map, Option, Some, None}
use Rattle.tilt_engine.specs.Stock.{InletParts, finished_inlet, resting_inlet}
use Rattle.tilt_feed.specs.Events.{update_fault, updated}
use Rattle.tilt_feed.specs.Feed.{unknown_input}
use Rattle.tilt_feed.specs.declared.edge.Edge.{Edge}
use Rattle.tilt_feed.specs.declared.event.Event.{Event}
use Rattle.tilt_feed.specs.declared.event.Event.TheVariants.{Input, Finish}
use Rattle.tilt_feed.specs.declared.fault.EventFault.{EventFault}
use Rattle.tilt_feed.specs.declared.fault.EventFault.TheVariants.{Finished}
use Rattle.tilt_feed.specs.declared.update.Update.{Update}

-- the edge of the input with a number, and that of an unknown input if there is none
abbrev pub inlet_edge : List InletParts → ℕ → Edge
inlet_edge [] number = unknown_input.edge
inlet_edge (i ∷ inlets) zero = i.input.edge
inlet_edge (i ∷ inlets) (suc number) = inlet_edge inlets number

-- the first rule that an event breaks
abbrev pub inlet_fault : Bool → List InletParts → Event → Option EventFault
inlet_fault finished inlets (Input number update) = update_fault finished (inlet_edge inlets number) update
inlet_fault finished inlets Finish = if finished then Some Finished else None

-- the inputs after an update of the one with a number
abbrev pub updated_inlets : ℕ → Update → List InletParts → List InletParts
updated_inlets number update [] = []
updated_inlets zero update (i ∷ inlets) = resting_inlet (updated update i.input) ∷ inlets
updated_inlets (suc number) update (i ∷ inlets) = i ∷ updated_inlets number update inlets

-- the inputs after an event that is allowed
abbrev pub inlets_after : Event → List InletParts → List InletParts
inlets_after (Input number update) inlets = updated_inlets number update inlets
inlets_after Finish inlets = map (λ i. finished_inlet i.input) inlets
