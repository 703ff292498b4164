-- Without options, a line does what the basic rule says.
use Rattle.std.proofs.Common.{◌≡◌, ℕ, zero, suc, ℤ, Bool, true, false, if◌then◌else◌, int_lt, List, [], ◌∷◌, ◌++◌, map, Option, Some, None, option_map}
use Rattle.std.proofs.Common.{refl, ap, ◌∙◌, append-nil}
use Rattle.std.specs.List.{AllByRecursion}
use Rattle.tilt_feed.specs.Events.{update_fault}
use Rattle.tilt_feed.specs.declared.edge.Edge.{Edge}
use Rattle.tilt_feed.specs.declared.event.Event.{Event}
use Rattle.tilt_feed.specs.declared.event.Event.TheVariants as event
use Rattle.tilt_feed.specs.declared.fault.EventFault.{EventFault}
use Rattle.tilt_feed.specs.declared.update.Update.{Update}
use Rattle.tilt_feed.specs.declared.update.Update.TheVariants.{KnownUpTo}
use Rattle.tilt_feed_line.specs.declared.line.Line.{Line}
use Rattle.tilt_feed_line.specs.declared.line.Line.TheVariants as line
use Rattle.tilt_watermarks.proofs.Places.{overlaps-never}
use Rattle.tilt_watermarks.specs.Basic.{basic_edges, basic_events, basic_fault, edge_at, moved_at, raised_edge, raising_edges}
use Rattle.tilt_watermarks.specs.Held.{Waiting, bare, due, known, moved, moved_all, rising}
use Rattle.tilt_watermarks.specs.Laws.{IsFit, edges_of, no_options}
use Rattle.tilt_watermarks.specs.Steps.{Kept, closed, events_at, fault_by, followed, handed_at, input_at, inputs_entered, line_fault, raised, raising, rule_broken, taken}
use Rattle.tilt_watermarks.specs.declared.fault.TakeFault.TheVariants.{NotAllowed}

-- an input that holds nothing
handed-none : (end : Option ℤ) (input : Waiting) → input.held ≡ [] → (known end input).handed ≡ rising end input.edge
handed-none end input none = ap (λ (held : List Update). due end held ++ rising end (moved_all (due end held) input.edge)) none

rising-moves : (b : Bool) (tick : ℤ) (edge : Edge) → moved_all (if b then KnownUpTo tick ∷ [] else []) edge ≡ (if b then moved (KnownUpTo tick) edge else edge)
rising-moves true tick edge = refl
rising-moves false tick edge = refl

rising-events : (b : Bool) (number : ℕ) (tick : ℤ) → events_at number (if b then KnownUpTo tick ∷ [] else []) ≡ (if b then event.Input number (KnownUpTo tick) ∷ [] else [])
rising-events true number tick = refl
rising-events false number tick = refl

raised-edges : (tick : ℤ) (inputs : List Waiting) → AllByRecursion (IsFit None) inputs → edges_of (map (raised (Some tick)) inputs) ≡ map (raised_edge tick) (edges_of inputs)
raised-edges tick [] fit = refl
raised-edges tick (input ∷ inputs) fit =
    let handed = handed-none (Some tick) input (fit.0.none refl) in
    ap (λ (edge : Edge). edge ∷ edges_of (map (raised (Some tick)) inputs))
    (ap (λ (updates : List Update). moved_all updates input.edge) handed ∙ rising-moves (int_lt input.edge.watermark tick) tick input.edge)
    ∙ ap (λ (edges : List Edge). raised_edge tick input.edge ∷ edges) (raised-edges tick inputs fit.1)

raised-events : (number : ℕ) (tick : ℤ) (inputs : List Waiting) → AllByRecursion (IsFit None) inputs → raising number (Some tick) inputs ≡ raising_edges number tick (edges_of inputs)
raised-events number tick [] fit = refl
raised-events number tick (input ∷ inputs) fit =
    let b = int_lt input.edge.watermark tick in
    let handed = handed-none (Some tick) input (fit.0.none refl) in
    ap (λ (events : List Event). events ++ raising (suc number) (Some tick) inputs)
    (ap (events_at number) handed ∙ rising-events b number tick)
    ∙ ap (λ (events : List Event). (if b then event.Input number (KnownUpTo tick) ∷ [] else []) ++ events) (raised-events (suc number) tick inputs fit.1)

-- at the end
ended-edges : (inputs : List Waiting) → AllByRecursion (IsFit None) inputs → edges_of (map closed (map (raised None) inputs)) ≡ map (λ edge. bare edge.watermark) (edges_of inputs)
ended-edges [] fit = refl
ended-edges (input ∷ inputs) fit =
    let handed = handed-none None input (fit.0.none refl) in
    ap (λ (edge : Edge). bare edge.watermark ∷ edges_of (map closed (map (raised None) inputs))) (ap (λ (updates : List Update). moved_all updates input.edge) handed)
    ∙ ap (λ (edges : List Edge). bare input.edge.watermark ∷ edges) (ended-edges inputs fit.1)

ended-events : (number : ℕ) (inputs : List Waiting) → AllByRecursion (IsFit None) inputs → raising number None inputs ≡ []
ended-events number [] fit = refl
ended-events number (input ∷ inputs) fit =
    let handed = handed-none None input (fit.0.none refl) in
    ap (λ (updates : List Update). events_at number updates ++ raising (suc number) None inputs) handed ∙ ended-events (suc number) inputs fit.1

-- an update
entered-edges : (number : ℕ) (update : Update) (inputs : List Waiting) → edges_of (inputs_entered None number update inputs) ≡ moved_at number update (edges_of inputs)
entered-edges number update [] = refl
entered-edges zero update (input ∷ inputs) = refl
entered-edges (suc number) update (input ∷ inputs) = ap (λ (edges : List Edge). input.edge ∷ edges) (entered-edges number update inputs)

handed-once : (number : ℕ) (update : Update) (inputs : List Waiting) → handed_at None number update inputs ≡ update ∷ []
handed-once number update [] = refl
handed-once zero update (input ∷ inputs) = refl
handed-once (suc number) update (input ∷ inputs) = handed-once number update inputs

pub basic-edges : (kept : Kept) (line : Line) → AllByRecursion (IsFit None) kept.inputs → edges_of (taken no_options line kept).kept.inputs ≡ basic_edges line (edges_of kept.inputs)
basic-edges kept (line.Update number update) fit = entered-edges number update kept.inputs
basic-edges kept (line.AllKnownUpTo tick) fit = raised-edges tick kept.inputs fit
basic-edges kept line.Finish fit = ended-edges kept.inputs fit

pub basic-events : (kept : Kept) (line : Line) → AllByRecursion (IsFit None) kept.inputs → (taken no_options line kept).events ≡ basic_events line (edges_of kept.inputs)
basic-events kept (line.Update number update) fit =
    append-nil (followed None (line.Update number update) kept).events ∙ ap (events_at number) (handed-once number update kept.inputs)
basic-events kept (line.AllKnownUpTo tick) fit = append-nil (followed None (line.AllKnownUpTo tick) kept).events ∙ raised-events 0 tick kept.inputs fit
basic-events kept line.Finish fit =
    append-nil (followed None line.Finish kept).events ∙ ap (λ (events : List Event). events ++ event.Finish ∷ []) (ended-events 0 kept.inputs fit)

-- and its fault
edge-same : (inputs : List Waiting) (number : ℕ) → (input_at inputs number).edge ≡ edge_at (edges_of inputs) number
edge-same [] number = refl
edge-same (input ∷ inputs) zero = refl
edge-same (input ∷ inputs) (suc number) = edge-same inputs number

fault-near : (rule : Option EventFault) → fault_by rule false false ≡ option_map NotAllowed rule
fault-near None = refl
fault-near (Some rule) = refl

pub fault-same : (kept : Kept) (line : Line) → line_fault no_options kept line ≡ option_map NotAllowed (basic_fault kept.finished (edges_of kept.inputs) line)
fault-same kept (line.Update number update) =
    ap (λ (overlap : Bool). fault_by (rule_broken None kept.finished kept.inputs (line.Update number update)) overlap false) (overlaps-never kept.inputs number update)
    ∙ fault-near (rule_broken None kept.finished kept.inputs (line.Update number update))
    ∙ ap (λ (edge : Edge). option_map NotAllowed (update_fault kept.finished edge update)) (edge-same kept.inputs number)
fault-same kept (line.AllKnownUpTo tick) = fault-near (rule_broken None kept.finished kept.inputs (line.AllKnownUpTo tick))
fault-same kept line.Finish = fault-near (rule_broken None kept.finished kept.inputs line.Finish)
