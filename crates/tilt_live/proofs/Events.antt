-- What is known of inputs, taken by an engine as events.
use Rattle.std.proofs.Common.{◌≡◌, ◌+◌, ℕ, suc, List, ◌∷◌, Some, refl, ap, sym, ◌∙◌, arith}
use Rattle.tilt_feed.specs.Events.{after, after_all, event_fault}
use Rattle.tilt_feed.specs.Feed.{Feed, InputFeed}
use Rattle.tilt_feed.specs.declared.event.Event.{Event}
use Rattle.tilt_feed.specs.declared.fault.EventFault.{EventFault}
use Rattle.tilt_resume.proofs.Restored.{after_all-append}
use Rattle.tilt_resume.specs.Restoring.{all_events, edge_events, input_events, row_events}

-- an event that isn't allowed changes nothing
pub event-untaken : (feed : Feed) (event : Event) (fault : EventFault) → event_fault feed event ≡ Some fault → after event feed ≡ feed
event-untaken feed event fault is = rw is refl

-- one input after another
pub input-taken : (number : ℕ) (input : InputFeed) (rest : List InputFeed) (feed : Feed)
    → after_all (all_events (number + 1) rest) (after_all (edge_events number input.edge) (after_all (row_events number input.rows) feed))
    ≡ after_all (all_events number (input ∷ rest)) feed
input-taken number input rest feed =
    let on : number + 1 ≡ suc number = omega arith in
    ap (λ (n : ℕ). after_all (all_events n rest) (after_all (edge_events number input.edge) (after_all (row_events number input.rows) feed))) on
    ∙ ap (after_all (all_events (suc number) rest)) (sym (after_all-append (row_events number input.rows) (edge_events number input.edge) feed))
    ∙ sym (after_all-append (input_events number input) (all_events (suc number) rest) feed)
