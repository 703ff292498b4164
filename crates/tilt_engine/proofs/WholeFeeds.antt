-- A feed with the rows that have gone before its own: its events are those of the feed, and what is left of its rows is the feed's rows.
use Rattle.std.proofs.Common.{◌≡◌, ◌<◌, ℕ, zero, suc, Bool, true, false, List, [], ◌∷◌, ◌++◌, length, map, get_or, is_none, if◌then◌else◌, refl, ap, ◌∙◌, arith}
use Rattle.std.proofs.lemmas.List.{append_assoc}
use Rattle.tilt_engine.proofs.Gone.{drop-front}
use Rattle.tilt_engine.specs.AtRest.{horizons_of}
use Rattle.tilt_engine.specs.Gone.{BeginsWith, rests, whole_feed, with_gone}
use Rattle.tilt_feed.specs.Events.{after, after_all, changed_by, closed_by, edge_of, event_fault, finished_input, update_fault, updated_at}
use Rattle.tilt_feed.specs.Feed.{Feed, InputFeed, closed_at}
use Rattle.tilt_feed.specs.Horizon.{Horizon, input_horizon}
use Rattle.tilt_feed.specs.Resting.{all_resting, resting, resting_end}
use Rattle.tilt_feed.specs.declared.edge.Edge.{Edge}
use Rattle.tilt_feed.specs.declared.event.Event.{Event}
use Rattle.tilt_feed.specs.declared.event.Event.TheVariants.{Input, Finish}
use Rattle.tilt_feed.specs.declared.update.Update.{Update}
use Rattle.tilt_stream.specs.Snap.{Snapshot}

pub whole-length : (gone : List (List Snapshot)) (inputs : List InputFeed) → length (with_gone gone inputs) ≡ length inputs
whole-length [] inputs = refl
whole-length (g ∷ gone) [] = refl
whole-length (g ∷ gone) (a ∷ inputs) = ap suc (whole-length gone inputs)

whole-edge : (gone : List (List Snapshot)) (inputs : List InputFeed) (number : ℕ) → edge_of (with_gone gone inputs) number ≡ edge_of inputs number
whole-edge [] inputs number = refl
whole-edge (g ∷ gone) [] number = refl
whole-edge (g ∷ gone) (a ∷ inputs) zero = refl
whole-edge (g ∷ gone) (a ∷ inputs) (suc number) = whole-edge gone inputs number

-- the first rule that an event breaks
pub whole-fault : (gone : List (List Snapshot)) (feed : Feed) (event : Event) → event_fault (whole_feed gone feed) event ≡ event_fault feed event
whole-fault gone feed (Input number update) = ap (λ (e : Edge). update_fault feed.finished e update) (whole-edge gone feed.inputs number)
whole-fault gone feed Finish = refl

whole-updated : (gone : List (List Snapshot)) (number : ℕ) (update : Update) (inputs : List InputFeed)
    → updated_at number update (with_gone gone inputs) ≡ with_gone gone (updated_at number update inputs)
whole-updated [] number update inputs = refl
whole-updated (g ∷ gone) number update [] = refl
whole-updated (g ∷ gone) zero update (a ∷ inputs) = rw (append_assoc g a.rows (closed_by a.edge update)) refl
whole-updated (g ∷ gone) (suc number) update (a ∷ inputs) =
    ap (λ (rest : List InputFeed). record { rows = g ++ a.rows; edge = a.edge } ∷ rest) (whole-updated gone number update inputs)

whole-finished : (gone : List (List Snapshot)) (inputs : List InputFeed) → map finished_input (with_gone gone inputs) ≡ with_gone gone (map finished_input inputs)
whole-finished [] inputs = refl
whole-finished (g ∷ gone) [] = refl
whole-finished (g ∷ gone) (a ∷ inputs) =
    rw (append_assoc g a.rows (closed_at a.edge.watermark a.edge.open_row), whole-finished gone inputs) refl

whole-changed : (gone : List (List Snapshot)) (event : Event) (inputs : List InputFeed)
    → changed_by event (with_gone gone inputs) ≡ whole_feed gone (changed_by event inputs)
whole-changed gone (Input number update) inputs = ap (λ (list : List InputFeed). record { inputs = list; finished = false }) (whole-updated gone number update inputs)
whole-changed gone Finish inputs = ap (λ (list : List InputFeed). record { inputs = list; finished = true }) (whole-finished gone inputs)

pub whole-after : (gone : List (List Snapshot)) (event : Event) (feed : Feed) → after event (whole_feed gone feed) ≡ whole_feed gone (after event feed)
whole-after gone event feed =
    ap (λ f. if is_none f then changed_by event (with_gone gone feed.inputs) else whole_feed gone feed) (whole-fault gone feed event)
    ∙ by (is_none (event_fault feed event))
  where
    by : (b : Bool) → (if b then changed_by event (with_gone gone feed.inputs) else whole_feed gone feed) ≡ whole_feed gone (if b then changed_by event feed.inputs else feed)
    by true = whole-changed gone event feed.inputs
    by false = refl

pub whole-after_all : (gone : List (List Snapshot)) (events : List Event) (feed : Feed)
    → after_all events (whole_feed gone feed) ≡ whole_feed gone (after_all events feed)
whole-after_all gone [] feed = refl
whole-after_all gone (event ∷ events) feed = ap (after_all events) (whole-after gone event feed) ∙ whole-after_all gone events (after event feed)

-- up to where each input is known
horizons-same : (finished : Bool) (gone : List (List Snapshot)) (inputs : List InputFeed)
    → map (λ (a : InputFeed). input_horizon finished a.edge) (with_gone gone inputs) ≡ map (λ (a : InputFeed). input_horizon finished a.edge) inputs
horizons-same finished [] inputs = refl
horizons-same finished (g ∷ gone) [] = refl
horizons-same finished (g ∷ gone) (a ∷ inputs) = ap (λ (hs : List Horizon). input_horizon finished a.edge ∷ hs) (horizons-same finished gone inputs)

pub whole-horizons : (gone : List (List Snapshot)) (feed : Feed) → horizons_of (whole_feed gone feed) ≡ horizons_of feed
whole-horizons gone feed = horizons-same feed.finished gone feed.inputs

-- what is left of its rows at rest
lefts-same : (gone : List (List Snapshot)) (inputs : List InputFeed) → rests gone (map resting (with_gone gone inputs)) ≡ map resting inputs
lefts-same [] inputs = refl
lefts-same (g ∷ gone) [] = refl
lefts-same (g ∷ gone) (a ∷ inputs) =
    let open_row = closed_at (resting_end a.edge) a.edge.open_row in
    rw (append_assoc g a.rows open_row, drop-front g (a.rows ++ open_row), lefts-same gone inputs) refl

pub whole-lefts : (gone : List (List Snapshot)) (feed : Feed) → rests gone (all_resting (whole_feed gone feed)) ≡ all_resting feed
whole-lefts gone feed = lefts-same gone feed.inputs

-- they begin with what has gone
begins-by : (gone : List (List Snapshot)) (inputs : List InputFeed) (number : ℕ) → number < length inputs
    → BeginsWith (get_or gone number []) (get_or (map resting (with_gone gone inputs)) number [])
begins-by [] inputs number within = (get_or (map resting inputs) number [], refl)
begins-by (g ∷ gone) [] number within = absurd (omega arith)
begins-by (g ∷ gone) (a ∷ inputs) zero within =
    let open_row = closed_at (resting_end a.edge) a.edge.open_row in
    (a.rows ++ open_row, append_assoc g a.rows open_row)
begins-by (g ∷ gone) (a ∷ inputs) (suc number) within = begins-by gone inputs number (omega arith)

pub whole-begins : (gone : List (List Snapshot)) (feed : Feed) (number : ℕ) → number < length feed.inputs
    → BeginsWith (get_or gone number []) (get_or (all_resting (whole_feed gone feed)) number [])
whole-begins gone feed number within = begins-by gone feed.inputs number within
