-- The inputs of an engine are those of its feed, and their rows go on from event to event.
use Rattle.std.proofs.Common.{◌≡◌, ℕ, zero, suc, Bool, true, false, List, [], ◌∷◌, length, map, get_or, None, refl, sym, ap, ◌∙◌, subst, arith, append-nil}
use Rattle.std.proofs.lemmas.List.{length-map}
use Rattle.std.specs.List.{AllByRecursion}
use Rattle.tilt_engine.specs.AtRest.{horizons_of}
use Rattle.tilt_engine.specs.Engines.{AreInlets}
use Rattle.tilt_engine.specs.GoingOn.{AllGoOn, AllRise, GoOn, Rises}
use Rattle.tilt_engine.specs.Inlets.{inlet_edge, inlet_fault, inlets_after, updated_inlets}
use Rattle.tilt_engine.specs.Stock.{InletParts, finished_inlet, inlet_horizon, inlet_list, resting_inlet}
use Rattle.tilt_feed.proofs.AllAtRest.{after-rests}
use Rattle.tilt_feed.proofs.AtRest.{rests-refl}
use Rattle.tilt_feed.proofs.Following.{after_all-follows, after_all-length, inputs-rise, unfinished}
use Rattle.tilt_feed.proofs.Ordered.{after-order}
use Rattle.tilt_feed.proofs.Rising.{AreNotAbove}
use Rattle.tilt_feed.proofs.Updates.{allowed-of}
use Rattle.tilt_feed.specs.Events.{after, after_all, changed_by, edge_of, event_fault, finished_input, update_fault, updated_at}
use Rattle.tilt_feed.specs.Feed.{Feed, InputFeed, rows_now}
use Rattle.tilt_feed.specs.Horizon.{Horizon, input_horizon}
use Rattle.tilt_feed.specs.Laws.{IsInOrder}
use Rattle.tilt_feed.specs.Resting.{RestsOn, all_resting, resting}
use Rattle.tilt_feed.specs.declared.event.Event.{Event}
use Rattle.tilt_feed.specs.declared.event.Event.TheVariants.{Input, Finish}
use Rattle.tilt_feed.specs.declared.edge.Edge.{Edge}
use Rattle.tilt_feed.specs.declared.update.Update.{Update}
use Rattle.tilt_stream.specs.Snap.{Snapshot}

edge-is : (inputs : List InputFeed) (number : ℕ) → inlet_edge (map resting_inlet inputs) number ≡ edge_of inputs number
edge-is [] number = refl
edge-is (a ∷ inputs) zero = refl
edge-is (a ∷ inputs) (suc number) = edge-is inputs number

-- the first rule that an event breaks
fault-by : (finished : Bool) (inputs : List InputFeed) (inlets : List InletParts) (event : Event) → AreInlets finished inputs inlets
    → inlet_fault finished inlets event ≡ event_fault (record { inputs = inputs; finished = finished }) event
fault-by true inputs inlets (Input number update) are = refl
fault-by true inputs inlets Finish are = refl
fault-by false inputs inlets (Input number update) are =
    ap (λ (list : List InletParts). update_fault false (inlet_edge list number) update) are ∙ ap (λ (e : Edge). update_fault false e update) (edge-is inputs number)
fault-by false inputs inlets Finish are = refl

pub fault-is : (feed : Feed) (inlets : List InletParts) (event : Event) → AreInlets feed.finished feed.inputs inlets
    → inlet_fault feed.finished inlets event ≡ event_fault feed event
fault-is feed inlets event are = fault-by feed.finished feed.inputs inlets event are

-- the inputs after an event that is allowed
updated-inlets : (number : ℕ) (update : Update) (inputs : List InputFeed)
    → updated_inlets number update (map resting_inlet inputs) ≡ map resting_inlet (updated_at number update inputs)
updated-inlets number update [] = refl
updated-inlets zero update (a ∷ inputs) = refl
updated-inlets (suc number) update (a ∷ inputs) = ap (λ (list : List InletParts). resting_inlet a ∷ list) (updated-inlets number update inputs)

finished-inlets : (inputs : List InputFeed) → map (λ (i : InletParts). finished_inlet i.input) (map resting_inlet inputs) ≡ map finished_inlet inputs
finished-inlets [] = refl
finished-inlets (a ∷ inputs) = ap (λ (list : List InletParts). finished_inlet a ∷ list) (finished-inlets inputs)

unfinished-by : (finished : Bool) (inputs : List InputFeed) (event : Event) → event_fault (record { inputs = inputs; finished = finished }) event ≡ None → finished ≡ false
unfinished-by finished inputs (Input number update) is = (allowed-of finished (edge_of inputs number) update is).0
unfinished-by finished inputs Finish is = unfinished finished is

changed-inlets : (inputs : List InputFeed) (inlets : List InletParts) (event : Event) → inlets ≡ map resting_inlet inputs
    → AreInlets (changed_by event inputs).finished (changed_by event inputs).inputs (inlets_after event inlets)
changed-inlets inputs inlets (Input number update) are = ap (updated_inlets number update) are ∙ updated-inlets number update inputs
changed-inlets inputs inlets Finish are =
    (inputs, refl, ap (map (λ (i : InletParts). finished_inlet i.input)) are ∙ finished-inlets inputs)

pub after-inlets : (feed : Feed) (inlets : List InletParts) (event : Event) → AreInlets feed.finished feed.inputs inlets → event_fault feed event ≡ None
    → AreInlets (after event feed).finished (after event feed).inputs (inlets_after event inlets)
after-inlets feed inlets event are is =
    let no = unfinished-by feed.finished feed.inputs event is in
    let resting_ : inlets ≡ map resting_inlet feed.inputs = subst (λ (b : Bool). AreInlets b feed.inputs inlets) no are in
    let changed : after event feed ≡ changed_by event feed.inputs = rw is refl in
    subst (λ (f : Feed). AreInlets f.finished f.inputs (inlets_after event inlets)) (sym changed) (changed-inlets feed.inputs inlets event resting_)

-- their rows are those of the feed at rest
rest-lists : (inputs : List InputFeed) → map inlet_list (map resting_inlet inputs) ≡ map resting inputs
rest-lists [] = refl
rest-lists (a ∷ inputs) = ap (λ (lists : List (List Snapshot)). resting a ∷ lists) (rest-lists inputs)

finished-lists : (inputs : List InputFeed) → map inlet_list (map finished_inlet inputs) ≡ map resting (map finished_input inputs)
finished-lists [] = refl
finished-lists (a ∷ inputs) = rw (append-nil (rows_now a), finished-lists inputs) refl

lists-by : (finished : Bool) (inputs : List InputFeed) (inlets : List InletParts) → AreInlets finished inputs inlets → map inlet_list inlets ≡ map resting inputs
lists-by false inputs inlets are = ap (map inlet_list) are ∙ rest-lists inputs
lists-by true inputs inlets are = ap (map inlet_list) are.2 ∙ finished-lists are.0 ∙ ap (map resting) (sym are.1)

pub lists-at_rest : (feed : Feed) (inlets : List InletParts) → AreInlets feed.finished feed.inputs inlets → map inlet_list inlets ≡ all_resting feed
lists-at_rest feed inlets are = lists-by feed.finished feed.inputs inlets are

-- and they are known up to the same horizons
rest-horizons : (inputs : List InputFeed) → map (inlet_horizon false) (map resting_inlet inputs) ≡ map (λ (a : InputFeed). input_horizon false a.edge) inputs
rest-horizons [] = refl
rest-horizons (a ∷ inputs) = ap (λ (hs : List Horizon). input_horizon false a.edge ∷ hs) (rest-horizons inputs)

finished-horizons : (inputs : List InputFeed)
    → map (inlet_horizon true) (map finished_inlet inputs) ≡ map (λ (a : InputFeed). input_horizon true a.edge) (map finished_input inputs)
finished-horizons [] = refl
finished-horizons (a ∷ inputs) = ap (λ (hs : List Horizon). input_horizon true a.edge ∷ hs) (finished-horizons inputs)

horizons-by : (finished : Bool) (inputs : List InputFeed) (inlets : List InletParts) → AreInlets finished inputs inlets
    → map (inlet_horizon finished) inlets ≡ map (λ (a : InputFeed). input_horizon finished a.edge) inputs
horizons-by false inputs inlets are = ap (map (inlet_horizon false)) are ∙ rest-horizons inputs
horizons-by true inputs inlets are =
    ap (map (inlet_horizon true)) are.2 ∙ finished-horizons are.0 ∙ ap (map (λ (a : InputFeed). input_horizon true a.edge)) (sym are.1)

pub horizons-at_rest : (feed : Feed) (inlets : List InletParts) → AreInlets feed.finished feed.inputs inlets
    → map (inlet_horizon feed.finished) inlets ≡ horizons_of feed
horizons-at_rest feed inlets are = horizons-by feed.finished feed.inputs inlets are

-- rows go on from event to event
go-from : (finished : Bool) (inputs : List InputFeed) (laters : List (List Snapshot)) → length laters ≡ length inputs
    → ((number : ℕ) → RestsOn (input_horizon finished (edge_of inputs number)) (get_or (map resting inputs) number []) (get_or laters number []))
    → AllGoOn (map (λ (a : InputFeed). input_horizon finished a.edge) inputs) (map resting inputs) laters
go-from finished [] [] many all = tt
go-from finished [] (l ∷ laters) many all = absurd (omega arith)
go-from finished (a ∷ inputs) [] many all = absurd (omega arith)
go-from finished (a ∷ inputs) (l ∷ laters) many all = (all 0, go-from finished inputs laters (omega arith) (λ number. all (suc number)))

rise-from : (gs hs : List Horizon) → AreNotAbove gs hs → AllRise gs hs
rise-from [] [] all = tt
rise-from [] (h ∷ hs) all = absurd all
rise-from (g ∷ gs) [] all = absurd all
rise-from (g ∷ gs) (h ∷ hs) all = (all.0.all, rise-from gs hs all.1)

rests-then : (g h : Horizon) (a b c : List Snapshot) → RestsOn g a b → Rises g h → RestsOn h b c → RestsOn g a c
rests-then g h a b c first rises second = record {
  ended = λ tick known. first.ended tick known ∙ second.ended tick (rises tick known);
  cells = λ tick known. first.cells tick known ∙ second.cells tick (rises tick known);
  marks = λ tick known. first.marks tick known ∙ second.marks tick (rises tick known);
  kept = λ tick below mark. second.kept tick below (first.kept tick below mark);
}

all-then : (gs hs : List Horizon) (a b c : List (List Snapshot)) → AllGoOn gs a b → AllRise gs hs → AllGoOn hs b c → AllGoOn gs a c
all-then [] [] [] [] [] first rises second = tt
all-then [] [] [] [] (z ∷ c) first rises second = absurd second
all-then [] [] [] (y ∷ b) c first rises second = absurd first
all-then [] [] (x ∷ a) b c first rises second = absurd first
all-then [] (h ∷ hs) a b c first rises second = absurd rises
all-then (g ∷ gs) [] a b c first rises second = absurd rises
all-then (g ∷ gs) (h ∷ hs) [] b c first rises second = absurd first
all-then (g ∷ gs) (h ∷ hs) (x ∷ a) [] c first rises second = absurd first
all-then (g ∷ gs) (h ∷ hs) (x ∷ a) (y ∷ b) [] first rises second = absurd second
all-then (g ∷ gs) (h ∷ hs) (x ∷ a) (y ∷ b) (z ∷ c) first rises second =
    (rests-then g h x y z first.0 rises.0 second.0, all-then gs hs a b c first.1 rises.1 second.1)

rise-then : (fs gs hs : List Horizon) → AllRise fs gs → AllRise gs hs → AllRise fs hs
rise-then [] [] [] first second = tt
rise-then [] [] (h ∷ hs) first second = absurd second
rise-then [] (g ∷ gs) hs first second = absurd first
rise-then (f ∷ fs) [] hs first second = absurd first
rise-then (f ∷ fs) (g ∷ gs) [] first second = absurd second
rise-then (f ∷ fs) (g ∷ gs) (h ∷ hs) first second = (λ tick known. second.0 tick (first.0 tick known), rise-then fs gs hs first.1 second.1)

same-rise : (hs : List Horizon) → AllRise hs hs
same-rise [] = tt
same-rise (h ∷ hs) = (λ tick known. known, same-rise hs)

same-go_on : (finished : Bool) (inputs : List InputFeed)
    → AllGoOn (map (λ (a : InputFeed). input_horizon finished a.edge) inputs) (map resting inputs) (map resting inputs)
same-go_on finished [] = tt
same-go_on finished (a ∷ inputs) = (rests-refl (input_horizon finished a.edge) (resting a), same-go_on finished inputs)

one-goes_on : (event : Event) (feed : Feed) → AllByRecursion IsInOrder feed.inputs → AllGoOn (horizons_of feed) (all_resting feed) (all_resting (after event feed))
one-goes_on event feed order =
    let later = after event feed in
    go-from feed.finished feed.inputs (all_resting later) (length-map later.inputs resting ∙ after_all-length (event ∷ []) feed) (after-rests event feed order)

one-rises : (event : Event) (feed : Feed) → AllRise (horizons_of feed) (horizons_of (after event feed))
one-rises event feed =
    let later = after event feed in
    rise-from (horizons_of feed) (horizons_of later)
    (inputs-rise feed.finished later.finished feed.inputs later.inputs (after_all-follows (event ∷ []) feed))

all-go_on : (events : List Event) (feed : Feed) → AllByRecursion IsInOrder feed.inputs
    → AllGoOn (horizons_of feed) (all_resting feed) (all_resting (after_all events feed)) × AllRise (horizons_of feed) (horizons_of (after_all events feed))
all-go_on [] feed order = (same-go_on feed.finished feed.inputs, same-rise (horizons_of feed))
all-go_on (event ∷ events) feed order =
    let later = after event feed in
    let last = after_all events later in
    let rest = all-go_on events later (after-order event feed order) in
    let rises = one-rises event feed in (
      all-then (horizons_of feed) (horizons_of later) (all_resting feed) (all_resting later) (all_resting last) (one-goes_on event feed order) rises rest.0,
      rise-then (horizons_of feed) (horizons_of later) (horizons_of last) rises rest.1,
    )

-- after events the rows go on from what they were, and are known farther
pub feed-goes_on : (events : List Event) (feed : Feed) → AllByRecursion IsInOrder feed.inputs
    → GoOn (horizons_of feed) (all_resting feed) (horizons_of (after_all events feed)) (all_resting (after_all events feed))
feed-goes_on events feed order =
    let later = after_all events feed in
    let all = all-go_on events feed order in
    let many = after_all-length events feed in
    record {
      rows_go_on = all.0;
      horizons_rise = all.1;
      many = length-map later.inputs resting ∙ many ∙ sym (length-map feed.inputs resting);
      many_horizons = length-map later.inputs (λ (a : InputFeed). input_horizon later.finished a.edge) ∙ many
          ∙ sym (length-map feed.inputs (λ (a : InputFeed). input_horizon feed.finished a.edge));
    }

-- what is known of inputs stays in order
pub order-after : (events : List Event) (feed : Feed) → AllByRecursion IsInOrder feed.inputs → AllByRecursion IsInOrder (after_all events feed).inputs
order-after [] feed order = order
order-after (event ∷ events) feed order = order-after events (after event feed) (after-order event feed order)
