-- The rows of a feed at rest: of the whole output on them, what ends at the horizon or below it is printed, and what comes next has begun.
use Rattle.std.proofs.Common.{◌≡◌, ◌<◌, ℕ, zero, suc, ℤ, pos, neg_ℤ, ◌+ℤ◌, ◌-ℤ◌, ◌≤ℤ◌, ◌<ℤ◌, Bool, true, false, ◌||◌, List, [], ◌∷◌, length, map, get_or, drop}
use Rattle.std.proofs.Common.{Option, Some, None, is_none, IsSome, if◌then◌else◌, refl, sym, subst, ◌∙◌, unwrap_or, int_eq, arith}
use Rattle.std.specs.Prelude.{⊤}
use Rattle.std.specs.List.{AllByRecursion}
use Rattle.std.proofs.lemmas.Bool.Decides.{Decides-int_eq}
use Rattle.std.proofs.lemmas.Int.{ints}
use Rattle.std.proofs.lemmas.List.{length-map}
use Rattle.tilt_base.specs.declared.limits.TheConstants.{T, WIDE}
use Rattle.tilt_base.specs.declared.span.Span.{Span}
use Rattle.tilt_core.proofs.Last.{domain_of-stretch}
use Rattle.tilt_core.specs.Core.{CoreParts, IsCore, IsStretch, domain_of, emitted_number}
use Rattle.tilt_core.specs.Meaning.{source_of, with_definitions}
use Rattle.tilt_core.specs.Needs.{asked_from, reach}
use Rattle.tilt_feed.proofs.AtRest.{IsSettled, resting-order, resting-same, rests-finish, rests-refl, rests-update, sure-rests}
use Rattle.tilt_feed.proofs.Following.{fed-length, input_horizons, none-is, now, surely, unfinished}
use Rattle.tilt_feed.proofs.Known.{clipped-high, clipped-known, known-below}
use Rattle.tilt_feed.proofs.Ordered.{AreInOrder, fed-order}
use Rattle.tilt_feed.proofs.Parted.{IsPart, snapshots-part}
use Rattle.tilt_feed.proofs.Same.{AreAllSame, definitions-same, same-agree, same-at}
use Rattle.tilt_feed.proofs.SureMarks.{HaveMarksOf, definitions-marks, marks-at}
use Rattle.tilt_feed.proofs.Timely.{IsFar, input-ahead, input-far, last-far}
use Rattle.tilt_feed.proofs.Updates.{IsAllowed, allowed-of, same_tests}
use Rattle.tilt_feed.proofs.Whole.{AreClosed, IsClosed, after_all-closed}
use Rattle.tilt_feed.specs.Events.{after, after_all, changed_by, edge_of, event_fault, finished_input, updated, updated_at}
use Rattle.tilt_feed.specs.Feed.{InputFeed, Feed, empty_feed}
use Rattle.tilt_feed.specs.Horizon.{Horizon, Until, IsKnownAt, output_domain, horizon, horizon_of, horizons, input_horizon, with_horizons}
use Rattle.tilt_feed.specs.Laws.{AgreeUpTo, fed}
use Rattle.tilt_feed.specs.Printed.{begun, is_closed, known_snapshots, meaning_now, printed}
use Rattle.tilt_feed.specs.Resting.{AllRestOn, LooksNear, RestsOn, all_resting, begun_next, ended_by, meaning_at_rest, resting, whole}
use Rattle.tilt_feed.specs.Sure.{has_sure_mark, is_sure}
use Rattle.tilt_feed.specs.declared.event.Event.{Event}
use Rattle.tilt_feed.specs.declared.event.Event.TheVariants.{Input, Finish}
use Rattle.tilt_feed.specs.declared.update.Update.{Update}
use Rattle.tilt_stream.proofs.Snapped.{snapshots-agree}
use Rattle.tilt_stream.specs.Snap.{Snapshot, InOrder}
use Rattle.tilt_stream.specs.Snapshots.{snapshots}
use Rattle.tilt_stream.specs.Stream.{Stream, cell_at, stream_of}

-- each input is in order, and has no open row if the feed is finished
abbrev pub AreSettled : Bool → List InputFeed → Type 0
AreSettled finished [] = ⊤
AreSettled finished (a ∷ inputs) = IsSettled finished a × AreSettled finished inputs

pub settled-of : (finished : Bool) (inputs : List InputFeed) → AreInOrder inputs → (finished ≡ true → AreClosed inputs) → AreSettled finished inputs
settled-of finished [] order closed = tt
settled-of finished (a ∷ inputs) order closed =
    (record { order = order.0; closed = λ is. (closed is).0 }, settled-of finished inputs order.1 (λ is. (closed is).1))

pub fed-settled : (inputs : ℕ) (events : List Event) → AreSettled (after_all events (empty_feed inputs)).finished (after_all events (empty_feed inputs)).inputs
fed-settled inputs events =
    let feed = after_all events (empty_feed inputs) in
    let first : IsClosed (empty_feed inputs) = λ e. absurd (cc e) in
    settled-of feed.finished feed.inputs (fed-order inputs events) (after_all-closed events (empty_feed inputs) first)

-- the streams of the rows at rest, and the same cells with the sure marks
abbrev rested : List InputFeed → List Stream
rested inputs = map stream_of (map resting inputs)

abbrev surely_rested : Bool → List InputFeed → List Stream
surely_rested finished inputs = map (λ (a : InputFeed). record { cell = cell_at (resting a); mark = has_sure_mark finished a }) inputs

-- a horizon beyond all times of queries
abbrev far_horizons : List InputFeed → List Horizon
far_horizons inputs = map (λ (a : InputFeed). Until WIDE) inputs

rested-same : (finished : Bool) (inputs : List InputFeed) → AreSettled finished inputs → AreAllSame (input_horizons finished inputs) (now inputs) (rested inputs)
rested-same finished [] all = tt
rested-same finished (a ∷ inputs) all = (resting-same finished a all.0, rested-same finished inputs all.1)

rested-sure : (finished : Bool) (inputs : List InputFeed) → AreSettled finished inputs → AreAllSame (far_horizons inputs) (surely_rested finished inputs) (rested inputs)
rested-sure finished [] all = tt
rested-sure finished (a ∷ inputs) all =
    (record { cells = λ tick known. refl; marks = λ tick known. sure-rests finished a all.0 tick known }, rested-sure finished inputs all.1)

sure-there : (finished : Bool) (inputs : List InputFeed) → HaveMarksOf (surely finished inputs) (surely_rested finished inputs)
sure-there finished [] = tt
sure-there finished (a ∷ inputs) = (record { all = λ tick is. is }, sure-there finished inputs)

sure-back : (finished : Bool) (inputs : List InputFeed) → HaveMarksOf (surely_rested finished inputs) (surely finished inputs)
sure-back finished [] = tt
sure-back finished (a ∷ inputs) = (record { all = λ tick is. is }, sure-back finished inputs)

far-known : (inputs : List InputFeed) (input : ℕ) → input < length inputs → IsKnownAt (horizon_of (far_horizons inputs) input) WIDE
far-known [] input low = absurd (omega arith)
far-known (a ∷ inputs) zero low = omega (arith, ints)
far-known (a ∷ inputs) (suc input) low = far-known inputs input (omega arith)

-- the output domain ends at `T` at the latest
domain-high_by : (span : Option Span) → IsSome span → IsStretch span → (unwrap_or span (record { start = pos 0; end = pos 0 })).end ≤ℤ T
domain-high_by None some stretch = absurd (cc some)
domain-high_by (Some span) some stretch = stretch.2

domain-high : (core : CoreParts) → IsCore core → (output_domain core).end ≤ℤ T
domain-high core is = domain-high_by (domain_of core.defs) is.domain (domain_of-stretch (length core.inputs) core.defs is.definitions)

module _ (core : CoreParts) (is : IsCore core) (feed : Feed) (many : length feed.inputs ≡ length core.inputs) (settled : AreSettled feed.finished feed.inputs) where
  -- up to its horizon each source means on the rows at rest what it means on the rows as they are now
  pub rest-same : (source : ℕ) → AgreeUpTo (horizon_of (horizons core feed) source) (meaning_now core feed source) (meaning_at_rest core feed source)
  rest-same source =
      let hs = input_horizons feed.finished feed.inputs in
      let xs = now feed.inputs in
      let ys = rested feed.inputs in
      let all = definitions-same (length core.inputs) hs xs ys core.defs (rested-same feed.finished feed.inputs settled) is.definitions in
      same-at (with_horizons hs core.defs) (with_definitions xs core.defs) (with_definitions ys core.defs) all source

  module _ (near : LooksNear core) where
    -- ticks up to `T` are so far below the end of an open row that it isn't read
    rest-known : (tick : ℤ) → tick ≤ℤ T → IsKnownAt (horizon_of (with_horizons (far_horizons feed.inputs) core.defs) (emitted_number core)) tick
    rest-known tick low =
        let n = reach (length core.inputs) core.defs in
        let hs = far_horizons feed.inputs in
        let base = WIDE -ℤ n.ahead in
        let counted : length hs ≡ length core.inputs = length-map feed.inputs (λ (a : InputFeed). Until WIDE) ∙ many in
        let far : (source : ℕ) → source < length core.inputs → IsFar base (asked_from (length core.inputs) core.defs source) (horizon_of hs source) =
        λ source low.
        input-far (asked_from (length core.inputs) core.defs source) n.ahead WIDE (horizon_of hs source)
        (λ m asks. input-ahead (length core.inputs) core.defs source m low asks) (far-known feed.inputs source (omega arith)) in
        known-below (horizon_of (with_horizons hs core.defs) (emitted_number core)) base tick
        (last-far base (length core.inputs) (length core.names) core.defs hs counted is.one_emitted is.definitions far) (omega (arith, ints))

    -- the marks of the output on the rows at rest are the sure ones
    pub rest-sure : (tick : ℤ) → tick ≤ℤ T → (meaning_at_rest core feed (emitted_number core)).mark tick ≡ is_sure core feed (emitted_number core) tick
    rest-sure tick low =
        let number = emitted_number core in
        let hs = far_horizons feed.inputs in
        let xs = surely feed.finished feed.inputs in
        let ys = surely_rested feed.finished feed.inputs in
        let zs = rested feed.inputs in
        let all = definitions-same (length core.inputs) hs ys zs core.defs (rested-sure feed.finished feed.inputs settled) is.definitions in
        let there = definitions-marks xs ys core.defs (sure-there feed.finished feed.inputs) in
        let back = definitions-marks ys xs core.defs (sure-back feed.finished feed.inputs) in
        sym ((same-at (with_horizons hs core.defs) (with_definitions ys core.defs) (with_definitions zs core.defs) all number).marks tick (rest-known tick low))
        ∙ same_tests ((source_of (with_definitions ys core.defs) number).mark tick) ((source_of (with_definitions xs core.defs) number).mark tick)
        ((marks-at (with_definitions ys core.defs) (with_definitions xs core.defs) back number).all tick)
        ((marks-at (with_definitions xs core.defs) (with_definitions ys core.defs) there number).all tick)

    abbrev x : Stream
    x = meaning_at_rest core feed (emitted_number core)

    -- what is known is the same at rest
    pub known-rests : known_snapshots core feed ≡ snapshots x (output_domain core).start (horizon core feed)
    known-rests =
        let h = horizon_of (horizons core feed) (emitted_number core) in
        let y = meaning_now core feed (emitted_number core) in
        let at = horizon core feed in
        snapshots-agree y x (output_domain core).start at
        (same-agree h y x (output_domain core).start at (rest-same (emitted_number core)) (clipped-known (output_domain core).end h at (omega (arith, ints))))

    sure-closed : (before : Bool) → int_eq (horizon core feed) (output_domain core).end ≡ before → horizon core feed <ℤ (output_domain core).end
        → x.mark (horizon core feed +ℤ pos 1) ≡ (before || is_sure core feed (emitted_number core) (horizon core feed +ℤ pos 1))
    sure-closed true there before = absurd (let at = (Decides-int_eq (horizon core feed) (output_domain core).end).0 there in omega (arith, ints))
    sure-closed false there before = let high = domain-high core is in rest-sure (horizon core feed +ℤ pos 1) (omega (arith, ints))

    end-closed : horizon core feed ≡ (output_domain core).end → is_closed core feed ≡ true
    end-closed at =
        let test = (Decides-int_eq (horizon core feed) (output_domain core).end).1 at in
        rw test refl

    part : IsPart (horizon core feed) (is_closed core feed) (known_snapshots core feed) (whole core feed)
    part =
        let at = horizon core feed in
        let hi = (output_domain core).end in
        subst (λ (l : List Snapshot). IsPart at (is_closed core feed) l (whole core feed)) (sym known-rests)
        (snapshots-part x (output_domain core).start at hi (clipped-high hi (horizon_of (horizons core feed) (emitted_number core))) (is_closed core feed)
        (sure-closed (int_eq at hi) refl) end-closed)

    pub printed-at_rest : printed core feed ≡ ended_by (horizon core feed) (whole core feed)
    printed-at_rest = sym part.ended

    pub begun-at_rest : begun core feed ≡ begun_next (horizon core feed) (drop (length (printed core feed)) (whole core feed))
    begun-at_rest = sym part.next

pub fed-printed_at_rest : (core : CoreParts) (events : List Event) → IsCore core → LooksNear core
    → printed core (fed core events) ≡ ended_by (horizon core (fed core events)) (whole core (fed core events))
fed-printed_at_rest core events is near =
    printed-at_rest core is (fed core events) (fed-length core events) (fed-settled (length core.inputs) events) near

pub fed-begun_at_rest : (core : CoreParts) (events : List Event) → IsCore core → LooksNear core
    → begun core (fed core events) ≡ begun_next (horizon core (fed core events)) (drop (length (printed core (fed core events))) (whole core (fed core events)))
fed-begun_at_rest core events is near =
    begun-at_rest core is (fed core events) (fed-length core events) (fed-settled (length core.inputs) events) near

-- the rows at rest of each input are in order
pub rested-order : (inputs : List InputFeed) → AreInOrder inputs → AllByRecursion (InOrder (neg_ℤ T) WIDE) (map resting inputs)
rested-order [] all = tt
rested-order (a ∷ inputs) all = (resting-order a all.0, rested-order inputs all.1)

pub fed-resting_order : (inputs : ℕ) (events : List Event) → AllByRecursion (InOrder (neg_ℤ T) WIDE) (all_resting (after_all events (empty_feed inputs)))
fed-resting_order inputs events = rested-order (after_all events (empty_feed inputs)).inputs (fed-order inputs events)

-- the rows at rest of each input go on in another list of inputs
abbrev InputsRestOn : Bool → List InputFeed → List InputFeed → Type 0
InputsRestOn finished xs ys = (number : ℕ) → RestsOn (input_horizon finished (edge_of xs number)) (get_or (map resting xs) number []) (get_or (map resting ys) number [])

inputs-refl : (finished : Bool) (inputs : List InputFeed) → InputsRestOn finished inputs inputs
inputs-refl finished inputs number = rests-refl (input_horizon finished (edge_of inputs number)) (get_or (map resting inputs) number [])

inputs-more : (finished : Bool) (a b : InputFeed) (xs ys : List InputFeed) → RestsOn (input_horizon finished a.edge) (resting a) (resting b) → InputsRestOn finished xs ys
    → InputsRestOn finished (a ∷ xs) (b ∷ ys)
inputs-more finished a b xs ys first rest zero = first
inputs-more finished a b xs ys first rest (suc number) = rest number

inputs-updated : (number : ℕ) (update : Update) (inputs : List InputFeed) → AreInOrder inputs → IsAllowed (edge_of inputs number) update
    → InputsRestOn false inputs (updated_at number update inputs)
inputs-updated number update [] order allowed = inputs-refl false []
inputs-updated zero update (a ∷ inputs) order allowed =
    inputs-more false a (updated update a) inputs inputs (rests-update a update order.0 allowed) (inputs-refl false inputs)
inputs-updated (suc number) update (a ∷ inputs) order allowed =
    inputs-more false a a inputs (updated_at number update inputs) (rests-refl (input_horizon false a.edge) (resting a)) (inputs-updated number update inputs order.1 allowed)

inputs-finished : (inputs : List InputFeed) → AreInOrder inputs → InputsRestOn false inputs (map finished_input inputs)
inputs-finished [] order = inputs-refl false []
inputs-finished (a ∷ inputs) order =
    inputs-more false a (finished_input a) inputs (map finished_input inputs) (rests-finish a order.0) (inputs-finished inputs order.1)

changed-rests : (event : Event) (feed : Feed) → AreInOrder feed.inputs → event_fault feed event ≡ None → AllRestOn feed (changed_by event feed.inputs)
changed-rests (Input number update) feed order is =
    let rules = allowed-of feed.finished (edge_of feed.inputs number) update is in
    subst (λ (finished : Bool). InputsRestOn finished feed.inputs (updated_at number update feed.inputs)) (sym rules.0) (inputs-updated number update feed.inputs order rules.1)
changed-rests Finish feed order is =
    subst (λ (finished : Bool). InputsRestOn finished feed.inputs (map finished_input feed.inputs)) (sym (unfinished feed.finished is)) (inputs-finished feed.inputs order)

after-rests_by : (event : Event) (feed : Feed) (allowed : Bool) → AreInOrder feed.inputs → is_none (event_fault feed event) ≡ allowed
    → AllRestOn feed (if allowed then changed_by event feed.inputs else feed)
after-rests_by event feed true order is = changed-rests event feed order (none-is (event_fault feed event) is)
after-rests_by event feed false order is = inputs-refl feed.finished feed.inputs

-- after an event the rows at rest go on
pub after-rests : (event : Event) (feed : Feed) → AreInOrder feed.inputs → AllRestOn feed (after event feed)
after-rests event feed order = after-rests_by event feed (is_none (event_fault feed event)) order refl

pub fed-rests : (inputs : ℕ) (events : List Event) (event : Event) → AllRestOn (after_all events (empty_feed inputs)) (after event (after_all events (empty_feed inputs)))
fed-rests inputs events event = after-rests event (after_all events (empty_feed inputs)) (fed-order inputs events)
