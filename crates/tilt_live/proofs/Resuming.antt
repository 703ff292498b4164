-- A live engine that starts from what was left of a feed goes on as the one that was left.
use Rattle.std.proofs.Common.{◌≡◌, ℕ, ℤ, pos, ◌+ℤ◌, ◌-ℤ◌, ◌≤ℤ◌, ◌<ℤ◌, Bool, true, false, List, [], ◌∷◌, ◌++◌, length, drop, slice_get, Option, None, Result, Ok, Err, refl, sym, ap, ◌∙◌, subst}
use Rattle.std.proofs.Common.{arith, inl, inr}
use Rattle.std.proofs.lemmas.Bool.{cases_Bool}
use Rattle.std.proofs.lemmas.Int.{ints, clamps}
use Rattle.std.proofs.lemmas.List.{length-map, take_all}
use Rattle.std.specs.List.{AllByRecursion}
use Rattle.std.specs.Prelude.{IfOk, int_lt}
use Rattle.tilt_code.specs.Code.{CodeParts}
use Rattle.tilt_compiler.specs.Accepted.{AcceptedParts, IsAccepted}
use Rattle.tilt_core.specs.Core.{CoreParts, emitted_number}
use Rattle.tilt_engine.proofs.WholeFeeds.{whole-after_all, whole-fault, whole-horizons}
use Rattle.tilt_engine.specs.AtRest.{horizons_of, run_at_rest}
use Rattle.tilt_engine.specs.Engines.{IsEngineOf, given_after}
use Rattle.tilt_engine.specs.Gone.{whole_feed}
use Rattle.tilt_feed.proofs.AllAtRest.{fed-printed_at_rest}
use Rattle.tilt_feed.proofs.Final.{fed-rises}
use Rattle.tilt_feed.proofs.Following.{after_all-length, fed-length}
use Rattle.tilt_feed.proofs.Ordered.{fed-order}
use Rattle.tilt_feed.proofs.Whole.{horizon-end}
use Rattle.tilt_feed.specs.Events.{after_all, event_fault, finished_input}
use Rattle.tilt_feed.specs.Feed.{Feed, InputFeed, empty_feed}
use Rattle.tilt_feed.specs.Horizon.{Horizon, clipped, horizon, horizon_of, output_domain, with_horizons}
use Rattle.tilt_feed.specs.Laws.{IsInOrder}
use Rattle.tilt_feed.specs.Printed.{printed}
use Rattle.tilt_feed.specs.Resting.{all_resting, ended_by, meaning_at_rest, resting, whole}
use Rattle.tilt_feed.specs.declared.event.Event.{Event}
use Rattle.tilt_input_state.specs.Resume.{end_of, first_read, left_feed, resume_tick}
use Rattle.tilt_live.proofs.Ended.{ended-all, ended-few, ended-low, filled-end, one-ended, one-given, one-tick}
use Rattle.tilt_live.proofs.Ever.{finished-after, finished-fault}
use Rattle.tilt_live.proofs.Lives.{looks-near, no-horizon, run-after}
use Rattle.tilt_live.specs.Lives.{GoesOn, IsCodeFrom, IsLiveOf, IsRunning}
use Rattle.tilt_live.specs.Resuming.{IsLeft, IsStarted, end_events, known_feed, returned_before, start_of}
use Rattle.tilt_live.specs.declared.live.Live.{Live}
use Rattle.tilt_resume.proofs.Behind.{ends_or}
use Rattle.tilt_resume.proofs.Restored.{after_all-append, events-restore}
use Rattle.tilt_resume.proofs.Resumed.{inputs-gone, rest-given}
use Rattle.tilt_resume.proofs.Rises.{domain-some}
use Rattle.tilt_resume.specs.Restoring.{all_events}
use Rattle.tilt_stream.proofs.Cut.{snapshots-none}
use Rattle.tilt_stream.proofs.Filling.{snapshots-Fill}
use Rattle.tilt_stream.specs.Snap.{Snapshot}
use Rattle.tilt_stream.specs.Snapshots.{snapshot_on, snapshots}
use Rattle.tilt_stream.specs.Stream.{Stream}

-- events that say what is known of inputs make these inputs of unknown ones
pub restored-is : (finished : Bool) (inputs : List InputFeed) (number : ℕ) → length inputs ≡ number → AllByRecursion IsInOrder inputs
    → after_all (all_events 0 inputs ++ end_events finished) (empty_feed number) ≡ known_feed finished inputs
restored-is finished inputs number many order =
    after_all-append (all_events 0 inputs) (end_events finished) (empty_feed number)
    ∙ ap (after_all (end_events finished)) (ap (λ (n : ℕ). after_all (all_events 0 inputs) (empty_feed n)) (sym many) ∙ events-restore inputs order)

pub known-many : (finished : Bool) (inputs : List InputFeed) (number : ℕ) → length inputs ≡ number → length (known_feed finished inputs).inputs ≡ number
known-many false inputs number many = many
known-many true inputs number many = length-map inputs finished_input ∙ many

-- the code of a live engine whose output goes on from a tick
module _ (accepted : AcceptedParts) (valid : IsAccepted accepted) (from : ℤ) (code : CodeParts) (code_is : IsCodeFrom accepted.core accepted.fuse (start_of accepted.core from) code) where
  abbrev core : CoreParts
  core = accepted.core

  abbrev lo : ℤ
  lo = (output_domain core).start

  abbrev hi : ℤ
  hi = (output_domain core).end

  abbrev meant : Feed → Stream
  meant feed = meaning_at_rest core feed (emitted_number core)

  run-is : (f : Feed) → length f.inputs ≡ length core.inputs → run_at_rest code f ≡ snapshots (meant f) (start_of core from) hi
  run-is f many = code_is.means (all_resting f) (length-map f.inputs resting ∙ many)

  -- if nothing comes after the tick, it gives one snapshot
  run-one : (f : Feed) → length f.inputs ≡ length core.inputs → hi ≤ℤ from → run_at_rest code f ≡ snapshot_on (meant f) (hi -ℤ pos 1) ((hi -ℤ pos 1) +ℤ pos 1) ∷ []
  run-one f many past =
      let at : start_of core from ≡ hi -ℤ pos 1 = grind (arith, ints, clamps) in
      run-is f many ∙ ap (λ (t : ℤ). snapshots (meant f) t hi) at ∙ one-tick (meant f) (hi -ℤ pos 1) hi (omega (arith, ints))

  run-ended : (f : Feed) (tick : ℤ) → length f.inputs ≡ length core.inputs → hi ≤ℤ from → hi ≤ℤ tick → length (ended_by tick (run_at_rest code f)) ≡ 1
  run-ended f tick many past known =
      let s = snapshot_on (meant f) (hi -ℤ pos 1) ((hi -ℤ pos 1) +ℤ pos 1) in
      ap (λ (list : List Snapshot). length (ended_by tick list)) (run-one f many past) ∙ ap length (one-ended tick s (omega (arith, ints)))

  -- of which as many are returned first as are known
  pub given-one : (f : Feed) (tick : ℤ) → length f.inputs ≡ length core.inputs → hi ≤ℤ from
      → given_after 0 (slice_get (ended_by tick (run_at_rest code f)) 0) ≡ length (ended_by tick (run_at_rest code f))
  given-one f tick many past =
      let one = ap length (run-one f many past) in
      let few = ended-few tick (run_at_rest code f) in
      one-given (ended_by tick (run_at_rest code f)) (omega (arith, one, few))

  -- a feed that was left, and what was kept of it
  module _ (feed : Feed) (finished : Bool) (inputs : List InputFeed) (many : length inputs ≡ length core.inputs) (is : IsLeft core feed from finished inputs) where
    abbrev left : Feed
    left = known_feed finished inputs

    left-many : (more : List Event) → length (after_all more left).inputs ≡ length core.inputs
    left-many more = after_all-length more left ∙ known-many finished inputs (length core.inputs) many

    tick-is : from ≡ ends_or lo (ended_by (horizon core feed) (whole core feed))
    tick-is =
        let at_rest = subst (λ (f : Feed). printed core f ≡ ended_by (horizon core f) (whole core f)) (sym is.feed_is) (fed-printed_at_rest core is.events valid.valid (looks-near accepted valid)) in
        is.from_is ∙ ap (ends_or lo) at_rest

    -- a finished feed goes on from the end
    finished-from : feed.finished ≡ true → from ≡ hi
    finished-from end =
        let fill = snapshots-Fill (meant feed) lo hi (domain-some core valid.valid) in
        tick-is
        ∙ ap (λ (t : ℤ). ends_or lo (ended_by t (whole core feed))) (horizon-end core feed end)
        ∙ ap (ends_or lo) (ended-all hi lo hi (whole core feed) (omega (arith, ints)) fill)
        ∙ filled-end lo hi (whole core feed) fill

    -- if nothing comes after the tick, all is known
    all-known : (more : List Event) → hi ≤ℤ from → hi ≤ℤ horizon core (after_all more feed)
    all-known more past =
        let h = horizon core feed in
        let rises = subst (λ (f : Feed). horizon core f ≤ℤ horizon core (after_all more f)) (sym is.feed_is) (fed-rises core is.events more valid.valid) in
        elim (cases_Bool (int_lt h hi)) [
          | inl below ↦
              let low = ended-low h hi lo (whole core feed) (grind (arith, ints)) (domain-some core valid.valid) in
              absurd (omega (arith, ints, tick-is, low, past))
          | inr none ↦ (let up : hi ≤ℤ h = grind (arith, ints) in omega (arith, ints))
        ]

    -- what was kept of a feed that isn't finished
    kept-is : feed.finished ≡ false → left ≡ left_feed core from feed
    kept-is unfinished =
        ap (λ (b : Bool). known_feed b inputs) (is.finished_is ∙ unfinished)
        ∙ (λ i. record { inputs = is.inputs_are unfinished i; finished = sym unfinished i })

    kept-gone : feed.finished ≡ false → (gone : List (List Snapshot)) × ((more : List Event) → after_all more feed ≡ whole_feed gone (after_all more left))
    kept-gone unfinished =
        let gone = inputs-gone (first_read core from) feed.inputs (subst (λ (f : Feed). AllByRecursion IsInOrder f.inputs) (sym is.feed_is) (fed-order (length core.inputs) is.events)) in
        let feed_is : feed ≡ whole_feed gone.gone (left_feed core from feed) = (λ i. record { inputs = gone.is i; finished = feed.finished }) in
        let of_left : feed ≡ whole_feed gone.gone left = feed_is ∙ ap (whole_feed gone.gone) (sym (kept-is unfinished)) in
        (gone.gone, λ more. ap (after_all more) of_left ∙ whole-after_all gone.gone more left)

    -- the same events are allowed
    same-fault : (more : List Event) (event : Event) → event_fault (after_all more left) event ≡ event_fault (after_all more feed) event
    same-fault more event = elim (cases_Bool feed.finished) [
      | inl end ↦
          let left_end : left.finished ≡ true = known-finished finished (is.finished_is ∙ end) in
          ap (λ (f : Feed). event_fault f event) (finished-after more left left_end)
          ∙ finished-fault left event left_end
          ∙ sym (finished-fault feed event end)
          ∙ sym (ap (λ (f : Feed). event_fault f event) (finished-after more feed end))
      | inr unfinished ↦
          let gone = kept-gone unfinished in
          sym (whole-fault gone.0 (after_all more left) event) ∙ sym (ap (λ (f : Feed). event_fault f event) (gone.1 more))
    ]
      where
        known-finished : (b : Bool) → b ≡ true → (known_feed b inputs).finished ≡ true
        known-finished true is = refl
        known-finished false is = is

    -- and as much is known
    same-horizon : (more : List Event) → horizon core (after_all more left) ≡ horizon core (after_all more feed)
    same-horizon more = elim (cases_Bool feed.finished) [
      | inl end ↦
          let left_end : left.finished ≡ true = known-finished finished (is.finished_is ∙ end) in
          ap (horizon core) (finished-after more left left_end)
          ∙ horizon-end core left left_end
          ∙ sym (horizon-end core feed end)
          ∙ sym (ap (horizon core) (finished-after more feed end))
      | inr unfinished ↦
          let gone = kept-gone unfinished in
          ap (λ (hs : List Horizon). clipped hi (horizon_of (with_horizons hs core.defs) (emitted_number core)))
          (sym (whole-horizons gone.0 (after_all more left)) ∙ sym (ap horizons_of (gone.1 more)))
    ]
      where
        known-finished : (b : Bool) → b ≡ true → (known_feed b inputs).finished ≡ true
        known-finished true is = refl
        known-finished false is = is

    -- what comes after what was printed
    rest-is : (more : List Event) → drop (length (printed core feed)) (whole core (after_all more feed)) ≡ snapshots (meant (after_all more (left_feed core from feed))) from hi
    rest-is more =
        let given = rest-given core accepted.margins valid.valid valid.near valid.within (looks-near accepted valid) is.events more in
        subst (λ (t : ℤ). drop (length (printed core feed)) (whole core (after_all more feed)) ≡ snapshots (meant (after_all more (left_feed core t feed))) t hi) (sym is.from_is)
        (subst (λ (f : Feed). drop (length (printed core f)) (whole core (after_all more f)) ≡ snapshots (meant (after_all more (left_feed core (resume_tick core f) f))) (resume_tick core f) hi)
        (sym is.feed_is) given)

    -- some of the output comes
    goes-on-open : from <ℤ hi → GoesOn core code feed left (length (printed core feed)) 0
    goes-on-open some =
        let unfinished : feed.finished ≡ false = (elim (cases_Bool feed.finished) [
          | inl end ↦ absurd (omega (arith, ints, finished-from end, some))
          | inr none ↦ none
        ]) in
        let at : start_of core from ≡ from = grind (arith, ints, clamps) in
        record {
          allowed = same-fault;
          known = same-horizon;
          rest = λ more.
              drop-zero (run_at_rest code (after_all more left))
              ∙ run-is (after_all more left) (left-many more)
              ∙ (λ i. snapshots (meant (after_all more (kept-is unfinished i))) (at i) hi)
              ∙ sym (rest-is more);
          ended = λ more. omega arith;
        }
      where
        drop-zero : (list : List Snapshot) → drop 0 list ≡ list
        drop-zero [] = refl
        drop-zero (s ∷ list) = refl

    -- nothing comes any more
    goes-on-ended : hi ≤ℤ from → GoesOn core code feed left (length (printed core feed)) (length (ended_by (horizon core left) (run_at_rest code left)))
    goes-on-ended past =
        let known : hi ≤ℤ horizon core left = subst (λ (t : ℤ). hi ≤ℤ t) (sym (same-horizon [])) (all-known [] past) in
        let one = run-ended left (horizon core left) (left-many []) past known in
        record {
          allowed = same-fault;
          known = same-horizon;
          rest = λ more.
              ap (λ (n : ℕ). drop n (run_at_rest code (after_all more left))) one
              ∙ ap (drop 1) (run-one (after_all more left) (left-many more) past)
              ∙ sym (rest-is more ∙ snapshots-none (meant (after_all more (left_feed core from feed))) from hi past);
          ended = λ more.
              let then_one = run-ended (after_all more left) (horizon core (after_all more feed)) (left-many more) past (all-known more past) in
              omega (arith, one, then_one);
        }

    pub goes-on : GoesOn core code feed left (length (printed core feed)) (returned_before core code from left)
    goes-on = elim (cases_Bool (int_lt from hi)) [
      | inl some ↦ rw some (goes-on-open (grind (arith, ints)))
      | inr none ↦ rw none (goes-on-ended (grind (arith, ints)))
    ]

-- a live engine that started from what was left is one of the feed that was left
pub resumed-live : (live : Live) (accepted : AcceptedParts) (from : ℤ) (finished : Bool) (inputs : List InputFeed) → length inputs ≡ length accepted.core.inputs
    → IsStarted live accepted from (known_feed finished inputs) → (feed : Feed) → IsLeft accepted.core feed from finished inputs
    → IsLiveOf live accepted feed (length (printed accepted.core feed))
resumed-live live accepted from finished inputs many started feed is =
    let core = accepted.core in
    record {
      events = is.events;
      feed_is = is.feed_is;
      code = started.code;
      left = known_feed finished inputs;
      returned = returned_before core started.code from (known_feed finished inputs);
      running = started.running;
      goes_on = goes-on accepted started.running.valid from started.code started.code_is feed finished inputs many is;
      within = omega arith;
      upto = started.upto ∙ is.from_is ∙ ap (end_of core) (sym (take_all (length (printed core feed)) (printed core feed) (omega arith)));
    }

-- one that starts from nothing is one of the empty feed
pub new-live : (live : Live) (accepted : AcceptedParts) → IsStarted live accepted (output_domain accepted.core).start (empty_feed (length accepted.core.inputs))
    → IsLiveOf live accepted (empty_feed (length accepted.core.inputs)) 0
new-live live accepted started =
    let core = accepted.core in
    let lo = (output_domain core).start in
    let hi = (output_domain core).end in
    let left = empty_feed (length core.inputs) in
    let some = domain-some core started.running.valid.valid in
    let test : int_lt lo hi ≡ true = grind (arith, ints) in
    let none : returned_before core started.code lo left ≡ 0 = rw test refl in
    let at : start_of core lo ≡ lo = grind (arith, ints, clamps) in
    record {
      events = [];
      feed_is = refl;
      code = started.code;
      left = left;
      returned = 0;
      running = subst (IsRunning live accepted started.code left) none started.running;
      goes_on = record {
        allowed = λ more event. refl;
        known = λ more. refl;
        rest = λ more.
            let many = after_all-length more left ∙ fed-length core [] in
            ap (drop 0)
            (run-is accepted started.running.valid lo started.code started.code_is (after_all more left) many
            ∙ ap (λ (t : ℤ). snapshots (meaning_at_rest core (after_all more left) (emitted_number core)) t hi) at);
        ended = λ more. omega arith;
      };
      within = omega arith;
      upto = started.upto;
    }

-- a running engine is one that started, before it returned anything
pub started-open : (live : Live) (accepted : AcceptedParts) (from : ℤ) (left : Feed) (code : CodeParts) → IsCodeFrom accepted.core accepted.fuse (start_of accepted.core from) code
    → IsRunning live accepted code left 0 → from <ℤ (output_domain accepted.core).end → live.upto ≡ from → IsStarted live accepted from left
started-open live accepted from left code code_is running some upto =
    let test : int_lt from (output_domain accepted.core).end ≡ true = grind (arith, ints) in
    let none : returned_before accepted.core code from left ≡ 0 = rw test refl in
    record { code = code; code_is = code_is; running = subst (IsRunning live accepted code left) (sym none) running; upto = upto }

-- and after the one snapshot of a code for the last tick, if that is known
pub started-ended : (live : Live) (accepted : AcceptedParts) (from : ℤ) (left : Feed) (code : CodeParts) (next : Option Snapshot)
    → IsCodeFrom accepted.core accepted.fuse (start_of accepted.core from) code
    → (next ≡ slice_get (ended_by (horizon accepted.core left) (run_at_rest code left)) 0) × IsRunning live accepted code left (given_after 0 next)
    → (output_domain accepted.core).end ≤ℤ from → live.upto ≡ from → IsStarted live accepted from left
started-ended live accepted from left code next code_is found past upto =
    let core = accepted.core in
    let test : int_lt from (output_domain core).end ≡ false = grind (arith, ints) in
    let all = given-one accepted found.1.valid from code code_is left (horizon core left) found.1.many past in
    let count : given_after 0 next ≡ returned_before core code from left = rw test (ap (given_after 0) found.0 ∙ all) in
    record { code = code; code_is = code_is; running = subst (IsRunning live accepted code left) count found.1; upto = upto }

-- one that runs, of whose inputs nothing is known
pub first-run : (live : Live) (accepted : AcceptedParts) (start : ℤ) (code : CodeParts) → live.accepted ≡ accepted → live.refused ≡ false → live.known ≡ None → IsAccepted accepted
    → IsCodeFrom accepted.core accepted.fuse start code → code.inputs ≡ accepted.core.inputs → IsEngineOf live.engine code (empty_feed (length code.inputs)) 0
    → IsRunning live accepted code (empty_feed (length accepted.core.inputs)) 0
first-run live accepted start code accepted_is sound none valid code_is inputs runs = record {
  accepted_is = accepted_is;
  valid = valid;
  start = start;
  code_is = code_is;
  many = fed-length accepted.core [];
  runs = subst (λ (list : List (List ℕ)). IsEngineOf live.engine code (empty_feed (length list)) 0) inputs runs;
  sound = sound;
  known = no-horizon live accepted.core (empty_feed (length accepted.core.inputs)) none;
}

-- the same engine, once it has taken what is known of its inputs
pub restored-run : (live later : Live) (accepted : AcceptedParts) (code : CodeParts) (finished : Bool) (inputs : List InputFeed) → later.accepted ≡ live.accepted → later.refused ≡ live.refused
    → later.known ≡ None → length inputs ≡ length accepted.core.inputs → AllByRecursion IsInOrder inputs → IsRunning live accepted code (empty_feed (length accepted.core.inputs)) 0
    → ((feed : Feed) (given : ℕ) → IsEngineOf live.engine code feed given → IsEngineOf later.engine code (after_all (all_events 0 inputs ++ end_events finished) feed) given)
    → IsRunning later accepted code (known_feed finished inputs) 0
restored-run live later accepted code finished inputs same sound none many order running engine =
    let empty = empty_feed (length accepted.core.inputs) in
    subst (λ (f : Feed). IsRunning later accepted code f 0) (restored-is finished inputs (length accepted.core.inputs) many order)
    (run-after live later same sound accepted code empty 0 running (all_events 0 inputs ++ end_events finished) none (engine empty 0 running.runs))

-- a live engine that starts from nothing
pub new-started : {E : Type 0} (result : Result Live E) (accepted : AcceptedParts) (from : ℤ) → from ≡ (output_domain accepted.core).start → IsAccepted accepted
    → IfOk result (λ live. (code : CodeParts) × IsCodeFrom accepted.core accepted.fuse (start_of accepted.core from) code
    × IsRunning live accepted code (empty_feed (length accepted.core.inputs)) 0)
    → IfOk result (λ live. live.upto ≡ from)
    → IfOk result (λ live. IsStarted live accepted (output_domain accepted.core).start (empty_feed (length accepted.core.inputs)))
new-started (Err fault) accepted from at valid running upto = tt
new-started (Ok live) accepted from at valid running upto =
    let lo = (output_domain accepted.core).start in
    let code_is = subst (λ (t : ℤ). IsCodeFrom accepted.core accepted.fuse (start_of accepted.core t) running.0) at running.1 in
    started-open live accepted lo (empty_feed (length accepted.core.inputs)) running.0 code_is running.2 (domain-some accepted.core valid.valid) (upto ∙ at)

pub new-lives : {E : Type 0} (result : Result Live E) (accepted : AcceptedParts)
    → IfOk result (λ live. IsStarted live accepted (output_domain accepted.core).start (empty_feed (length accepted.core.inputs)))
    → IfOk result (λ live. IsLiveOf live accepted (empty_feed (length accepted.core.inputs)) 0)
new-lives (Err fault) accepted started = tt
new-lives (Ok live) accepted started = new-live live accepted started
