-- A live session, step by step.
use Rattle.std.proofs.Common.{◌≡◌, ◌≤◌, ◌+◌, ℕ, zero, suc, ℤ, true, List, [], ◌∷◌, ◌++◌, length, take, drop, slice_get, Option, Some, None, Result, Ok, Err, refl, sym, ap, ◌∙◌, subst}
use Rattle.std.proofs.Common.{arith, inl, inr, length-append}
use Rattle.std.proofs.lemmas.Bool.{cases_Bool}
use Rattle.std.proofs.lemmas.Int.{ints, clamps}
use Rattle.std.proofs.lemmas.List.{take-append-le}
use Rattle.std.specs.Prelude.{IfNone, int_le, int_lt}
use Rattle.tilt_compiler.specs.Accepted.{AcceptedParts, IsAccepted}
use Rattle.tilt_core.specs.Core.{CoreParts}
use Rattle.tilt_engine.specs.AtRest.{run_at_rest}
use Rattle.tilt_engine.specs.Engines.{HasTaken, begun_pair}
use Rattle.tilt_engine.specs.declared.fault.TakeError.{TakeError}
use Rattle.tilt_engine.specs.declared.fault.TakeError.TheVariants.{Fault, OutOfMemory}
use Rattle.tilt_feed.proofs.AllAtRest.{fed-begun_at_rest, fed-printed_at_rest}
use Rattle.tilt_feed.proofs.Final.{fed-printed}
use Rattle.tilt_feed.specs.Events.{after, after_all, event_fault}
use Rattle.tilt_feed.specs.Feed.{Feed, empty_feed}
use Rattle.tilt_feed.specs.Horizon.{horizon, output_domain}
use Rattle.tilt_feed.specs.Laws.{ListGoesOn, fed}
use Rattle.tilt_feed.specs.Printed.{begun, printed}
use Rattle.tilt_feed.specs.Resting.{begun_next, ended_by, whole}
use Rattle.tilt_feed.specs.declared.event.Event.{Event}
use Rattle.tilt_input_state.specs.Resume.{end_of}
use Rattle.tilt_live.proofs.Ended.{drop-next, ended-next, ended-length, taken-end}
use Rattle.tilt_live.proofs.Lives.{fed-more, looks-near}
use Rattle.tilt_live.specs.Lives.{IsLiveOf, IsRunning, tick_of_live}
use Rattle.tilt_live_start.specs.Sessions.{GoesOnFrom, HasBegunBelow, IsLiveSessionOf, opened_at}
use Rattle.tilt_live_start.specs.declared.live_session.LiveSession.{LiveSession}
use Rattle.tilt_resume.proofs.Restored.{after_all-append}
use Rattle.tilt_stream.proofs.Pieces.{length-joined_from}
use Rattle.tilt_stream.specs.Pieces.{joined_from}
use Rattle.tilt_stream.specs.Snap.{Snapshot}

-- a snapshot that goes on from where an open one began
abbrev pub opened_snap : Option ℤ → Snapshot → Snapshot
opened_snap opened s = record { start = opened_at opened s.start; end = s.end; value = s.value }

-- the next one, if there is one
abbrev pub opened_next : Option ℤ → Option Snapshot → Option Snapshot
opened_next opened None = None
opened_next opened (Some s) = Some (opened_snap opened s)

abbrev pub opened_pair : Option ℤ → Option (ℤ × Option ℤ) → Option (ℤ × Option ℤ)
opened_pair opened None = None
opened_pair opened (Some found) = Some (opened_at opened found.0, found.1)

-- of snapshots of which the first goes on from an open one: those that end by a tick, and the first of them
ended-joined : (tick : ℤ) (opened : Option ℤ) (list : List Snapshot) → ended_by tick (joined_from opened list) ≡ joined_from opened (ended_by tick list)
ended-joined tick None list = refl
ended-joined tick (Some start) [] = refl
ended-joined tick (Some start) (s ∷ list) =
    elim (cases_Bool (int_le s.end tick)) [
      | inl is ↦ rw is refl
      | inr late ↦ rw late refl
    ]

first-joined : (tick : ℤ) (opened : Option ℤ) (list : List Snapshot) → HasBegunBelow tick opened list
    → slice_get (joined_from opened (ended_by tick list)) 0 ≡ opened_next opened (slice_get (ended_by tick list) 0)
first-joined tick None [] begun = refl
first-joined tick None (s ∷ list) begun =
    elim (cases_Bool (int_le s.end tick)) [
      | inl is ↦ rw is refl
      | inr late ↦ rw late refl
    ]
first-joined tick (Some start) [] begun = refl
first-joined tick (Some start) (s ∷ list) begun =
    let low = begun.0 in
    let at : start ≡ opened_at (Some start) s.start = grind (arith, ints, clamps) in
    elim (cases_Bool (int_le s.end tick)) [
      | inl is ↦ rw is (ap (λ (t : ℤ). Some (record { start = t; end = s.end; value = s.value })) at)
      | inr late ↦ rw late refl
    ]

-- what has begun
begun-joined : (tick : ℤ) (opened : Option ℤ) (list : List Snapshot) → HasBegunBelow tick opened list
    → begun_pair (begun_next tick (joined_from opened list)) ≡ opened_pair opened (begun_pair (begun_next tick list))
begun-joined tick None [] begun = refl
begun-joined tick None (s ∷ list) begun =
    elim (cases_Bool (int_lt s.start tick)) [
      | inl is ↦ rw is refl
      | inr late ↦ rw late refl
    ]
begun-joined tick (Some start) [] begun = refl
begun-joined tick (Some start) (s ∷ list) begun =
    let low = begun.0 in
    let below = begun.1 in
    let one : int_lt s.start tick ≡ true = grind (arith, ints) in
    let two : int_lt start tick ≡ true = grind (arith, ints) in
    let at : start ≡ opened_at (Some start) s.start = grind (arith, ints, clamps) in
    rw (one, two) (ap (λ (t : ℤ). Some (t, s.value)) at)

-- after the first one they are the same
rest-joined : (opened : Option ℤ) (list : List Snapshot) → drop 1 (joined_from opened list) ≡ drop 1 list
rest-joined None list = refl
rest-joined (Some start) [] = refl
rest-joined (Some start) (s ∷ list) = refl

-- a snapshot of a list that is there
there-below : (list : List Snapshot) (place : ℕ) (s : Snapshot) → Some s ≡ slice_get list place → place + 1 ≤ length list
there-below [] place s is = absurd (cc is)
there-below (x ∷ list) zero s is = omega arith
there-below (x ∷ list) (suc place) s is = let rest = there-below list place s is in omega arith

none-begun : (tick : ℤ) (list : List Snapshot) → HasBegunBelow tick None list
none-begun tick list = tt

-- a fact that is wanted only if nothing is open
pub if-none : (opened : Option ℤ) (P : Type 0) → (opened ≡ None → P) → IfNone opened P
if-none None P is = is refl
if-none (Some start) P is = tt

module _ (session : LiveSession) (accepted : AcceptedParts) (feed : Feed) (given : ℕ) (is : IsLiveSessionOf session accepted feed given) where
  abbrev core : CoreParts
  core = accepted.core

  abbrev valid : IsAccepted accepted
  valid = is.running.valid

  abbrev opened : Option ℤ
  opened = session.open_start

  abbrev run : List Event → List Snapshot
  run more = run_at_rest is.code (after_all more is.left)

  abbrev tick : List Event → ℤ
  tick more = horizon core (after_all more feed)

  -- what may be printed after further events
  printed-is : (more : List Event) → printed core (after_all more feed) ≡ ended_by (tick more) (whole core (after_all more feed))
  printed-is more =
      let all : fed core (is.events ++ more) ≡ after_all more feed = after_all-append is.events more (empty_feed (length core.inputs)) ∙ ap (after_all more) (sym is.feed_is) in
      subst (λ (f : Feed). printed core f ≡ ended_by (horizon core f) (whole core f)) all
      (fed-printed_at_rest core (is.events ++ more) valid.valid (looks-near accepted valid))

  printed-goes_on : (more : List Event) → ListGoesOn (printed core feed) (printed core (after_all more feed))
  printed-goes_on more =
      subst (λ (f : Feed). ListGoesOn (printed core f) (printed core (after_all more f))) (sym is.feed_is) (fed-printed core is.events more valid.valid)

  printed-longer : (more : List Event) → length (printed core feed) ≤ length (printed core (after_all more feed))
  printed-longer more =
      let go = printed-goes_on more in
      omega (arith, ap length go.is ∙ length-append (printed core feed) go.rest)

  printed-taken : (more : List Event) → take given (printed core (after_all more feed)) ≡ take given (printed core feed)
  printed-taken more =
      let go = printed-goes_on more in
      ap (take given) go.is ∙ take-append-le given (printed core feed) go.rest is.within

  given-known : (more : List Event) → given ≤ length (ended_by (tick more) (whole core (after_all more feed)))
  given-known more = omega (arith, is.within, printed-longer more, ap length (printed-is more))

  -- the next known snapshot of the run, from where the open one began, is the next that may be printed
  pub next-is : opened_next opened (slice_get (ended_by (horizon core is.left) (run_at_rest is.code is.left)) is.returned) ≡ slice_get (printed core feed) given
  next-is =
      let rest = drop is.returned (run []) in
      ap (λ (t : ℤ). opened_next opened (slice_get (ended_by t (run [])) is.returned)) (is.goes_on.known [])
      ∙ ap (opened_next opened) (ended-next (tick []) is.returned (run []) (is.goes_on.ended []))
      ∙ sym (first-joined (tick []) opened rest (is.goes_on.begun []))
      ∙ ap (λ (l : List Snapshot). slice_get l 0) (sym (ended-joined (tick []) opened rest) ∙ ap (ended_by (tick [])) (is.goes_on.rest []))
      ∙ sym (ended-next (tick []) given (whole core feed) (given-known []))
      ∙ ap (λ (list : List Snapshot). slice_get list given) (sym (printed-is []))

  -- as many are known of both
  same-known : (more : List Event) → length (ended_by (tick more) (run more)) + given ≡ length (ended_by (tick more) (whole core (after_all more feed))) + is.returned
  same-known more =
      let rest = drop is.returned (run more) in
      let joined : length (ended_by (tick more) (drop given (whole core (after_all more feed)))) ≡ length (ended_by (tick more) rest) =
      ap (λ (l : List Snapshot). length (ended_by (tick more) l)) (sym (is.goes_on.rest more))
      ∙ ap length (ended-joined (tick more) opened rest)
      ∙ length-joined_from opened (ended_by (tick more) rest) in
      omega (arith, joined, ended-length (tick more) is.returned (run more) (is.goes_on.ended more), ended-length (tick more) given (whole core (after_all more feed)) (given-known more))

  -- after the next snapshot nothing is open any more
  goes-on-next : (s : Snapshot) → Some s ≡ slice_get (printed core feed) given → GoesOnFrom core is.code None feed is.left (given + 1) (is.returned + 1)
  goes-on-next s there =
      let g = is.goes_on in
      record {
        allowed = g.allowed;
        known = g.known;
        rest = λ more.
            drop-next is.returned (run more)
            ∙ sym (rest-joined opened (drop is.returned (run more)))
            ∙ ap (drop 1) (g.rest more)
            ∙ sym (drop-next given (whole core (after_all more feed)));
        ended = λ more.
            omega (arith, same-known more, there-below (printed core feed) given s there, printed-longer more, ap length (printed-is more));
        begun = λ more. none-begun (tick more) (drop (is.returned + 1) (run more));
      }

  pub begun-is : given ≡ length (printed core feed)
      → opened_pair opened (begun_pair (begun_next (horizon core is.left) (drop is.returned (run_at_rest is.code is.left)))) ≡ begun_pair (begun core feed)
  begun-is all =
      let rest = drop is.returned (run []) in
      ap (λ (t : ℤ). opened_pair opened (begun_pair (begun_next t rest))) (is.goes_on.known [])
      ∙ sym (begun-joined (tick []) opened rest (is.goes_on.begun []))
      ∙ ap (λ (l : List Snapshot). begun_pair (begun_next (tick []) l)) (is.goes_on.rest [])
      ∙ (λ i. begun_pair (begun_next (horizon core feed) (drop (all i) (whole core feed))))
      ∙ ap begun_pair
      (sym (subst (λ (f : Feed). begun core f ≡ begun_next (horizon core f) (drop (length (printed core f)) (whole core f))) (sym is.feed_is)
      (fed-begun_at_rest core is.events valid.valid (looks-near accepted valid))))

  pub fault-is : (event : Event) → event_fault is.left event ≡ event_fault feed event
  fault-is event = is.goes_on.allowed [] event

-- the session later, when it runs on
module _ (session later : LiveSession) (accepted : AcceptedParts) (feed : Feed) (given : ℕ) (is : IsLiveSessionOf session accepted feed given) where
  -- it has returned no more
  pub session-same : later.open_start ≡ session.open_start → tick_of_live later.live ≡ tick_of_live session.live
      → IsRunning later.live accepted is.code is.left is.returned → IsLiveSessionOf later accepted feed given
  session-same opened upto running = record {
    events = is.events;
    feed_is = is.feed_is;
    code = is.code;
    left = is.left;
    returned = is.returned;
    running = running;
    goes_on = subst (λ (o : Option ℤ). GoesOnFrom accepted.core is.code o feed is.left given is.returned) (sym opened) is.goes_on;
    within = is.within;
    upto =
        subst (λ (o : Option ℤ). IfNone o (tick_of_live later.live ≡ end_of accepted.core (take given (printed accepted.core feed)))) (sym opened)
        (subst (λ (t : ℤ). IfNone session.open_start (t ≡ end_of accepted.core (take given (printed accepted.core feed)))) (sym upto) is.upto);
  }

  -- after an event more
  session-after : (event : Event) → later.open_start ≡ session.open_start → tick_of_live later.live ≡ tick_of_live session.live
      → IsRunning later.live accepted is.code (after event is.left) is.returned → IsLiveSessionOf later accepted (after event feed) given
  session-after event opened upto running =
      let g = is.goes_on in
      record {
        events = is.events ++ event ∷ [];
        feed_is = fed-more accepted.core is.events event feed is.feed_is;
        code = is.code;
        left = after event is.left;
        returned = is.returned;
        running = running;
        goes_on = subst (λ (o : Option ℤ). GoesOnFrom accepted.core is.code o (after event feed) (after event is.left) given is.returned) (sym opened) (record {
          allowed = λ more. g.allowed (event ∷ more);
          known = λ more. g.known (event ∷ more);
          rest = λ more. g.rest (event ∷ more);
          ended = λ more. g.ended (event ∷ more);
          begun = λ more. g.begun (event ∷ more);
        });
        within = omega (arith, is.within, printed-longer session accepted feed given is (event ∷ []));
        upto =
            subst (λ (o : Option ℤ). IfNone o (tick_of_live later.live ≡ end_of accepted.core (take given (printed accepted.core (after event feed))))) (sym opened)
            (subst (λ (t : ℤ). IfNone session.open_start (t ≡ end_of accepted.core (take given (printed accepted.core (after event feed))))) (sym upto)
            (subst (λ (l : List Snapshot). IfNone session.open_start (tick_of_live session.live ≡ end_of accepted.core l)) (sym (printed-taken session accepted feed given is (event ∷ []))) is.upto));
      }

  -- after a snapshot more
  session-more : (s : Snapshot) → Some s ≡ slice_get (printed accepted.core feed) given → later.open_start ≡ None → tick_of_live later.live ≡ s.end
      → IsRunning later.live accepted is.code is.left (is.returned + 1) → IsLiveSessionOf later accepted feed (given + 1)
  session-more s there opened upto running = record {
    events = is.events;
    feed_is = is.feed_is;
    code = is.code;
    left = is.left;
    returned = is.returned + 1;
    running = running;
    goes_on = subst (λ (o : Option ℤ). GoesOnFrom accepted.core is.code o feed is.left (given + 1) (is.returned + 1)) (sym opened)
        (goes-on-next session accepted feed given is s there);
    within = there-below (printed accepted.core feed) given s there;
    upto = if-none later.open_start _ (λ none. upto ∙ sym (taken-end (output_domain accepted.core).start (printed accepted.core feed) given s there));
  }

  -- an event that its engine took
  pub session-taken : (event : Event) (result : Result (Unit {0}) TakeError) → later.open_start ≡ session.open_start → tick_of_live later.live ≡ tick_of_live session.live
      → HasTaken result event is.left (λ next_feed. IsRunning later.live accepted is.code next_feed is.returned)
      → HasTaken result event feed (λ next_feed. IsLiveSessionOf later accepted next_feed given)
  session-taken event (Ok done) opened upto taken = (sym (is.goes_on.allowed [] event) ∙ taken.0, session-after event opened upto taken.1)
  session-taken event (Err (Fault fault)) opened upto taken = (sym (is.goes_on.allowed [] event) ∙ taken.0, session-same opened upto taken.1)
  session-taken event (Err OutOfMemory) opened upto taken = (sym (is.goes_on.allowed [] event) ∙ taken.0, session-same opened upto taken.1)

  -- the next snapshot of its run, if there is one
  pub session-next : (s : Snapshot) → later.open_start ≡ None → tick_of_live later.live ≡ s.end
      → (Some s ≡ slice_get (ended_by (horizon accepted.core is.left) (run_at_rest is.code is.left)) is.returned)
      × IsRunning later.live accepted is.code is.left (is.returned + 1)
      → (Some (opened_snap session.open_start s) ≡ slice_get (printed accepted.core feed) given) × IsLiveSessionOf later accepted feed (given + 1)
  session-next s opened upto found =
      let there = ap (opened_next session.open_start) found.0 ∙ next-is session accepted feed given is in
      (there, session-more (opened_snap session.open_start s) there opened upto found.1)

  pub session-none : later.open_start ≡ session.open_start → tick_of_live later.live ≡ tick_of_live session.live
      → (None ≡ slice_get (ended_by (horizon accepted.core is.left) (run_at_rest is.code is.left)) is.returned)
      × IsRunning later.live accepted is.code is.left is.returned
      → (None ≡ slice_get (printed accepted.core feed) given) × IsLiveSessionOf later accepted feed given
  session-none opened upto found =
      (ap (opened_next session.open_start) found.0 ∙ next-is session accepted feed given is, session-same opened upto found.1)

  -- what has begun of its run
  pub session-begun : (found : Option (ℤ × Option ℤ)) → later.open_start ≡ session.open_start → tick_of_live later.live ≡ tick_of_live session.live
      → (found ≡ begun_pair (begun_next (horizon accepted.core is.left) (drop is.returned (run_at_rest is.code is.left))))
      × IsRunning later.live accepted is.code is.left is.returned
      → (given ≡ length (printed accepted.core feed) → opened_pair session.open_start found ≡ begun_pair (begun accepted.core feed)) × IsLiveSessionOf later accepted feed given
  session-begun found opened upto is_found = (
    λ all. ap (opened_pair session.open_start) is_found.0 ∙ begun-is session accepted feed given is all,
    session-same opened upto is_found.1,
  )

-- once nothing is open, its engine is a live engine of the feed
pub engine-live : (session : LiveSession) (accepted : AcceptedParts) (feed : Feed) (given : ℕ) → session.open_start ≡ None → IsLiveSessionOf session accepted feed given
    → IsLiveOf session.live accepted feed given
engine-live session accepted feed given none is =
    let g = subst (λ (o : Option ℤ). GoesOnFrom accepted.core is.code o feed is.left given is.returned) none is.goes_on in
    record {
      events = is.events;
      feed_is = is.feed_is;
      code = is.code;
      left = is.left;
      returned = is.returned;
      running = is.running;
      goes_on = record { allowed = g.allowed; known = g.known; rest = g.rest; ended = g.ended };
      within = is.within;
      upto = subst (λ (o : Option ℤ). IfNone o (tick_of_live session.live ≡ end_of accepted.core (take given (printed accepted.core feed)))) none is.upto;
    }
