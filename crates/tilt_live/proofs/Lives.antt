-- What a live engine returns is what may be printed.
use Rattle.std.proofs.Common.{◌≡◌, ◌≤◌, ◌+◌, ℕ, zero, suc, ℤ, ◌≤ℤ◌, false, List, [], ◌∷◌, ◌++◌, length, map, take, drop, slice_get, Option, Some, None, Result, Ok, Err, refl, sym, ap, ◌∙◌, subst}
use Rattle.std.proofs.Common.{append_assoc, arith, inl, inr, length-append}
use Rattle.std.proofs.lemmas.Int.{ints}
use Rattle.std.proofs.lemmas.List.{length-map, take-append-drop, take-append-le}
use Rattle.std.specs.Prelude.{IfOk}
use Rattle.tilt_base.specs.declared.limits.TheConstants.{REACH}
use Rattle.tilt_bounds.proofs.Margin.{margins-reach}
use Rattle.tilt_code.specs.Code.{CodeParts}
use Rattle.tilt_compiler.specs.Accepted.{AcceptedParts, IsAccepted}
use Rattle.tilt_core.specs.Core.{CoreParts, emitted_number}
use Rattle.tilt_engine.proofs.Taking.{after_all-push}
use Rattle.tilt_engine.specs.CodeHorizon.{horizon_by}
use Rattle.tilt_engine.specs.AtRest.{horizons_of, last_horizon, run_at_rest}
use Rattle.tilt_engine.specs.Engines.{HasTaken, IsEngineOf, begun_pair, given_after}
use Rattle.tilt_engine.specs.declared.fault.TakeError.{TakeError}
use Rattle.tilt_engine.specs.declared.fault.TakeError.TheVariants.{Fault, OutOfMemory}
use Rattle.tilt_feed.proofs.AllAtRest.{fed-begun_at_rest, fed-printed_at_rest}
use Rattle.tilt_feed.proofs.Final.{fed-printed}
use Rattle.tilt_feed.proofs.Following.{after_all-length}
use Rattle.tilt_feed.proofs.Known.{clipped-known}
use Rattle.tilt_feed.specs.Events.{after, after_all}
use Rattle.tilt_feed.specs.Feed.{Feed, InputFeed, empty_feed}
use Rattle.tilt_feed.specs.Horizon.{IsKnownAt, clipped, horizon, horizon_of, horizons, input_horizon, output_domain, with_horizons}
use Rattle.tilt_feed.specs.Laws.{ListGoesOn, fed}
use Rattle.tilt_feed.specs.Printed.{begun, printed}
use Rattle.tilt_feed.specs.Resting.{LooksNear, begun_next, ended_by, meaning_at_rest, whole}
use Rattle.tilt_feed.specs.declared.event.Event.{Event}
use Rattle.tilt_input_state.specs.Resume.{end_of}
use Rattle.tilt_live.proofs.Ended.{drop-next, ends-within, same-length, same-next, taken-end}
use Rattle.tilt_live.proofs.Reaching.{code-reaches}
use Rattle.tilt_live.specs.Lives.{GoesOn, IsLive, IsLiveOf, IsRunning, KeepsHorizon, tick_after}
use Rattle.tilt_live.specs.declared.live.Live.{Live}
use Rattle.tilt_resume.proofs.Restored.{after_all-append}
use Rattle.tilt_resume.proofs.Resumed.{ended-front}
use Rattle.tilt_resume.proofs.Rises.{domain-some}
use Rattle.tilt_stream.proofs.Filling.{snapshots-Fill}
use Rattle.tilt_stream.specs.Snap.{Fill, Snapshot}

-- a live engine that keeps no horizon
pub no-horizon : (live : Live) (core : CoreParts) (feed : Feed) → live.known ≡ None → KeepsHorizon live core feed
no-horizon live core feed none = λ tick e. absurd (cc (sym none ∙ e))

-- a snapshot of a list that is there
there-below : (list : List Snapshot) (place : ℕ) (s : Snapshot) → Some s ≡ slice_get list place → place + 1 ≤ length list
there-below [] place s is = absurd (cc is)
there-below (x ∷ list) zero s is = omega arith
there-below (x ∷ list) (suc place) s is = let rest = there-below list place s is in omega arith

-- what is fed, with one event more
pub fed-more : (core : CoreParts) (events : List Event) (event : Event) (feed : Feed) → feed ≡ fed core events → after event feed ≡ fed core (events ++ event ∷ [])
fed-more core events event feed is = ap (after event) is ∙ sym (after_all-push events event (empty_feed (length core.inputs)))

-- an accepted query looks ahead by the limit at most
pub looks-near : (accepted : AcceptedParts) → IsAccepted accepted → LooksNear accepted.core
looks-near accepted valid =
    let ahead = (margins-reach accepted.core accepted.margins valid.near).1 in
    subst (λ (t : ℤ). t ≤ℤ REACH) (sym ahead) valid.within.ahead

-- the code of a running engine is known where its output is
module _ (live : Live) (accepted : AcceptedParts) (code : CodeParts) (left : Feed) (returned : ℕ) (is : IsRunning live accepted code left returned) where
  pub horizon-known : IsKnownAt (last_horizon code left) (horizon accepted.core left)
  horizon-known =
      let core = accepted.core in
      let c = is.code_is in
      let h = horizon_of (horizons core left) (emitted_number core) in
      let known : IsKnownAt h (horizon core left) = clipped-known (output_domain core).end h (horizon core left) (omega (arith, ints)) in
      let many : length (horizons_of left) ≡ length core.inputs = length-map left.inputs (λ (input : InputFeed). input_horizon left.finished input.edge) ∙ is.many in
      let reaches = code-reaches core c.margins accepted.fuse is.start (output_domain core).end (horizons_of left) is.valid.valid c.near many in
      subst (λ (code : CodeParts). IsKnownAt (last_horizon code left) (horizon core left)) (sym c.is) (reaches.all (horizon core left) known)

-- the inputs of an engine, and the tick up to which the output is known
module _ (live : Live) (core : CoreParts) (core_is : core ≡ live.accepted.core) (inputs items : List (Option ℤ)) (same : inputs ≡ items)
    (each : (code : CodeParts) (feed : Feed) (given : ℕ) → IsEngineOf live.engine code feed given → map horizon_by items ≡ horizons_of feed) where
  pub live-many : (accepted : AcceptedParts) (code : CodeParts) (left : Feed) (returned : ℕ) → IsRunning live accepted code left returned → length inputs ≡ length core.inputs
  live-many accepted code left returned is =
      sym (length-map inputs horizon_by)
      ∙ ap length (ap (map horizon_by) same ∙ each code left returned is.runs)
      ∙ length-map left.inputs (λ (input : InputFeed). input_horizon left.finished input.edge)
      ∙ is.many
      ∙ sym (ap (λ (c : CoreParts). length c.inputs) (core_is ∙ ap (λ (a : AcceptedParts). a.core) is.accepted_is))

  pub live-horizon : {E : Type 0} (result : Result ℤ E)
      → IfOk result (λ tick. tick ≡ clipped (output_domain core).end (horizon_of (with_horizons (map horizon_by inputs) core.defs) (emitted_number core)))
      → IfOk result (λ tick. (accepted : AcceptedParts) (code : CodeParts) (left : Feed) (returned : ℕ)
      → IsRunning live accepted code left returned → tick ≡ horizon accepted.core left)
  live-horizon (Err fault) found = tt
  live-horizon (Ok tick) found = λ accepted code left returned is.
      let core_same : core ≡ accepted.core = core_is ∙ ap (λ (a : AcceptedParts). a.core) is.accepted_is in
      let here : map horizon_by inputs ≡ horizons_of left = ap (map horizon_by) same ∙ each code left returned is.runs in
      found ∙ (λ i. clipped (output_domain (core_same i)).end (horizon_of (with_horizons (here i) (core_same i).defs) (emitted_number (core_same i))))

-- the same running engine, later
module _ (live later : Live) (same : later.accepted ≡ live.accepted) (sound : later.refused ≡ live.refused) (accepted : AcceptedParts) (code : CodeParts) (left : Feed) (returned : ℕ)
    (is : IsRunning live accepted code left returned) where
  -- its engine has gone on
  pub run-later : (more : ℕ) → IsEngineOf later.engine code left more → KeepsHorizon later accepted.core left → IsRunning later accepted code left more
  run-later more runs known = record {
    accepted_is = same ∙ is.accepted_is;
    valid = is.valid;
    start = is.start;
    code_is = is.code_is;
    many = is.many;
    runs = runs;
    sound = sound ∙ is.sound;
    known = known;
  }

  -- after events
  pub run-after : (events : List Event) → later.known ≡ None → IsEngineOf later.engine code (after_all events left) returned → IsRunning later accepted code (after_all events left) returned
  run-after events none runs = record {
    accepted_is = same ∙ is.accepted_is;
    valid = is.valid;
    start = is.start;
    code_is = is.code_is;
    many = after_all-length events left ∙ is.many;
    runs = runs;
    sound = sound ∙ is.sound;
    known = no-horizon later accepted.core (after_all events left) none;
  }

  pub run-taken : (event : Event) (result : Result (Unit {0}) TakeError) → later.known ≡ None → HasTaken result event left (λ next_feed. IsEngineOf later.engine code next_feed returned)
      → HasTaken result event left (λ next_feed. IsRunning later accepted code next_feed returned)
  run-taken event (Ok done) none taken = (taken.0, run-after (event ∷ []) none taken.1)
  run-taken event (Err (Fault fault)) none taken = (taken.0, run-later returned taken.1 (no-horizon later accepted.core left none))
  run-taken event (Err OutOfMemory) none taken = (taken.0, run-later returned taken.1 (no-horizon later accepted.core left none))

  -- what its engine finds next is the next snapshot that is known
  pub run-next : {E : Type 0} (limit : ℤ) (result : Result (Option Snapshot) E) → later.known ≡ live.known → limit ≡ horizon accepted.core left
      → (IsKnownAt (last_horizon code left) limit
      → IfOk result (λ next. (next ≡ slice_get (ended_by limit (run_at_rest code left)) returned) × IsEngineOf later.engine code left (given_after returned next)))
      → IfOk result (λ next. (next ≡ slice_get (ended_by (horizon accepted.core left) (run_at_rest code left)) returned)
      × IsRunning later accepted code left (given_after returned next))
  run-next limit (Err fault) kept at found = tt
  run-next limit (Ok next) kept at found =
      let known = subst (IsKnownAt (last_horizon code left)) (sym at) (horizon-known live accepted code left returned is) in
      let one = found known in (
        one.0 ∙ ap (λ (tick : ℤ). slice_get (ended_by tick (run_at_rest code left)) returned) at,
        run-later (given_after returned next) one.1 (rw kept is.known),
      )

  -- and what it finds begun is what has begun
  pub run-begun : {E : Type 0} (limit : ℤ) (result : Result (Option (ℤ × Option ℤ)) E) → later.known ≡ live.known → limit ≡ horizon accepted.core left
      → (IsKnownAt (last_horizon code left) limit
      → IfOk result (λ found. (found ≡ begun_pair (begun_next limit (drop returned (run_at_rest code left)))) × IsEngineOf later.engine code left returned))
      → IfOk result (λ found. (found ≡ begun_pair (begun_next (horizon accepted.core left) (drop returned (run_at_rest code left))))
      × IsRunning later accepted code left returned)
  run-begun limit (Err fault) kept at found = tt
  run-begun limit (Ok next) kept at found =
      let known = subst (IsKnownAt (last_horizon code left)) (sym at) (horizon-known live accepted code left returned is) in
      let one = found known in (
        one.0 ∙ ap (λ (tick : ℤ). begun_pair (begun_next tick (drop returned (run_at_rest code left)))) at,
        run-later returned one.1 (rw kept is.known),
      )

-- the same running engine with another tick from which its output goes on
pub run-moved : (live : Live) (accepted : AcceptedParts) (code : CodeParts) (left : Feed) (returned : ℕ) (upto : ℤ) → IsRunning live accepted code left returned
    → IsRunning (record { accepted = live.accepted; engine = live.engine; refused = live.refused; known = live.known; upto = upto; alloc = live.alloc }) accepted code left returned
run-moved live accepted code left returned upto is =
    let later : Live = record { accepted = live.accepted; engine = live.engine; refused = live.refused; known = live.known; upto = upto; alloc = live.alloc } in
    run-later live later refl refl accepted code left returned is returned is.runs is.known

-- what may be printed of the feed of a live engine
module _ (live : Live) (accepted : AcceptedParts) (feed : Feed) (given : ℕ) (is : IsLiveOf live accepted feed given) where
  abbrev core : CoreParts
  core = accepted.core

  abbrev valid : IsAccepted accepted
  valid = is.running.valid

  -- after further events it is what ends at the horizon or below it
  printed-is : (more : List Event) → printed core (after_all more feed) ≡ ended_by (horizon core (after_all more feed)) (whole core (after_all more feed))
  printed-is more =
      let all : fed core (is.events ++ more) ≡ after_all more feed = after_all-append is.events more (empty_feed (length core.inputs)) ∙ ap (after_all more) (sym is.feed_is) in
      subst (λ (f : Feed). printed core f ≡ ended_by (horizon core f) (whole core f)) all
      (fed-printed_at_rest core (is.events ++ more) valid.valid (looks-near accepted valid))

  -- and it begins with what may be printed now
  printed-goes_on : (more : List Event) → ListGoesOn (printed core feed) (printed core (after_all more feed))
  printed-goes_on more =
      subst (λ (f : Feed). ListGoesOn (printed core f) (printed core (after_all more f))) (sym is.feed_is) (fed-printed core is.events more valid.valid)

  printed-longer : (more : List Event) → length (printed core feed) ≤ length (printed core (after_all more feed))
  printed-longer more =
      let go = printed-goes_on more in
      omega (arith, ap length go.is ∙ length-append (printed core feed) go.rest)

  -- the same snapshots are returned of it
  printed-taken : (more : List Event) → take given (printed core (after_all more feed)) ≡ take given (printed core feed)
  printed-taken more =
      let go = printed-goes_on more in
      ap (take given) go.is ∙ take-append-le given (printed core feed) go.rest is.within

  given-known : (more : List Event) → given ≤ length (ended_by (horizon core (after_all more feed)) (whole core (after_all more feed)))
  given-known more = omega (arith, is.within, printed-longer more, ap length (printed-is more))

  pub begun-is : given ≡ length (printed core feed) → begun_next (horizon core feed) (drop given (whole core feed)) ≡ begun core feed
  begun-is all =
      (λ i. begun_next (horizon core feed) (drop (all i) (whole core feed)))
      ∙ sym (subst (λ (f : Feed). begun core f ≡ begun_next (horizon core f) (drop (length (printed core f)) (whole core f))) (sym is.feed_is)
      (fed-begun_at_rest core is.events valid.valid (looks-near accepted valid)))

  -- the next known snapshot of its run is the next that may be printed
  pub next-is : slice_get (ended_by (horizon core is.left) (run_at_rest is.code is.left)) is.returned ≡ slice_get (printed core feed) given
  next-is =
      let run = run_at_rest is.code is.left in
      ap (λ (tick : ℤ). slice_get (ended_by tick run) is.returned) (is.goes_on.known [])
      ∙ same-next (horizon core feed) run (whole core feed) is.returned given (is.goes_on.rest []) (is.goes_on.ended []) (given-known [])
      ∙ ap (λ (list : List Snapshot). slice_get list given) (sym (printed-is []))

  -- after it all goes on
  goes-on-next : (s : Snapshot) → Some s ≡ slice_get (printed core feed) given → GoesOn core is.code feed is.left (given + 1) (is.returned + 1)
  goes-on-next s there =
      let g = is.goes_on in
      record {
        allowed = g.allowed;
        known = g.known;
        rest = λ more.
            drop-next is.returned (run_at_rest is.code (after_all more is.left))
            ∙ ap (drop 1) (g.rest more)
            ∙ sym (drop-next given (whole core (after_all more feed)));
        ended = λ more.
            let later = after_all more feed in
            let run = run_at_rest is.code (after_all more is.left) in
            let same = same-length (horizon core later) run (whole core later) is.returned given (g.rest more) (g.ended more) (given-known more) in
            omega (arith, same, there-below (printed core feed) given s there, printed-longer more, ap length (printed-is more));
      }

  -- the tick from which its output goes on lies within the output domain
  pub upto-within : ((output_domain core).start ≤ℤ live.upto) × (live.upto ≤ℤ (output_domain core).end)
  upto-within =
      let lo = (output_domain core).start in
      let hi = (output_domain core).end in
      let all = printed core feed in
      let go = ended-front (horizon core feed) (whole core feed) in
      let parts : whole core feed ≡ take given all ++ (drop given all ++ go.rest) =
      go.is
      ∙ ap (λ (l : List Snapshot). l ++ go.rest) (sym (printed-is []) ∙ sym (take-append-drop given all))
      ∙ append_assoc (take given all) (drop given all) go.rest in
      let fill = subst (Fill lo hi) parts (snapshots-Fill (meaning_at_rest core feed (emitted_number core)) lo hi (domain-some core valid.valid)) in
      subst (λ (t : ℤ). (lo ≤ℤ t) × (t ≤ℤ hi)) (sym is.upto) (ends-within lo hi (take given all) (drop given all ++ go.rest) fill)

-- the live engine later, when it runs on
module _ (live later : Live) (accepted : AcceptedParts) (feed : Feed) (given : ℕ) (is : IsLiveOf live accepted feed given) where
  -- it has returned no more
  pub live-same : later.upto ≡ live.upto → IsRunning later accepted is.code is.left is.returned → IsLiveOf later accepted feed given
  live-same upto running = record {
    events = is.events;
    feed_is = is.feed_is;
    code = is.code;
    left = is.left;
    returned = is.returned;
    running = running;
    goes_on = is.goes_on;
    within = is.within;
    upto = upto ∙ is.upto;
  }

  -- after an event more
  pub live-after : (event : Event) → later.upto ≡ live.upto → IsRunning later accepted is.code (after event is.left) is.returned → IsLiveOf later accepted (after event feed) given
  live-after event upto running = record {
    events = is.events ++ event ∷ [];
    feed_is = fed-more accepted.core is.events event feed is.feed_is;
    code = is.code;
    left = after event is.left;
    returned = is.returned;
    running = running;
    goes_on = record {
      allowed = λ more. is.goes_on.allowed (event ∷ more);
      known = λ more. is.goes_on.known (event ∷ more);
      rest = λ more. is.goes_on.rest (event ∷ more);
      ended = λ more. is.goes_on.ended (event ∷ more);
    };
    within = omega (arith, is.within, printed-longer live accepted feed given is (event ∷ []));
    upto = upto ∙ is.upto ∙ sym (ap (end_of accepted.core) (printed-taken live accepted feed given is (event ∷ [])));
  }

  -- after a snapshot more
  live-more : (s : Snapshot) → Some s ≡ slice_get (printed accepted.core feed) given → later.upto ≡ s.end
      → IsRunning later accepted is.code is.left (is.returned + 1) → IsLiveOf later accepted feed (given + 1)
  live-more s there upto running = record {
    events = is.events;
    feed_is = is.feed_is;
    code = is.code;
    left = is.left;
    returned = is.returned + 1;
    running = running;
    goes_on = goes-on-next live accepted feed given is s there;
    within = there-below (printed accepted.core feed) given s there;
    upto = upto ∙ sym (taken-end (output_domain accepted.core).start (printed accepted.core feed) given s there);
  }

  -- an event that its engine took
  pub live-taken : (event : Event) (result : Result (Unit {0}) TakeError) → later.upto ≡ live.upto
      → HasTaken result event is.left (λ next_feed. IsRunning later accepted is.code next_feed is.returned)
      → HasTaken result event feed (λ next_feed. IsLiveOf later accepted next_feed given)
  live-taken event (Ok done) upto taken = (sym (is.goes_on.allowed [] event) ∙ taken.0, live-after event upto taken.1)
  live-taken event (Err (Fault fault)) upto taken = (sym (is.goes_on.allowed [] event) ∙ taken.0, live-same upto taken.1)
  live-taken event (Err OutOfMemory) upto taken = (sym (is.goes_on.allowed [] event) ∙ taken.0, live-same upto taken.1)

  -- the next snapshot of its run
  pub live-next : (next : Option Snapshot) → later.upto ≡ tick_after live.upto next
      → (next ≡ slice_get (ended_by (horizon accepted.core is.left) (run_at_rest is.code is.left)) is.returned)
      × IsRunning later accepted is.code is.left (given_after is.returned next)
      → (next ≡ slice_get (printed accepted.core feed) given) × IsLiveOf later accepted feed (given_after given next)
  live-next None upto found = (found.0 ∙ next-is live accepted feed given is, live-same upto found.1)
  live-next (Some s) upto found =
      let there = found.0 ∙ next-is live accepted feed given is in
      (there, live-more s there upto found.1)

  -- what has begun of its run
  pub live-begun : (found : Option (ℤ × Option ℤ)) → later.upto ≡ live.upto
      → (found ≡ begun_pair (begun_next (horizon accepted.core is.left) (drop is.returned (run_at_rest is.code is.left))))
      × IsRunning later accepted is.code is.left is.returned
      → (given ≡ length (printed accepted.core feed) → found ≡ begun_pair (begun accepted.core feed)) × IsLiveOf later accepted feed given
  live-begun found upto is_found = (
    λ all.
        is_found.0
        ∙ (λ i. begun_pair (begun_next (is.goes_on.known [] i) (is.goes_on.rest [] i)))
        ∙ ap begun_pair (begun-is live accepted feed given is all),
    live-same upto is_found.1,
  )

-- a live engine to which no memory was refused runs
pub of-some-run : (live : Live) → IsLive live → live.refused ≡ false
    → (accepted : AcceptedParts) × (code : CodeParts) × (left : Feed) × (returned : ℕ) × IsRunning live accepted code left returned
of-some-run live (inl refused) sound = absurd (cc (refused, sound))
of-some-run live (inr some) sound = some

-- a live engine that took an event
pub still-taken : (live later : Live) (event : Event) (result : Result (Unit {0}) TakeError) → later.refused ≡ live.refused
    → ((accepted : AcceptedParts) (code : CodeParts) (left : Feed) (returned : ℕ) → IsRunning live accepted code left returned
    → HasTaken result event left (λ next_feed. IsRunning later accepted code next_feed returned))
    → IsLive live → IsLive later
still-taken live later event result same taken (inl refused) = inl (same ∙ refused)
still-taken live later event (Ok done) same taken (inr some) = inr (some.0, some.1, after event some.2, some.3, (taken some.0 some.1 some.2 some.3 some.4).1)
still-taken live later event (Err (Fault fault)) same taken (inr some) = inr (some.0, some.1, some.2, some.3, (taken some.0 some.1 some.2 some.3 some.4).1)
still-taken live later event (Err OutOfMemory) same taken (inr some) = inr (some.0, some.1, some.2, some.3, (taken some.0 some.1 some.2 some.3 some.4).1)
