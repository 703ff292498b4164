-- The output after a tick, from what was kept of its inputs.
use Rattle.std.proofs.Common.{◌≡◌, ◌≤◌, ℕ, ℤ, pos, ◌+ℤ◌, ◌-ℤ◌, ◌≤ℤ◌, ◌<ℤ◌, Bool, true, false, List, [], ◌∷◌, ◌++◌, length, map, drop, Option, None, refl, sym, ap, ◌∙◌, subst, arith, inl, inr}
use Rattle.std.proofs.Common.{append-nil, append_assoc}
use Rattle.std.proofs.lemmas.Bool.{cases_Bool}
use Rattle.std.proofs.lemmas.Int.{ints, clamps}
use Rattle.std.proofs.lemmas.List.{length-map}
use Rattle.std.specs.List.{AllByRecursion}
use Rattle.std.specs.Prelude.{int_lt}
use Rattle.tilt_bounds.proofs.Margin.{margins-reach}
use Rattle.tilt_code.specs.Code.{CodeParts}
use Rattle.tilt_compiler.specs.Accepted.{AcceptedParts, IsAccepted}
use Rattle.tilt_core.proofs.Constancy.{definitions-AreGrids, meaning-changes}
use Rattle.tilt_core.specs.Core.{CoreParts, emitted_number}
use Rattle.tilt_engine.proofs.Gone.{drop-none}
use Rattle.tilt_engine.proofs.WholeFeeds.{whole-after_all, whole-fault, whole-horizons}
use Rattle.tilt_engine.specs.AtRest.{horizons_of, run_at_rest}
use Rattle.tilt_engine.specs.Gone.{EndsBelow, whole_feed, with_gone}
use Rattle.tilt_feed.proofs.AllAtRest.{fed-printed_at_rest}
use Rattle.tilt_feed.proofs.Final.{fed-rises}
use Rattle.tilt_feed.proofs.Following.{after_all-length, fed-length}
use Rattle.tilt_feed.proofs.Whole.{AreClosed, after_all-closed, horizon-end}
use Rattle.tilt_feed.specs.Events.{after_all, event_fault, finished_input}
use Rattle.tilt_feed.specs.Feed.{Feed, InputFeed, closed_at, empty_feed}
use Rattle.tilt_feed.specs.Horizon.{Horizon, clipped, horizon, horizon_of, output_domain, with_horizons}
use Rattle.tilt_feed.specs.Laws.{fed}
use Rattle.tilt_feed.specs.Printed.{printed}
use Rattle.tilt_feed.specs.Resting.{all_resting, ended_by, meaning_at_rest, resting, resting_end, whole}
use Rattle.tilt_feed.specs.declared.event.Event.{Event}
use Rattle.tilt_feed.specs.declared.open_row.OpenRow.{OpenRow}
use Rattle.tilt_input_state.specs.Resume.{first_read}
use Rattle.tilt_live.proofs.Ended.{ended-drop, one-ended, one-tick}
use Rattle.tilt_live.proofs.Ever.{finished-after, finished-fault}
use Rattle.tilt_live.proofs.Lives.{looks-near}
use Rattle.tilt_live.proofs.Resuming.{known-many}
use Rattle.tilt_live.specs.Lives.{IsCodeFrom}
use Rattle.tilt_live.specs.Resuming.{known_feed, returned_before, start_of}
use Rattle.tilt_live_start.proofs.AfterTick.{ended-after, none-after, snapshots-after}
use Rattle.tilt_live_start.specs.After.{AreLeft, GoesOnAfter, IsLeftAt, after_tick}
use Rattle.tilt_resume.proofs.Left.{AreBehind, left-gives}
use Rattle.tilt_resume.proofs.Restored.{after_all-append}
use Rattle.tilt_resume.proofs.Rises.{domain-some}
use Rattle.tilt_stream.proofs.Filling.{snapshots-Fill}
use Rattle.tilt_stream.specs.Agreement.{ChangesOnlyAtMarks}
use Rattle.tilt_stream.specs.Snap.{Fill, Snapshot}
use Rattle.tilt_stream.specs.Snapshots.{snapshot_on, snapshots}
use Rattle.tilt_stream.specs.Stream.{Stream}

-- the rows at rest are those that are left, behind the ones that have gone
resting-behind : (first : ℤ) (gone : List (List Snapshot)) (inputs : List InputFeed) → AllByRecursion (λ (g : List Snapshot). AllByRecursion (EndsBelow first) g) gone
    → AreBehind first (map resting (with_gone gone inputs)) (map resting inputs)
resting-behind first [] [] below = tt
resting-behind first [] (a ∷ inputs) below = (record { gone = []; is = refl; below = tt }, resting-behind first [] inputs below)
resting-behind first (g ∷ gone) [] below = tt
resting-behind first (g ∷ gone) (a ∷ inputs) below = (
  record { gone = g; is = append_assoc g a.rows (closed_at (resting_end a.edge) a.edge.open_row); below = below.0 },
  resting-behind first gone inputs below.1,
)

-- the inputs of a finished feed have no open rows, so nor do those that are left
left-closed : (gone : List (List Snapshot)) (inputs : List InputFeed) → AreClosed (with_gone gone inputs) → AreClosed inputs
left-closed [] inputs closed = closed
left-closed (g ∷ gone) [] closed = tt
left-closed (g ∷ gone) (a ∷ inputs) closed = (closed.0, left-closed gone inputs closed.1)

closed-finished : (a : InputFeed) → a.edge.open_row ≡ None → finished_input a ≡ a
closed-finished a closed =
    let rows : a.rows ++ closed_at a.edge.watermark a.edge.open_row ≡ a.rows =
    ap (λ (o : Option OpenRow). a.rows ++ closed_at a.edge.watermark o) closed ∙ append-nil a.rows in
    λ i. record { rows = rows i; edge = record { open_row = sym closed i; watermark = a.edge.watermark } }

all-finished : (inputs : List InputFeed) → AreClosed inputs → map finished_input inputs ≡ inputs
all-finished [] closed = refl
all-finished (a ∷ inputs) closed = λ i. closed-finished a closed.0 i ∷ all-finished inputs closed.1 i

-- what is known is what was kept
known-is : (finished : Bool) (inputs : List InputFeed) → (finished ≡ true → AreClosed inputs) → known_feed finished inputs ≡ record { inputs = inputs; finished = finished }
known-is false inputs closed = refl
known-is true inputs closed = ap (λ (list : List InputFeed). record { inputs = list; finished = true }) (all-finished inputs (closed refl))

module _ (accepted : AcceptedParts) (valid : IsAccepted accepted) (from : ℤ) (feed : Feed) (finished : Bool) (inputs : List InputFeed) (is : IsLeftAt accepted.core feed from finished inputs)
    (many : length inputs ≡ length accepted.core.inputs) where
  abbrev core : CoreParts
  core = accepted.core

  abbrev lo : ℤ
  lo = (output_domain core).start

  abbrev hi : ℤ
  hi = (output_domain core).end

  abbrev left : Feed
  left = known_feed finished inputs

  abbrev meant : Feed → Stream
  meant f = meaning_at_rest core f (emitted_number core)

  abbrev first : ℤ
  first = first_read core from

  later-many : (more : List Event) → length (after_all more feed).inputs ≡ length core.inputs
  later-many more = after_all-length more feed ∙ subst (λ (f : Feed). length f.inputs ≡ length core.inputs) (sym is.feed_is) (fed-length core is.events)

  left-many : (more : List Event) → length (after_all more left).inputs ≡ length core.inputs
  left-many more = after_all-length more left ∙ known-many finished inputs (length core.inputs) many

  -- more is known later
  later-rises : (more : List Event) → horizon core feed ≤ℤ horizon core (after_all more feed)
  later-rises more = subst (λ (f : Feed). horizon core f ≤ℤ horizon core (after_all more f)) (sym is.feed_is) (fed-rises core is.events more valid.valid)

  later-fills : (more : List Event) → Fill lo hi (whole core (after_all more feed))
  later-fills more = snapshots-Fill (meant (after_all more feed)) lo hi (domain-some core valid.valid)

  -- what may be printed is what ends at the horizon or below it
  later-printed : (more : List Event) → printed core (after_all more feed) ≡ ended_by (horizon core (after_all more feed)) (whole core (after_all more feed))
  later-printed more =
      let all : fed core (is.events ++ more) ≡ after_all more feed = after_all-append is.events more (empty_feed (length core.inputs)) ∙ ap (after_all more) (sym is.feed_is) in
      subst (λ (f : Feed). printed core f ≡ ended_by (horizon core f) (whole core f)) all (fed-printed_at_rest core (is.events ++ more) valid.valid (looks-near accepted valid))

  meant-changes : (f : Feed) → ChangesOnlyAtMarks (meant f)
  meant-changes f = meaning-changes (all_resting f) core.defs (definitions-AreGrids (length core.inputs) core.defs valid.valid.definitions) (emitted_number core)

  -- if rows were kept
  module _ (kept : AreLeft first feed.inputs inputs) where
    feed-closed : feed.finished ≡ true → AreClosed feed.inputs
    feed-closed =
        subst (λ (f : Feed). f.finished ≡ true → AreClosed f.inputs) (sym is.feed_is)
        (after_all-closed is.events (empty_feed (length core.inputs)) (λ e. absurd (cc e)))

    kept-closed : finished ≡ true → AreClosed inputs
    kept-closed end = left-closed kept.gone inputs (subst AreClosed kept.is (feed-closed (sym is.finished_is ∙ end)))

    later-is : (more : List Event) → after_all more feed ≡ whole_feed kept.gone (after_all more left)
    later-is more =
        let now : feed ≡ whole_feed kept.gone left =
        (λ i. record { inputs = kept.is i; finished = sym is.finished_is i })
        ∙ ap (whole_feed kept.gone) (sym (known-is finished inputs kept-closed)) in
        ap (after_all more) now ∙ whole-after_all kept.gone more left

    kept-fault : (more : List Event) (event : Event) → event_fault (after_all more left) event ≡ event_fault (after_all more feed) event
    kept-fault more event = sym (whole-fault kept.gone (after_all more left) event) ∙ sym (ap (λ (f : Feed). event_fault f event) (later-is more))

    kept-horizon : (more : List Event) → horizon core (after_all more left) ≡ horizon core (after_all more feed)
    kept-horizon more =
        ap (λ (hs : List Horizon). clipped hi (horizon_of (with_horizons hs core.defs) (emitted_number core)))
        (sym (whole-horizons kept.gone (after_all more left)) ∙ sym (ap horizons_of (later-is more)))

    -- they give what the whole feed gives after the tick
    kept-gives : (more : List Event) → snapshots (meant (after_all more left)) from hi ≡ snapshots (meant (after_all more feed)) from hi
    kept-gives more =
        let rest = after_all more left in
        let back = (margins-reach core accepted.margins valid.near).0 in
        let behind : AreBehind (from +ℤ pos 1 -ℤ accepted.margins.back) (all_resting (after_all more feed)) (all_resting rest) =
        subst (λ (f : Feed). AreBehind (from +ℤ pos 1 -ℤ accepted.margins.back) (all_resting f) (all_resting rest)) (sym (later-is more))
        (subst (λ (b : ℤ). AreBehind (from +ℤ pos 1 -ℤ b) (all_resting (whole_feed kept.gone rest)) (all_resting rest)) back
        (resting-behind first kept.gone rest.inputs kept.below)) in
        sym (left-gives core accepted.margins valid.valid valid.near valid.within from hi (all_resting (after_all more feed)) (all_resting rest)
        (length-map (after_all more feed).inputs resting ∙ later-many more) behind)

  -- rows were kept of a feed that isn't finished
  rows-kept : feed.finished ≡ false → AreLeft first feed.inputs inputs
  rows-kept unfinished = is.inputs_are (λ end. absurd (let both = sym unfinished ∙ end in cc both))

  left-finished : feed.finished ≡ true → left.finished ≡ true
  left-finished end = by finished (is.finished_is ∙ end)
    where
      by : (b : Bool) → b ≡ true → (known_feed b inputs).finished ≡ true
      by true is = refl
      by false is = is

  -- the same events are allowed
  pub same-fault : (more : List Event) (event : Event) → event_fault (after_all more left) event ≡ event_fault (after_all more feed) event
  same-fault more event = elim (cases_Bool feed.finished) [
    | inl end ↦
        let left_end = left-finished end in
        ap (λ (f : Feed). event_fault f event) (finished-after more left left_end)
        ∙ finished-fault left event left_end
        ∙ sym (finished-fault feed event end)
        ∙ sym (ap (λ (f : Feed). event_fault f event) (finished-after more feed end))
    | inr unfinished ↦ kept-fault (rows-kept unfinished) more event
  ]

  -- and as much is known
  pub same-horizon : (more : List Event) → horizon core (after_all more left) ≡ horizon core (after_all more feed)
  same-horizon more = elim (cases_Bool feed.finished) [
    | inl end ↦
        let left_end = left-finished end in
        ap (horizon core) (finished-after more left left_end)
        ∙ horizon-end core left left_end
        ∙ sym (horizon-end core feed end)
        ∙ sym (ap (horizon core) (finished-after more feed end))
    | inr unfinished ↦ kept-horizon (rows-kept unfinished) more
  ]

  module _ (low : lo ≤ℤ from) (high : from ≤ℤ hi) (code : CodeParts) (code_is : IsCodeFrom core accepted.fuse (start_of core from) code) where
    run-is : (more : List Event) → run_at_rest code (after_all more left) ≡ snapshots (meant (after_all more left)) (start_of core from) hi
    run-is more = code_is.means (all_resting (after_all more left)) (length-map (after_all more left).inputs resting ∙ left-many more)

    -- if some of the output comes after the tick
    pub run-gives : (more : List Event) → from <ℤ hi → run_at_rest code (after_all more left) ≡ snapshots (meant (after_all more feed)) from hi
    run-gives more some =
        let at : start_of core from ≡ from = grind (arith, ints, clamps) in
        run-is more ∙ ap (λ (t : ℤ). snapshots (meant (after_all more left)) t hi) at ∙ kept-gives (is.inputs_are (λ end. some)) more

    -- if none of it does, the run has one snapshot, and it was returned
    run-one : (more : List Event) → hi ≤ℤ from → run_at_rest code (after_all more left) ≡ snapshot_on (meant (after_all more left)) (hi -ℤ pos 1) ((hi -ℤ pos 1) +ℤ pos 1) ∷ []
    run-one more past =
        let at : start_of core from ≡ hi -ℤ pos 1 = grind (arith, ints, clamps) in
        run-is more ∙ ap (λ (t : ℤ). snapshots (meant (after_all more left)) t hi) at ∙ one-tick (meant (after_all more left)) (hi -ℤ pos 1) hi (omega (arith, ints))

    run-ended : (more : List Event) (tick : ℤ) → hi ≤ℤ from → hi ≤ℤ tick → length (ended_by tick (run_at_rest code (after_all more left))) ≡ 1
    run-ended more tick past known =
        let s = snapshot_on (meant (after_all more left)) (hi -ℤ pos 1) ((hi -ℤ pos 1) +ℤ pos 1) in
        ap (λ (list : List Snapshot). length (ended_by tick list)) (run-one more past) ∙ ap length (one-ended tick s (omega (arith, ints)))

    all-known : (more : List Event) → hi ≤ℤ from → hi ≤ℤ horizon core (after_all more feed)
    all-known more past = let now = is.known past in let rises = later-rises more in omega (arith, ints, now, rises)

    before-none : from <ℤ hi → returned_before core code from left ≡ 0
    before-none some = let test : int_lt from hi ≡ true = grind (arith, ints) in rw test refl

    pub before-one : hi ≤ℤ from → returned_before core code from left ≡ 1
    before-one past =
        let test : int_lt from hi ≡ false = grind (arith, ints) in
        let known : hi ≤ℤ horizon core left = subst (λ (t : ℤ). hi ≤ℤ t) (sym (same-horizon [])) (all-known [] past) in
        rw test (run-ended [] (horizon core left) past known)

    pub run-none : (more : List Event) → hi ≤ℤ from → drop (returned_before core code from left) (run_at_rest code (after_all more left)) ≡ []
    run-none more past =
        ap (λ (n : ℕ). drop n (run_at_rest code (after_all more left))) (before-one past)
        ∙ ap (drop 1) (run-one more past)

    pub run-some : (more : List Event) → from <ℤ hi
        → drop (returned_before core code from left) (run_at_rest code (after_all more left)) ≡ snapshots (meant (after_all more feed)) from hi
    run-some more some =
        ap (λ (n : ℕ). drop n (run_at_rest code (after_all more left))) (before-none some)
        ∙ drop-none (run_at_rest code (after_all more left))
        ∙ run-gives more some

    pub run-known : (more : List Event) → returned_before core code from left ≤ length (ended_by (horizon core (after_all more feed)) (run_at_rest code (after_all more left)))
    run-known more = elim (cases_Bool (int_lt from hi)) [
      | inl some ↦ (let none = before-none (grind (arith, ints)) in omega (arith, none))
      | inr past ↦
          let none : hi ≤ℤ from = grind (arith, ints) in
          let one = before-one none in
          let ended = run-ended more (horizon core (after_all more feed)) none (all-known more none) in
          omega (arith, one, ended)
    ]

    run-after : (more : List Event) → drop (returned_before core code from left) (run_at_rest code (after_all more left)) ≡ after_tick from (whole core (after_all more feed))
    run-after more = elim (cases_Bool (int_lt from hi)) [
      | inl some ↦ run-some more (grind (arith, ints)) ∙ snapshots-after (meant (after_all more feed)) (meant-changes (after_all more feed)) from lo hi low high
      | inr past ↦ (let none : hi ≤ℤ from = grind (arith, ints) in
          run-none more none ∙ sym (none-after from lo hi (whole core (after_all more feed)) (later-fills more) none))
    ]

    pub goes-on-after : GoesOnAfter core code from feed left (returned_before core code from left)
    goes-on-after = record {
      allowed = same-fault;
      known = same-horizon;
      rest = run-after;
      ended = run-known;
      printed = λ more.
          let returned = returned_before core code from left in
          let tick = horizon core (after_all more feed) in
          let run = run_at_rest code (after_all more left) in
          ap (λ (t : ℤ). drop returned (ended_by t run)) (same-horizon more)
          ∙ ended-drop tick returned run (run-known more)
          ∙ ap (ended_by tick) (run-after more)
          ∙ ended-after from tick lo hi (whole core (after_all more feed)) (later-fills more)
          ∙ ap (after_tick from) (sym (later-printed more));
    }
