-- A feed of the rows that sessions saw, up to their cuts: what the sessions printed, and what comes after it.
use Rattle.std.proofs.Common.{◌≡◌, ℕ, suc, ℤ, pos, neg_ℤ, ◌-ℤ◌, ◌≤ℤ◌, ◌<ℤ◌, Bool, true, false, List, [], ◌∷◌, ◌++◌, length, map, drop, Option, Some, None, Contains, refl, sym, ap, ◌∙◌, subst}
use Rattle.std.proofs.Common.{arith, append-nil}
use Rattle.std.proofs.lemmas.Int.{ints, clamps, by_lt_z}
use Rattle.std.proofs.lemmas.List.{length-map}
use Rattle.std.specs.Int.{int_max}
use Rattle.std.specs.List.{AllByRecursion}
use Rattle.std.specs.Prelude.{if◌then◌else◌, int_le, int_lt}
use Rattle.tilt_base.proofs.Lists.{all-contains}
use Rattle.tilt_base.specs.declared.limits.TheConstants.{T}
use Rattle.tilt_checkpoint.proofs.Leasts.{least_of, least_of-is}
use Rattle.tilt_checkpoint.specs.Cuts.{CutsParts, IsCut, IsLeast}
use Rattle.tilt_checkpoint.specs.Decided.{decided, first_kept, frame_of}
use Rattle.tilt_checkpoint.specs.declared.frame.Frame.{Frame}
use Rattle.tilt_code.specs.Code.{CodeParts}
use Rattle.tilt_compiler.specs.Accepted.{AcceptedParts, IsAccepted}
use Rattle.tilt_compiler.specs.Compiled.{given}
use Rattle.tilt_core.proofs.Constancy.{definitions-AreGrids, meaning-changes}
use Rattle.tilt_core.specs.Core.{CoreParts, emitted_number}
use Rattle.tilt_core.specs.Meaning.{meaning}
use Rattle.tilt_core.specs.Needs.{reach}
use Rattle.tilt_engine.proofs.Gone.{drop-front, ends-later}
use Rattle.tilt_engine.specs.AtRest.{run_at_rest}
use Rattle.tilt_engine.specs.Gone.{EndsBelow}
use Rattle.tilt_feed.proofs.AllAtRest.{AreSettled, fed-printed_at_rest, fed-settled, rest-same}
use Rattle.tilt_feed.proofs.Final.{fed-final, fed-rises}
use Rattle.tilt_feed.proofs.Following.{after_all-length}
use Rattle.tilt_feed.proofs.Known.{clipped-known}
use Rattle.tilt_feed.proofs.Same.{same-agree}
use Rattle.tilt_feed.proofs.Timely.{horizon-timely}
use Rattle.tilt_feed.specs.Events.{after_all}
use Rattle.tilt_feed.specs.Feed.{Feed, InputFeed, empty_feed, rows_now, watermarks}
use Rattle.tilt_feed.specs.Horizon.{horizon, horizon_of, horizons, output_domain}
use Rattle.tilt_feed.specs.Laws.{IsFinal, IsInOrder, ListGoesOn, fed}
use Rattle.tilt_feed.specs.Printed.{meaning_now, printed}
use Rattle.tilt_feed.specs.Resting.{all_resting, ended_by, meaning_at_rest, whole}
use Rattle.tilt_feed.specs.declared.event.Event.{Event}
use Rattle.tilt_input_state.specs.Resume.{end_of, first_read}
use Rattle.tilt_live.proofs.Ended.{ended-all, filled-end}
use Rattle.tilt_live.proofs.Lives.{looks-near}
use Rattle.tilt_live.specs.Lives.{IsCodeFrom}
use Rattle.tilt_live.specs.Resuming.{known_feed, returned_before, start_of}
use Rattle.tilt_live_start.proofs.Frames.{back-of-frame, end-of-frame, start-of-frame}
use Rattle.tilt_live_start.proofs.Kept.{seen-order}
use Rattle.tilt_live_start.proofs.Left.{run-known, run-none, run-some, same-fault, same-horizon}
use Rattle.tilt_live_start.specs.After.{AreLeft, IsLeftAt}
use Rattle.tilt_live_start.specs.Seen.{kept_input, seen_feed, seen_inputs, seen_upto, tick_from}
use Rattle.tilt_live_start.specs.Sessions.{GoesOnFrom, HasBegunBelow}
use Rattle.tilt_resume.proofs.Left.{kept-behind}
use Rattle.tilt_resume.proofs.Restored.{after_all-append, events-restore}
use Rattle.tilt_resume.proofs.Rises.{domain-some}
use Rattle.tilt_resume.specs.Restoring.{all_events}
use Rattle.tilt_session.proofs.Lists.{length-kept_each}
use Rattle.tilt_session.specs.Emitted.{emitted, open_at}
use Rattle.tilt_session.specs.Kept.{kept_each}
use Rattle.tilt_session.specs.Later.{resumed_at}
use Rattle.tilt_session.specs.declared.cut.Cut.TheVariants.{Upto}
use Rattle.tilt_stream.proofs.Cut.{snapshots-none}
use Rattle.tilt_stream.proofs.Filling.{Fill-up, snapshots-Fill}
use Rattle.tilt_stream.proofs.Joined.{snapshots-last, snapshots-parted}
use Rattle.tilt_stream.proofs.Snapped.{snapshots-agree}
use Rattle.tilt_stream.specs.Agreement.{ChangesOnlyAtMarks}
use Rattle.tilt_stream.specs.Pieces.{joined_from, last_start, without_last}
use Rattle.tilt_stream.specs.Snap.{AreRows, Fill, Snapshot, last_end}
use Rattle.tilt_stream.specs.Snapshots.{snapshots}
use Rattle.tilt_stream.specs.Stream.{Stream}

-- the inputs, one by one
seen-long : (cuts : List ℤ) (rows : List (List Snapshot)) → length cuts ≡ length rows → length (seen_inputs cuts rows) ≡ length rows
seen-long [] [] paired = refl
seen-long [] (r ∷ rows) paired = absurd (omega arith)
seen-long (cut ∷ cuts) [] paired = refl
seen-long (cut ∷ cuts) (r ∷ rows) paired = ap suc (seen-long cuts rows (omega arith))

seen-orders : (cuts : List ℤ) (rows : List (List Snapshot)) → AllByRecursion AreRows rows → AllByRecursion IsCut cuts → AllByRecursion IsInOrder (seen_inputs cuts rows)
seen-orders [] rows order within = tt
seen-orders (cut ∷ cuts) [] order within = tt
seen-orders (cut ∷ cuts) (r ∷ rows) order within = (seen-order cut r order.0 within.0, seen-orders cuts rows order.1 within.1)

seen-now : (cuts : List ℤ) (rows : List (List Snapshot)) → length cuts ≡ length rows → map rows_now (seen_inputs cuts rows) ≡ rows
seen-now [] [] paired = refl
seen-now [] (r ∷ rows) paired = absurd (omega arith)
seen-now (cut ∷ cuts) [] paired = refl
seen-now (cut ∷ cuts) (r ∷ rows) paired = λ i. append-nil r i ∷ seen-now cuts rows (omega arith) i

seen-low : (least : ℤ) (cuts : List ℤ) (rows : List (List Snapshot)) → AllByRecursion (λ cut. least ≤ℤ cut) cuts
    → AllByRecursion (λ tick. least ≤ℤ tick) (map (λ (a : InputFeed). a.edge.watermark) (seen_inputs cuts rows))
seen-low least [] rows low = tt
seen-low least (cut ∷ cuts) [] low = tt
seen-low least (cut ∷ cuts) (r ∷ rows) low = (let here = low.0 in grind (arith, ints, clamps), seen-low least cuts rows low.1)

-- the rows that weren't kept end below the first tick that is kept
seen-kept : (first : ℤ) (cuts : List ℤ) (rows : List (List Snapshot)) → AllByRecursion AreRows rows → AreLeft first (seen_inputs cuts rows) (map kept_input (kept_each first cuts rows))
seen-kept first [] rows order = record { gone = []; is = refl; below = tt }
seen-kept first (cut ∷ cuts) [] order = record { gone = []; is = refl; below = tt }
seen-kept first (cut ∷ cuts) (r ∷ rows) order =
    let b = kept-behind first (neg_ℤ T) T r order.0 in
    let rest = seen-kept first cuts rows order.1 in
    record {
      gone = b.gone ∷ rest.gone;
      is = λ i. record { rows = b.is i; edge = record { open_row = None; watermark = seen_upto cut (last_end r) } } ∷ rest.is i;
      below = (b.below, rest.below);
    }

all-later : (tick later : ℤ) (gone : List (List Snapshot)) → tick ≤ℤ later → AllByRecursion (λ (g : List Snapshot). AllByRecursion (EndsBelow tick) g) gone
    → AllByRecursion (λ (g : List Snapshot). AllByRecursion (EndsBelow later) g) gone
all-later tick later [] up below = tt
all-later tick later (g ∷ gone) up below = (ends-later tick later g up below.0, all-later tick later gone up below.1)

-- numbers have a least one, which isn't below a lower bound
has-least : (low : ℤ) (numbers : List ℤ) → AllByRecursion (λ n. low ≤ℤ n) numbers → (least : ℤ) × (low ≤ℤ least) × IsLeast least numbers
has-least low [] above = (low, omega (arith, ints), record { none_below = tt; among = λ some. absurd (some refl) })
has-least low (n ∷ numbers) above =
    let has : Contains (n ∷ numbers) n = (0, omega arith, refl) in
    let is = least_of-is n (n ∷ numbers) has in
    (least_of n (n ∷ numbers), all-contains (λ m. low ≤ℤ m) (n ∷ numbers) (least_of n (n ∷ numbers)) above (is.among (λ none. absurd (cc none))), is)

decided-rises : (frame : Frame) (cut later : ℤ) → cut ≤ℤ later → decided frame cut ≤ℤ decided frame later
decided-rises frame cut later up = grind (arith, ints, clamps)

-- all but the last of snapshots up to a tick end by any later one
ended-front : (tick lo mid : ℤ) (list rest : List Snapshot) → Fill lo mid list → mid ≤ℤ tick → ended_by tick (without_last list ++ rest) ≡ without_last list ++ ended_by tick rest
ended-front tick lo mid [] rest fill known = refl
ended-front tick lo mid (s ∷ []) rest fill known = refl
ended-front tick lo mid (s ∷ next ∷ list) rest fill known =
    let up = Fill-up s.end mid (next ∷ list) fill.2 in
    let test : int_le s.end tick ≡ true = grind (arith, ints) in
    rw test (ap (λ (l : List Snapshot). s ∷ l) (ended-front tick s.end mid (next ∷ list) rest fill.2 known))

-- a snapshot that began by a tick, and others from the tick on
begun-below : (tick start from hi : ℤ) (list : List Snapshot) → Fill from hi list → start ≤ℤ from → from <ℤ tick → HasBegunBelow tick (Some start) list
begun-below tick start from hi [] fill low known = tt
begun-below tick start from hi (s ∷ list) fill low known = let at = fill.0 in (omega (arith, ints), omega (arith, ints))

none-joined : (opened : Option ℤ) → joined_from opened [] ≡ []
none-joined None = refl
none-joined (Some start) = refl

module _ (accepted : AcceptedParts) (valid : IsAccepted accepted) (cuts : CutsParts) (rows : List (List Snapshot)) (order : AllByRecursion AreRows rows)
    (many : length rows ≡ length accepted.core.inputs) (paired : length cuts.each ≡ length rows) (within : AllByRecursion IsCut cuts.each)
    (low : AllByRecursion (λ each. cuts.least ≤ℤ each) cuts.each) where
  abbrev core : CoreParts
  core = accepted.core

  abbrev lo : ℤ
  lo = (output_domain core).start

  abbrev hi : ℤ
  hi = (output_domain core).end

  abbrev frame : Frame
  frame = frame_of core

  abbrev mid : ℤ
  mid = decided frame cuts.least

  abbrev from : ℤ
  from = tick_from frame cuts.least

  abbrev first : ℤ
  first = first_kept frame cuts.least

  abbrev done : List Snapshot
  done = emitted core rows (Upto cuts)

  abbrev opened : Option ℤ
  opened = open_at core rows (Upto cuts)

  abbrev seen : Feed
  seen = seen_feed cuts rows

  abbrev later : List Event → Feed
  later more = after_all more seen

  abbrev inputs : List InputFeed
  inputs = map kept_input (kept_each first cuts.each rows)

  abbrev front : List Snapshot
  front = given core rows lo mid

  abbrev meant : Feed → Stream
  meant f = meaning_at_rest core f (emitted_number core)

  abbrev events : List Event
  events = all_events 0 (seen_inputs cuts.each rows)

  start-is : frame.start ≡ lo
  start-is = start-of-frame core

  end-is : frame.end ≡ hi
  end-is = end-of-frame core

  back-is : frame.back ≡ (reach (length core.inputs) core.defs).back
  back-is = back-of-frame core

  some-ticks : lo <ℤ hi
  some-ticks = domain-some core valid.valid

  pub seen-fed : seen ≡ fed core events
  seen-fed =
      let long = seen-long cuts.each rows paired ∙ many in
      sym (
      ap (λ (n : ℕ). after_all events (empty_feed n)) (sym long)
      ∙ events-restore (seen_inputs cuts.each rows) (seen-orders cuts.each rows order within))

  later-fed : (more : List Event) → later more ≡ fed core (events ++ more)
  later-fed more = ap (after_all more) seen-fed ∙ sym (after_all-append events more (empty_feed (length core.inputs)))

  later-rises : (more : List Event) → horizon core seen ≤ℤ horizon core (later more)
  later-rises more = subst (λ (f : Feed). horizon core f ≤ℤ horizon core (after_all more f)) (sym seen-fed) (fed-rises core events more valid.valid)

  seen-many : length seen.inputs ≡ length core.inputs
  seen-many = seen-long cuts.each rows paired ∙ many

  -- all that the sessions decided is known
  decided-known : mid ≤ℤ horizon core seen
  decided-known =
      let least = has-least cuts.least (watermarks seen) (seen-low cuts.least cuts.each rows low) in
      let up = decided-rises frame cuts.least least.0 least.1 in
      let timely = horizon-timely core valid.valid seen least.0 seen-many least.2 in
      omega (arith, ints, up, timely)

  later-known : (more : List Event) → mid ≤ℤ horizon core (later more)
  later-known more = let now = decided-known in let up = later-rises more in omega (arith, ints, now, up)

  -- and stays as it is
  front-is : (more : List Event) → front ≡ snapshots (meant (later more)) lo mid
  front-is more =
      let number = emitted_number core in
      let now = meaning_now core seen number in
      let after_more = meaning_now core (later more) number in
      let seen_known = clipped-known hi (horizon_of (horizons core seen) number) mid decided-known in
      let then_known = clipped-known hi (horizon_of (horizons core (later more)) number) mid (later-known more) in
      let final = subst (λ (f : Feed). IsFinal core f (after_all more f)) (sym seen-fed) (fed-final core events more valid.valid) in
      let settled = subst (λ (f : Feed). AreSettled f.finished f.inputs) (sym (later-fed more)) (fed-settled (length core.inputs) (events ++ more)) in
      let rested = rest-same core valid.valid (later more) (after_all-length more seen ∙ seen-many) settled number in
      ap (λ (all : List (List Snapshot)). given core all lo mid) (sym (seen-now cuts.each rows paired))
      ∙ snapshots-agree now after_more lo mid (same-agree (horizon_of (horizons core seen) number) now after_more lo mid (final.same number) seen_known)
      ∙ snapshots-agree after_more (meant (later more)) lo mid
      (same-agree (horizon_of (horizons core (later more)) number) after_more (meant (later more)) lo mid rested then_known)

  meant-changes : (f : Feed) → ChangesOnlyAtMarks (meant f)
  meant-changes f = meaning-changes (all_resting f) core.defs (definitions-AreGrids (length core.inputs) core.defs valid.valid.definitions) (emitted_number core)

  -- what was printed before all of the output was decided, and which snapshot is open then
  done-some : mid <ℤ hi → done ≡ without_last front
  done-some some =
      let end = end-is in
      let test : int_lt mid frame.end ≡ true = grind (arith, ints) in
      let list = given core rows frame.start mid in
      ap (λ (b : Bool). if b then without_last list else list) test ∙ ap (λ (t : ℤ). without_last (given core rows t mid)) start-is

  opened-some : mid <ℤ hi → opened ≡ last_start front
  opened-some some =
      let end = end-is in
      let test : int_lt mid frame.end ≡ true = grind (arith, ints) in
      let list = given core rows frame.start mid in
      ap (λ (b : Bool). if b then last_start list else None) test ∙ ap (λ (t : ℤ). last_start (given core rows t mid)) start-is

  front-none : mid ≤ℤ lo → front ≡ []
  front-none none = snapshots-none (meaning rows core.defs (emitted_number core)) lo mid none

  -- what was printed then
  mid-most : mid ≤ℤ hi
  mid-most = let end = end-is in grind (arith, ints, clamps)

  done-all : hi ≤ℤ mid → done ≡ front
  done-all all =
      let end = end-is in
      let test : int_lt mid frame.end ≡ false = grind (arith, ints) in
      let list = given core rows frame.start mid in
      ap (λ (b : Bool). if b then without_last list else list) test ∙ ap (λ (t : ℤ). given core rows t mid) start-is

  opened-none : hi ≤ℤ mid → opened ≡ None
  opened-none all =
      let end = end-is in
      let test : int_lt mid frame.end ≡ false = grind (arith, ints) in
      let list = given core rows frame.start mid in
      ap (λ (b : Bool). if b then last_start list else None) test

  -- the tick from which the output goes on
  from-some : mid <ℤ hi → from ≡ int_max lo (mid -ℤ pos 1)
  from-some some =
      let end = end-is in
      let test : int_lt mid frame.end ≡ true = grind (arith, ints) in
      ap (λ (b : Bool). if b then resumed_at frame cuts.least else frame.end) test ∙ ap (λ (t : ℤ). int_max t (mid -ℤ pos 1)) start-is

  from-all : hi ≤ℤ mid → from ≡ hi
  from-all all =
      let end = end-is in
      let test : int_lt mid frame.end ≡ false = grind (arith, ints) in
      ap (λ (b : Bool). if b then resumed_at frame cuts.least else frame.end) test ∙ end-is

  pub from-low : lo ≤ℤ from
  from-low = by_lt_z mid hi
      (λ some. let at = from-some some in grind (arith, ints, clamps))
      (λ all. let at = from-all all in let ticks = some-ticks in omega (arith, ints, at, ticks))

  pub from-high : from ≤ℤ hi
  from-high = by_lt_z mid hi
      (λ some. let at = from-some some in let ticks = some-ticks in grind (arith, ints, clamps))
      (λ all. let at = from-all all in omega (arith, ints, at))

  from-below : mid <ℤ hi → from <ℤ hi
  from-below some = let at = from-some some in let ticks = some-ticks in grind (arith, ints, clamps)

  -- the whole output, after what was printed
  parts-some : (more : List Event) → mid <ℤ hi → whole core (later more) ≡ done ++ joined_from opened (snapshots (meant (later more)) from hi)
  parts-some more some =
      let x = meant (later more) in
      let printed_is = done-some some in
      let begins = opened-some some in
      by_lt_z lo mid
      (λ ahead.
      let at : from ≡ mid -ℤ pos 1 = (let from_is = from-some some in grind (arith, ints, clamps)) in
      snapshots-parted x (meant-changes (later more)) lo mid hi ahead (omega (arith, ints))
      ∙ (λ i. without_last (sym (front-is more) i) ++ joined_from (last_start (sym (front-is more) i)) (snapshots x (sym at i) hi))
      ∙ (λ i. sym printed_is i ++ joined_from (sym begins i) (snapshots x from hi)))
      (λ none.
      let at : from ≡ lo = (let from_is = from-some some in grind (arith, ints, clamps)) in
      let nothing = front-none none in
      let printed_none : done ≡ [] = printed_is ∙ ap without_last nothing in
      let begins_none : opened ≡ None = begins ∙ ap last_start nothing in
      (λ i. sym printed_none i ++ joined_from (sym begins_none i) (snapshots x (sym at i) hi)))

  parts-all : (more : List Event) → hi ≤ℤ mid → whole core (later more) ≡ done
  parts-all more all =
      let most = mid-most in
      let at : mid ≡ hi = omega (arith, ints, most) in
      ap (λ (t : ℤ). snapshots (meant (later more)) lo t) (sym at) ∙ sym (front-is more) ∙ sym (done-all all)

  -- what may be printed begins with it
  later-printed : (more : List Event) → printed core (later more) ≡ ended_by (horizon core (later more)) (whole core (later more))
  later-printed more =
      subst (λ (f : Feed). printed core f ≡ ended_by (horizon core f) (whole core f)) (sym (later-fed more))
      (fed-printed_at_rest core (events ++ more) valid.valid (looks-near accepted valid))

  done-ended : (more : List Event) (rest : List Snapshot) → mid <ℤ hi → ended_by (horizon core (later more)) (done ++ rest) ≡ done ++ ended_by (horizon core (later more)) rest
  done-ended more rest some =
      let tick = horizon core (later more) in
      subst (λ (l : List Snapshot). ended_by tick (l ++ rest) ≡ l ++ ended_by tick rest) (sym (done-some some))
      (by_lt_z lo mid
      (λ ahead. ended-front tick lo mid front rest (snapshots-Fill (meaning rows core.defs (emitted_number core)) lo mid ahead) (later-known more))
      (λ none. subst (λ (l : List Snapshot). ended_by tick (without_last l ++ rest) ≡ without_last l ++ ended_by tick rest) (sym (front-none none)) refl))

  pub done-first : (more : List Event) → ListGoesOn done (printed core (later more))
  done-first more =
      let tick = horizon core (later more) in
      by_lt_z mid hi
      (λ some.
      let rest = joined_from opened (snapshots (meant (later more)) from hi) in
      record {
        rest = ended_by tick rest;
        is = later-printed more ∙ ap (ended_by tick) (parts-some more some) ∙ done-ended more rest some;
      })
      (λ all.
      let fill = snapshots-Fill (meant (later more)) lo hi some-ticks in
      let known = later-known more in
      record {
        rest = [];
        is = later-printed more ∙ ended-all tick lo hi (whole core (later more)) (omega (arith, ints, known, all)) fill ∙ parts-all more all ∙ sym (append-nil done);
      })

  -- what a checkpoint keeps is enough after the tick
  pub left : IsLeftAt core seen from false inputs
  left =
      let kept = seen-kept first cuts.each rows order in
      let back = back-is in
      let start = start-is in
      let up : first ≤ℤ first_read core from = by_lt_z mid hi
      (λ some. let at = from-some some in grind (arith, ints, clamps))
      (λ all. let at = from-all all in let most = mid-most in let ticks = some-ticks in grind (arith, ints, clamps)) in
      record {
        events = events;
        feed_is = seen-fed;
        finished_is = refl;
        inputs_are = λ none. record { gone = kept.gone; is = kept.is; below = all-later first (first_read core from) kept.gone up kept.below };
        known = λ end. by_lt_z mid hi
            (λ some. let below = from-below some in absurd (omega (arith, ints, below, end)))
            (λ all. let known = decided-known in omega (arith, ints, known, all));
      }

  inputs-many : length inputs ≡ length core.inputs
  inputs-many = length-map (kept_each first cuts.each rows) kept_input ∙ length-kept_each first cuts.each rows paired ∙ many

  -- if nothing is open, all that was printed ends at that tick
  pub none-open : opened ≡ None → from ≡ end_of core done
  none-open none = by_lt_z mid hi
      (λ some. by_lt_z lo mid
      (λ ahead.
      let last = snapshots-last (meaning rows core.defs (emitted_number core)) lo mid ahead in
      let both = sym none ∙ opened-some some ∙ last.is in
      absurd (cc both))
      (λ low_mid.
      let at : from ≡ lo = (let from_is = from-some some in grind (arith, ints, clamps)) in
      at ∙ ap (end_of core) (sym (done-some some ∙ ap without_last (front-none low_mid)))))
      (λ all.
      let fill = snapshots-Fill (meant seen) lo hi some-ticks in
      from-all all ∙ sym (filled-end lo hi (whole core seen) fill) ∙ ap (end_of core) (parts-all [] all))

  -- so what a code gives of it goes on from what was printed
  module _ (code : CodeParts) (code_is : IsCodeFrom core accepted.fuse (start_of core from) code) where
    abbrev returned : ℕ
    returned = returned_before core code from (known_feed false inputs)

    abbrev rest_of : List Event → List Snapshot
    rest_of more = drop returned (run_at_rest code (after_all more (known_feed false inputs)))

    rest-some : (more : List Event) → mid <ℤ hi → rest_of more ≡ snapshots (meant (later more)) from hi
    rest-some more some = run-some accepted valid from seen false inputs left inputs-many from-low from-high code code_is more (from-below some)

    rest-all : (more : List Event) → hi ≤ℤ mid → rest_of more ≡ []
    rest-all more all =
        let at = from-all all in
        run-none accepted valid from seen false inputs left inputs-many from-low from-high code code_is more (omega (arith, ints, at))

    begun-there : (more : List Event) → HasBegunBelow (horizon core (later more)) opened (rest_of more)
    begun-there more =
        let known = later-known more in
        by_lt_z mid hi
        (λ some. by_lt_z lo mid
        (λ ahead.
        let last = snapshots-last (meaning rows core.defs (emitted_number core)) lo mid ahead in
        let high = last.high in
        let at : from ≡ mid -ℤ pos 1 = (let from_is = from-some some in grind (arith, ints, clamps)) in
        let fill = snapshots-Fill (meant (later more)) from hi (from-below some) in
        subst (λ (o : Option ℤ). HasBegunBelow (horizon core (later more)) o (rest_of more)) (sym (opened-some some ∙ last.is))
        (subst (HasBegunBelow (horizon core (later more)) (Some last.start)) (sym (rest-some more some))
        (begun-below (horizon core (later more)) last.start from hi (snapshots (meant (later more)) from hi) fill (omega (arith, ints, at, high)) (omega (arith, ints, at, known)))))
        (λ none. subst (λ (o : Option ℤ). HasBegunBelow (horizon core (later more)) o (rest_of more)) (sym (opened-some some ∙ ap last_start (front-none none))) tt))
        (λ all. subst (λ (o : Option ℤ). HasBegunBelow (horizon core (later more)) o (rest_of more)) (sym (opened-none all)) tt)

    pub goes-on-from : GoesOnFrom core code opened seen (known_feed false inputs) (length done) returned
    goes-on-from = record {
      allowed = same-fault accepted valid from seen false inputs left inputs-many;
      known = same-horizon accepted valid from seen false inputs left inputs-many;
      rest = λ more. by_lt_z mid hi
          (λ some.
          let list = joined_from opened (snapshots (meant (later more)) from hi) in
          ap (joined_from opened) (rest-some more some)
          ∙ sym (drop-front done list)
          ∙ ap (drop (length done)) (sym (parts-some more some)))
          (λ all.
          ap (joined_from opened) (rest-all more all)
          ∙ none-joined opened
          ∙ sym (drop-front done [])
          ∙ ap (drop (length done)) (append-nil done ∙ sym (parts-all more all)));
      ended = run-known accepted valid from seen false inputs left inputs-many from-low from-high code code_is;
      begun = begun-there;
    }
