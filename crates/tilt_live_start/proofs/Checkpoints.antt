-- A live session after the checkpoint of rows is one of the feed of these rows.
use Rattle.std.proofs.Common.{◌≡◌, ◌≤◌, ℤ, false, List, [], ◌∷◌, length, map, take, Option, sym, ap, ◌∙◌, subst, arith, length-append}
use Rattle.std.proofs.Math.Seq.{take-append_seam}
use Rattle.std.specs.List.{AllByRecursion}
use Rattle.tilt_checkpoint.specs.Checkpoint.{CheckpointParts, KeptParts, cuts_kept, cuts_of}
use Rattle.tilt_checkpoint.specs.Cuts.{IsCut}
use Rattle.tilt_checkpoint.specs.Decided.{first_kept, frame_of}
use Rattle.tilt_checkpoint.specs.Valid.{IsCheckpoint, IsSeries}
use Rattle.tilt_compiler.specs.Accepted.{AcceptedParts, IsAccepted}
use Rattle.tilt_core.specs.Core.{CoreParts}
use Rattle.tilt_feed.specs.Events.{after_all}
use Rattle.tilt_feed.specs.Feed.{Feed}
use Rattle.tilt_feed.specs.Printed.{printed}
use Rattle.tilt_feed.specs.declared.event.Event.{Event}
use Rattle.tilt_input_state.specs.Resume.{end_of}
use Rattle.tilt_live.specs.Lives.{IsRunning}
use Rattle.tilt_live.specs.Resuming.{IsStarted, known_feed, returned_before}
use Rattle.tilt_live_start.proofs.Seen.{done-first, goes-on-from, none-open, seen-fed}
use Rattle.tilt_live_start.proofs.Steps.{if-none}
use Rattle.tilt_live_start.specs.Seen.{kept_input, seen_feed, seen_inputs, tick_from}
use Rattle.tilt_live_start.specs.Sessions.{GoesOnFrom, IsLiveSessionOf}
use Rattle.tilt_live_start.specs.declared.live_session.LiveSession.{LiveSession}
use Rattle.tilt_resume.specs.Restoring.{all_events}
use Rattle.tilt_session.proofs.Lists.{early-counted}
use Rattle.tilt_session.specs.Emitted.{emitted, open_at}
use Rattle.tilt_session.specs.Kept.{kept_each}
use Rattle.tilt_session.specs.Law.{IsCheckpointOf}
use Rattle.tilt_session.specs.declared.cut.Cut.TheVariants.{Upto}
use Rattle.tilt_stream.specs.Snap.{Snapshot}
use Rattle.tilt_types.specs.Checked.{core_of}

-- each input has a cut within the range of times
series-cuts : (first : ℤ) (series : List KeptParts) → AllByRecursion (IsSeries first) series → AllByRecursion IsCut (cuts_kept series)
series-cuts first [] are = tt
series-cuts first (k ∷ series) are = (are.0.cut, series-cuts first series are.1)

module _ (accepted : AcceptedParts) (valid : IsAccepted accepted) (c : CheckpointParts) (same : accepted.core ≡ core_of c.query) (is : IsCheckpoint c)
    (rows : List (List Snapshot)) (of : IsCheckpointOf c rows) where
  abbrev core : CoreParts
  core = accepted.core

  abbrev done : List Snapshot
  done = emitted core rows (Upto (cuts_of c))

  abbrev seen : Feed
  seen = seen_feed (cuts_of c) rows

  abbrev from : ℤ
  from = tick_from (frame_of core) c.cut

  many : length rows ≡ length core.inputs
  many = of.first.counted ∙ ap (λ (k : CoreParts). length k.inputs) (sym same)

  paired : length (cuts_kept c.series) ≡ length rows
  paired = early-counted (cuts_kept c.series) rows of.first.early

  within : AllByRecursion IsCut (cuts_kept c.series)
  within = series-cuts (first_kept (frame_of (core_of c.query)) c.cut) c.series is.series

  opened-same : c.open_start ≡ open_at core rows (Upto (cuts_of c))
  opened-same = ap (λ (d : CheckpointParts). d.open_start) of.is ∙ ap (λ (k : CoreParts). open_at k rows (Upto (cuts_of c))) (sym same)

  series-same : c.series ≡ kept_each (first_kept (frame_of core) c.cut) (cuts_kept c.series) rows
  series-same = ap (λ (d : CheckpointParts). d.series) of.is ∙ ap (λ (k : CoreParts). kept_each (first_kept (frame_of k) c.cut) (cuts_kept c.series) rows) (sym same)

  -- what the sessions printed comes first in what may be printed
  pub printed-first : (more : List Event) → done ≡ take (length done) (printed core (after_all more seen))
  printed-first more =
      let go = done-first accepted valid (cuts_of c) rows of.in_order many paired within is.least.none_below more in
      sym (ap (take (length done)) go.is ∙ take-append_seam done go.rest)

  done-within : length done ≤ length (printed core seen)
  done-within =
      let go = done-first accepted valid (cuts_of c) rows of.in_order many paired within is.least.none_below [] in
      omega (arith, ap length go.is ∙ length-append done go.rest)

  -- a live session whose engine started from what the checkpoint keeps
  pub resumed-session : (session : LiveSession) → IsStarted session.live accepted from (known_feed false (map kept_input c.series)) → session.open_start ≡ c.open_start
      → IsLiveSessionOf session accepted seen (length done)
  resumed-session session started opened =
      let kept = map kept_input (kept_each (first_kept (frame_of core) c.cut) (cuts_kept c.series) rows) in
      let left_is : known_feed false (map kept_input c.series) ≡ known_feed false kept = ap (λ (series : List KeptParts). known_feed false (map kept_input series)) series-same in
      let begins = opened ∙ opened-same in
      let goes = goes-on-from accepted valid (cuts_of c) rows of.in_order many paired within is.least.none_below started.code started.code_is in
      record {
        events = all_events 0 (seen_inputs (cuts_kept c.series) rows);
        feed_is = seen-fed accepted valid (cuts_of c) rows of.in_order many paired within is.least.none_below;
        code = started.code;
        left = known_feed false kept;
        returned = returned_before core started.code from (known_feed false kept);
        running = subst (λ (f : Feed). IsRunning session.live accepted started.code f (returned_before core started.code from f)) left_is started.running;
        goes_on =
            subst (λ (o : Option ℤ). GoesOnFrom core started.code o seen (known_feed false kept) (length done) (returned_before core started.code from (known_feed false kept)))
            (sym begins) goes;
        within = done-within;
        upto = if-none session.open_start _ (λ none.
            let ended = none-open accepted valid (cuts_of c) rows of.in_order many paired within is.least.none_below (sym begins ∙ none) in
            started.upto ∙ ended ∙ ap (end_of core) (printed-first []));
      }
