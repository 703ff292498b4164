use Rattle.std.proofs.Common.{◌≡◌, ◌∙◌, ◌≤ℤ◌, ℤ, List, false, map, FitsSigned, ap, rules, subst, to_z, of_z, to_z-of_z, w64}
use Rattle.tilt_checkpoint.specs.Decided.{first_kept, frame_of}
use Rattle.tilt_checkpoint.specs.declared.frame.Frame.{Frame}
use Rattle.tilt_compiler.specs.Accepted.{IsAccepted}
use Rattle.tilt_feed.specs.Feed.{InputFeed}
use Rattle.tilt_live.specs.Resuming.{IsStarted, known_feed}
use Rattle.tilt_live_start.proofs.Checkpoints.{resumed-session}
use Rattle.tilt_live_start.proofs.Frames.{end-of-frame, start-of-frame}
use Rattle.tilt_live_start.specs.Seen.{kept_input, tick_from}
use Rattle.tilt_live_start.specs.declared.live_session.LiveSession.{LiveSession}
use Rattle.tilt_types.specs.Checked.{core_of}
use Rattle.tilt_live_start.proofs.live_session.LiveSession.resume.Goals as goal

pub kept_inputs-requires : goal.kept_inputs-requires
kept_inputs-requires c =
    (first_kept (frame_of (core_of c.args.checkpoint.query)) c.args.checkpoint.cut, rw c.into_parts-series.ensures.series c.into_parts-series.ensures.valid.series)

pub resume-requires-clause-low : goal.resume-requires-clause-low
resume-requires-clause-low c =
    let fits : FitsSigned w64 c.tick_from-from.result = search rules in
    let frame = c.new-frame.ensures.frame ∙ ap frame_of c.core.ensures.value in
    let start = ap (λ (f : Frame). f.start) frame ∙ start-of-frame c.args.accepted.core in
    rw (to_z-of_z fits) (subst (λ (t : ℤ). t ≤ℤ c.tick_from-from.result) start c.tick_from-from.ensures.low)

pub resume-requires-clause-high : goal.resume-requires-clause-high
resume-requires-clause-high c =
    let fits : FitsSigned w64 c.tick_from-from.result = search rules in
    let frame = c.new-frame.ensures.frame ∙ ap frame_of c.core.ensures.value in
    let end = ap (λ (f : Frame). f.end) frame ∙ end-of-frame c.args.accepted.core in
    rw (to_z-of_z fits) (subst (λ (t : ℤ). c.tick_from-from.result ≤ℤ t) end c.tick_from-from.ensures.high)

pub returns-clause-session : goal.returns-clause-session
returns-clause-session c = λ rows of.
    let accepted = c.args.accepted in
    let checkpoint = c.args.checkpoint in
    let session : LiveSession = record { live = c.in_ok-live.live; open_start = c.open_start-open_start.result } in
    let valid : IsAccepted accepted = rw (← c.accepted.view_is) c.accepted.invariant.0 in
    let fits : FitsSigned w64 c.tick_from-from.result = search rules in
    let cut_fits : FitsSigned w64 c.cut.result = search rules in
    let frame = c.new-frame.ensures.frame ∙ ap frame_of c.core.ensures.value in
    let tick = rw (to_z-of_z cut_fits) at c.tick_from-from.ensures.value in
    let from : to_z w64 (of_z w64 c.tick_from-from.result) ≡ tick_from (frame_of accepted.core) checkpoint.cut =
    to_z-of_z fits ∙ tick ∙ (λ i. tick_from (frame i) (c.cut.ensures.value i)) in
    let inputs : c.deref.result.now ≡ map kept_input checkpoint.series =
    c.deref.ensures.value ∙ c.in_ok-inputs.ensures ∙ ap (map kept_input) c.into_parts-series.ensures.series in
    let started =
    subst (λ (list : List InputFeed). IsStarted session.live accepted (tick_from (frame_of accepted.core) checkpoint.cut) (known_feed false list)) inputs
    (subst (λ (t : ℤ). IsStarted session.live accepted t (known_feed false c.deref.result.now)) from c.in_ok-live.ensures.started) in
    resumed-session accepted valid checkpoint c.requires.core c.cut.ensures.valid rows of session started c.open_start-open_start.ensures.value
