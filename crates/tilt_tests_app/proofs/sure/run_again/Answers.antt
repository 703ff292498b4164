use Rattle.std.proofs.Common.{rules, ◌≡◌, ◌++◌, ◌∙◌, true, [], length, ap, arith}
use Rattle.tilt_outside.specs.HeldFiles.{content_of}
use Rattle.tilt_outside.specs.MemSink.{SinkState}
use Rattle.tilt_outside.specs.SureSink.{SinkRoom}
use Rattle.tilt_printed.specs.Saving.{outcome_of}
use Rattle.tilt_cli.specs.Command.{command_of, texts}
use Rattle.tilt_tests_app.proofs.NeverFailing.{same_files, same_length, saves_nothing, unwatched}
use Rattle.tilt_tests_app.proofs.sure.run_again.Goals as goal

pub sure-requires-clause-room : goal.sure-requires-clause-room
sure-requires-clause-room c =
    let zero : c.tilt.result ≡ 0 = search rules in
    let done = c.tilt.ensures.does.done zero in
    let same =
    same_files _ _ _ _ _ _ _ _ _ _ _ _ (rw c.new-shelf.ensures at c.in_ok-hold.ensures.held) c.in_ok-hold-2.ensures.held (rw c.new-files.ensures at c.in_ok-hold-3.ensures.held)
    c.in_ok-hold-4.ensures.held in
    let theirs =
    unwatched _ _ _ _ c.new-3.ensures.items (texts c.args.words.now) (content_of c.hold-2.new.self.files) (outcome_of done.text done.save) (done.outcome tt) in
    let text_is : c.written.result.now ≡ done.text =
    c.written.ensures ∙ done.written tt ∙ ap (λ (s : SinkState). s.written ++ done.text) c.in_ok-out.ensures in
    let room : c.in_ok-text.text.room ≡ length c.written.result.now = ap (λ (s : SinkRoom). s.room) c.in_ok-text.ensures in
    λ text save outcome.
    let ours =
    unwatched _ _ _ _ c.new-5.ensures.items (texts c.args.words.now) (content_of c.hold-2.new.self.files) (outcome_of text save) (rw (← same) at outcome) in
    let one =
    c.outcome_is_one.ensures.one (texts c.args.words.now) (content_of c.hold-2.new.self.files) [] (outcome_of text save) (outcome_of done.text done.save) ours theirs in
    let long = same_length text done.text save done.save one in
    rw (room, text_is, long) (omega arith)

pub sure-requires-clause-saves : goal.sure-requires-clause-saves
sure-requires-clause-saves c =
    let yes : c.runs.result ≡ true = search rules in
    let runs = c.runs.ensures yes in
    λ text save outcome. absurd
    (saves_nothing (texts c.args.words.now) (content_of c.hold-4.new.self.files) [] runs.0 runs.1 runs.2 runs.3 (command_of c.in_ok-command.command)
    c.in_ok-command.ensures.command runs.4 c.in_ok-command.ensures.one text save (unwatched _ _ _ _ c.new-5.ensures.items (texts c.args.words.now) (content_of c.hold-4.new.self.files) _ outcome))
