use Rattle.std.proofs.Common.{◌∙◌, ◌++◌, sym}
use Rattle.tilt_feed_text.specs.Split.{unfinished}
use Rattle.tilt_live_keys.proofs.Pieces.{ok-into}
use Rattle.tilt_serving.proofs.Reporting.{reports-whole}
use Rattle.tilt_live_keys.proofs.Running.{keyed-more, with-output}
use Rattle.tilt_live_keys.specs.Runs.{feed_after}
use Rattle.tilt_live_run.specs.Runs.{number_of}
use Rattle.tilt_live_keys.proofs.keyed_live.KeyedLiveFeedRun.feed.Goals as goal

pub take_piece-taken-requires-clause-runs : goal.take_piece-taken-requires-clause-runs
take_piece-taken-requires-clause-runs g c =
    let runs = c.requires.sound in
    (runs.0, number_of runs.1, feed_after runs.1, unfinished runs.1, with-output c.args.self.now c.clear.new.self _ _ _ _ runs.2)

pub returns-in_err-write-clause-reports : goal.returns-in_err-write-clause-reports
returns-in_err-write-clause-reports g c = λ recipe bytes is.
    let taken = c.take_piece-taken.ensures.taken recipe (number_of bytes) (feed_after bytes) (unfinished bytes)
    (with-output c.args.self.now c.clear.new.self _ _ _ _ is) in
    reports-whole _ _ _ _ _ _ c.from_residual.result (taken.reports.whole (sym c.is_lost.ensures ∙ c.if-is_lost.false))

pub returns-clause-goes_on : goal.returns-clause-goes_on
returns-clause-goes_on g c = λ recipe bytes is.
    let taken = c.take_piece-taken.ensures.taken recipe (number_of bytes) (feed_after bytes) (unfinished bytes)
    (with-output c.args.self.now c.clear.new.self _ _ _ _ is) in
    ok-into c.take_piece-taken.result _ _
    (λ of. keyed-more _ recipe bytes c.args.piece.now (with-output c.take_piece-taken.new.self c.take_piece-taken.new.self.lines.output _ _ _ _ of)) taken.goes_on

pub returns-clause-sound : goal.returns-clause-sound
returns-clause-sound g c =
    let runs = c.requires.sound in
    let taken = c.take_piece-taken.ensures.taken runs.0 (number_of runs.1) (feed_after runs.1) (unfinished runs.1)
    (with-output c.args.self.now c.clear.new.self _ _ _ _ runs.2) in
    ok-into c.take_piece-taken.result _ _
    (λ of. (
      runs.0,
      runs.1 ++ c.args.piece.now,
      keyed-more _ runs.0 runs.1 c.args.piece.now (with-output c.take_piece-taken.new.self c.take_piece-taken.new.self.lines.output _ _ _ _ of),
    )) taken.goes_on
