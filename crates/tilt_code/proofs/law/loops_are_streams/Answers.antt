use Rattle.tilt_code.proofs.Constancy.{body_of-changes, loop_of-changes}
use Rattle.tilt_stream.proofs.Filling.{Fill-AreSnapshots}
use Rattle.tilt_code.proofs.Runs.{turns-stream, turns-Fill, with_buffers-streams, run-is, run-Fill, loops-timed}
use Rattle.tilt_code.proofs.Turns.{turns-are}
use Rattle.tilt_code.proofs.law.loops_are_streams.Goals as goal

pub returns-clause-body_changes : goal.returns-clause-body_changes
returns-clause-body_changes c = body_of-changes

pub returns-clause-loop_changes : goal.returns-clause-loop_changes
returns-clause-loop_changes c = loop_of-changes

pub returns-clause-turns : goal.returns-clause-turns
returns-clause-turns c = turns-are

pub returns-clause-stream : goal.returns-clause-stream
returns-clause-stream c = turns-stream

pub returns-clause-turns_fill : goal.returns-clause-turns_fill
returns-clause-turns_fill c = turns-Fill

pub returns-clause-buffers : goal.returns-clause-buffers
returns-clause-buffers c = λ code inputs timed. with_buffers-streams inputs code.loops timed

pub returns-clause-run : goal.returns-clause-run
returns-clause-run c = run-is

pub returns-clause-run_fills : goal.returns-clause-run_fills
returns-clause-run_fills c = run-Fill

pub returns-clause-within_limits : goal.returns-clause-within_limits
returns-clause-within_limits c = Fill-AreSnapshots

pub returns-clause-timed : goal.returns-clause-timed
returns-clause-timed c = λ code is. loops-timed code.loops is.grammatical.loops
