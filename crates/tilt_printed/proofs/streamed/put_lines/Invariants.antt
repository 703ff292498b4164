use Rattle.std.proofs.Common.{◌≡◌, ◌≤◌, ◌-◌, length, take, Ok}
use Rattle.tilt_printed.specs.Prints.{Prints}
use Rattle.tilt_code.specs.Run.{run_of}
use Rattle.tilt_pipe.specs.Value.{pipe_after}
use Rattle.tilt_stream.specs.Text.{lines_of}
use Rattle.tilt_printed.proofs.streamed.put_lines.Given as goal

abbrev pub invariant-loop-pipe : goal.invariant-loop-pipe
invariant-loop-pipe g l =
    let code = l.fn.pipe.code in
    let rows = l.fn.pipe.inputs in
    record {
      is : l.pipe ≡ pipe_after code rows l.pipe.given;
      within : l.pipe.given ≤ length (run_of code rows);
      prints : Prints {T = Unit {0}} g.O.Sink.tells g.O.Sink.written g.O.Sink.faults g.O.Sink.takes l.initial.out l.out (lines_of (take l.pipe.given (run_of code rows))) (Ok tt);
    }

abbrev pub decreases-loop-pipe : goal.decreases-loop-pipe
decreases-loop-pipe g l = length (run_of l.fn.pipe.code l.fn.pipe.inputs) - l.pipe.given
