-- The lines that are left give what all lines give.
use Rattle.std.proofs.Common.{◌≡◌, ◌-◌}
use Rattle.tilt_checkpoint.specs.Reading.{behind_line, times}
use Rattle.tilt_live_state.proofs.reader.Reader.pass_lines.Given as goal

abbrev pub invariant-loop : goal.invariant-loop
invariant-loop l = times behind_line (l.count - l.counter) l.self ≡ times behind_line l.count l.fn.self
