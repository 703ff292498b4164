-- What is left gives what the whole text gives.
use Rattle.std.proofs.Common.{◌≡◌}
use Rattle.tilt_code.specs.Partial.{parts_of, read_from, read_text}
use Rattle.tilt_code.specs.Reading.{pieces}
use Rattle.tilt_code.proofs.reader.read_lines.Given as goal

abbrev pub invariant-loop-number : goal.invariant-loop-number
invariant-loop-number l =
    read_from l.number (record { code = parts_of l.code; bad = l.bad }) (pieces 10 l.left) ≡ read_text l.fn.bytes
