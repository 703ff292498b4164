use Rattle.std.proofs.Common.{◌≡◌, drop}
use Rattle.tilt_reading_lines.specs.LineFields.{fields_in}
use Rattle.tilt_reading_lines.specs.Lines.{each_reading}
use Rattle.tilt_reading_lines.proofs.Each.{continued}
use Rattle.tilt_reading_lines.proofs.fields.read_each.Given as goal

abbrev pub invariant-loop-input : goal.invariant-loop-input
invariant-loop-input l =
    continued l.readings.items (each_reading l.rules (fields_in l.fields) l.tick l.input (drop l.input l.sources) (drop l.input l.places))
    ≡ each_reading l.fn.rules (fields_in l.fn.fields) l.fn.tick 0 l.fn.sources l.fn.places
