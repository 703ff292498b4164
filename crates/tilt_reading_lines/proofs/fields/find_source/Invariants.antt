use Rattle.std.proofs.Common.{◌≡◌, drop}
use Rattle.tilt_reading_lines.specs.Lines.{source_named}
use Rattle.tilt_reading_lines.proofs.fields.find_source.Given as goal

abbrev pub invariant-loop-input : goal.invariant-loop-input
invariant-loop-input l = source_named l.name l.input (drop l.input l.sources) ≡ source_named l.fn.name 0 l.fn.sources
