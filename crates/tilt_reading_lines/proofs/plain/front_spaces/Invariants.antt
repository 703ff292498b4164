use Rattle.std.proofs.Common.{◌≡◌, drop}
use Rattle.csv.specs.Records.{trim_start}
use Rattle.tilt_reading_lines.proofs.plain.front_spaces.Given as goal

abbrev pub invariant-bytes : goal.invariant-bytes
invariant-bytes l = trim_start (drop l.at l.field) ≡ trim_start l.field
