use Rattle.std.proofs.Common.{◌≡◌, ◌-◌, take}
use Rattle.csv.specs.Records.{trim_end}
use Rattle.tilt_reading_lines.proofs.plain.back_start.Given as goal

abbrev pub invariant-bytes : goal.invariant-bytes
invariant-bytes l = trim_end (take (l.length - l.count) l.field) ≡ trim_end l.field
