use Rattle.std.proofs.Common.{◌≡◌, drop}
use Rattle.csv.specs.Records.{fields_of}
use Rattle.tilt_reading_lines.specs.Header.{place_of}
use Rattle.tilt_reading_lines.proofs.header.find_title.Given as goal

abbrev pub invariant-loop-place : goal.invariant-loop-place
invariant-loop-place l =
    place_of l.title l.place (drop l.place (fields_of l.row)) ≡ place_of l.fn.title l.fn.from (drop l.fn.from (fields_of l.fn.row))
