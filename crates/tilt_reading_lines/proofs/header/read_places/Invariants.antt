use Rattle.std.proofs.Common.{◌≡◌, drop}
use Rattle.csv.specs.Records.{fields_of}
use Rattle.tilt_reading_lines.specs.Header.{input_columns}
use Rattle.tilt_reading_lines.proofs.Each.{placed}
use Rattle.tilt_reading_lines.proofs.header.read_places.Given as goal

abbrev pub invariant-loop-input : goal.invariant-loop-input
invariant-loop-input l =
    placed l.places.items (input_columns (fields_of l.row) l.input (drop l.input l.sources))
    ≡ input_columns (fields_of l.fn.row) 0 l.fn.sources
