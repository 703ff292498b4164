-- What is left becomes the fields after those that are there.
use Rattle.std.proofs.Common.{◌≡◌, ◌++◌, [], length, map}
use Rattle.csv.specs.Records.{fields_of, partial_of, trimmed}
use Rattle.tilt_reading_lines.specs.Plain.{words}
use Rattle.tilt_reading_lines.proofs.plain.split_fields.Given as goal

abbrev pub invariant-loop-word : goal.invariant-loop-word
invariant-loop-word l = record {
  partial : partial_of l.fields ≡ [];
  fields : fields_of l.fields ++ map trimmed (words l.delimiter l.rest) ≡ map trimmed (words l.delimiter l.fn.bytes);
}

abbrev pub decreases-loop-word : goal.decreases-loop-word
decreases-loop-word l = length l.rest
