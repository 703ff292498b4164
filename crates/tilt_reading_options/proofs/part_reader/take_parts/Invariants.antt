use Rattle.std.proofs.Common.{◌≡◌, Some, length, take}
use Rattle.tilt_reading_options.specs.Parts.{after_parts}
use Rattle.tilt_reading_options.specs.Texts.{parts_of}
use Rattle.tilt_reading_options.proofs.part_reader.take_parts.Given as goal

abbrev pub invariant-loop-part : goal.invariant-loop-part
invariant-loop-part g l =
    after_parts (g.R.PartReader.with_part l.reader) l.fn.table (take (length l.yielded) (parts_of l.text)) ≡ Some l.table
