use Rattle.std.proofs.Common.{◌≡◌, length, take}
use Rattle.tilt_reading_options.specs.Texts.{parts_of}
use Rattle.tilt_reading_options.specs.Values.{items_of}
use Rattle.tilt_reading_options.proofs.form.split_text.Given as goal

abbrev pub invariant-loop-part : goal.invariant-loop-part
invariant-loop-part l = items_of l.parts.items ≡ take (length l.yielded) (parts_of l.text)
