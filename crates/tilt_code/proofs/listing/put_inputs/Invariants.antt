-- The lines so far are those of the names so far.
use Rattle.std.proofs.Common.{◌≡◌, ◌++◌, map, take}
use Rattle.tilt_code.specs.Line.{line_text}
use Rattle.tilt_code.specs.Listing.{ended}
use Rattle.tilt_code.specs.declared.line.Line.TheVariants.{Input}
use Rattle.tilt_code.proofs.listing.put_inputs.Given as goal

abbrev pub invariant-loop-name : goal.invariant-loop-name
invariant-loop-name l =
    l.text.items ≡ l.fn.text.items ++ ended (map line_text (map Input (take l.name-index l.names)))
