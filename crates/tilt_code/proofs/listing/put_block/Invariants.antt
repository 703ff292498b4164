-- The lines so far are those of the instructions so far.
use Rattle.std.proofs.Common.{◌≡◌, ◌++◌, map, take}
use Rattle.tilt_code.specs.Line.{line_text}
use Rattle.tilt_code.specs.Listing.{block_lines, ended}
use Rattle.tilt_code.proofs.listing.put_block.Given as goal

abbrev pub invariant-loop-register : goal.invariant-loop-register
invariant-loop-register l =
    l.text.items ≡ l.fn.text.items ++ ended (map line_text (block_lines 0 (take l.register l.block)))
