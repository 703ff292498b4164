-- The lines so far are those of the loops so far.
use Rattle.std.proofs.Common.{◌≡◌, ◌++◌, map, take}
use Rattle.std.specs.List.{flat_map}
use Rattle.tilt_code.specs.Line.{line_text}
use Rattle.tilt_code.specs.Listing.{ended, loop_lines}
use Rattle.tilt_code.proofs.listing.put_loops.Given as goal

abbrev pub invariant-loop-each : goal.invariant-loop-each
invariant-loop-each l =
    l.text.items ≡ l.fn.text.items ++ ended (map line_text (flat_map loop_lines (take l.each-index l.loops)))
