-- The lines so far are those of the maps so far.
use Rattle.std.proofs.Common.{◌≡◌, ◌++◌, map, take}
use Rattle.std.specs.List.{flat_map}
use Rattle.tilt_code.specs.Line.{line_text}
use Rattle.tilt_code.specs.Listing.{ended, map_lines}
use Rattle.tilt_code.proofs.listing.put_maps.Given as goal

abbrev pub invariant-loop-block : goal.invariant-loop-block
invariant-loop-block l =
    l.text.items ≡ l.fn.text.items ++ ended (map line_text (flat_map map_lines (map (λ m. m.items) (take l.block-index l.maps))))
