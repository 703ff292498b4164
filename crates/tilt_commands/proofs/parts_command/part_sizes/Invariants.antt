use Rattle.std.proofs.Common.{◌≡◌, length, map, take}
use Rattle.tilt_parts.specs.Part.{PartValue}
use Rattle.tilt_commands.proofs.parts_command.part_sizes.Given as goal

abbrev pub invariant-loop-part : goal.invariant-loop-part
invariant-loop-part l = l.sizes.items ≡ take l.part (map (λ (p : PartValue). length p.taken) l.parts)
