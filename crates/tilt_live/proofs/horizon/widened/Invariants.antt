use Rattle.std.proofs.Common.{◌≡◌, ◌^◌, take}
use Rattle.std.specs.List.{AllByRecursion}
use Rattle.tilt_live.specs.Ticks.{IsWithin}
use Rattle.tilt_live.proofs.horizon.widened.Given as goal

abbrev pub invariant-loop-input : goal.invariant-loop-input
invariant-loop-input l = (l.wide.items ≡ take l.input-index l.inputs) × AllByRecursion (IsWithin (2 ^ 63)) l.wide.items
