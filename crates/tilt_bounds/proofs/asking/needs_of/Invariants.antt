use Rattle.std.proofs.Common.{◌≡◌, ◌+◌, ◌-◌, ◌*◌, ◌^◌, drop, length, pos}
use Rattle.tilt_core.specs.Needs.{needs}
use Rattle.tilt_bounds.specs.Margins.{AreWithin, evenly}
use Rattle.tilt_bounds.proofs.asking.needs_of.Given as goal

abbrev pub invariant-loop-done : goal.invariant-loop-done
invariant-loop-done l = record {
  so_far : (let place = length l.defs - l.done in l.asked.items ≡ needs (l.inputs + place) (drop place l.defs));
  bounded : AreWithin (evenly (pos (2 ^ 65 * l.done))) l.asked.items;
}
