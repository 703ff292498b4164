use Rattle.std.proofs.Common.{◌≡◌, ◌+◌, ◌≤◌, ◌*◌, ◌^◌, drop, map}
use Rattle.tilt_pipe.specs.Positions.{RingParts}
use Rattle.tilt_pipe.specs.Rings.{held}
use Rattle.tilt_pipe.proofs.rings.Rings.held.Given as goal

abbrev pub invariant-loop-ring : goal.invariant-loop-ring
invariant-loop-ring l = record {
  sum : l.held + held (map (λ (r : RingParts). r.held) (drop l.ring-index l.ring-items)) ≡ held
      (map (λ (r : RingParts). r.held) l.self.rings);
  few : l.held ≤ l.ring-index * 2 ^ 64;
}
