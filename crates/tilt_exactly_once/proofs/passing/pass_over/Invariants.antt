use Rattle.std.proofs.Common.{◌≡◌, ◌<◌, ◌≤◌, ◌-◌, length}
use Rattle.tilt_exactly_once.specs.Last.{last_of}
use Rattle.tilt_exactly_once.specs.Passing.{HasPassed}
use Rattle.tilt_exactly_once.proofs.passing.pass_over.Given as goal

abbrev pub invariant-loop : goal.invariant-loop
invariant-loop g l = record {
  space : 0 < length l.room;
  left : l.left ≤ l.fn.count;
  passed : g.P.Port.tells → HasPassed (l.fn.count - l.left) (λ passed. l.last.items ≡ last_of passed) (g.P.Port.transcript l.fn.port) (g.P.Port.transcript l.port);
  reads : (g.P.Port.transcript l.fn.port).read_faults ≤ (g.P.Port.transcript l.port).read_faults;
}
