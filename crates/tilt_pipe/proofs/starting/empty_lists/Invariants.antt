use Rattle.tilt_pipe.specs.Gathered.{AreEmpty}
use Rattle.tilt_pipe.proofs.starting.empty_lists.Given as goal

abbrev pub invariant-loop : goal.invariant-loop
invariant-loop l = AreEmpty l.counter l.lists
