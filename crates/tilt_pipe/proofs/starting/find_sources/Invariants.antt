use Rattle.tilt_pipe.specs.Gathered.{HaveBegun}
use Rattle.tilt_pipe.proofs.starting.find_sources.Given as goal

abbrev pub invariant-loop-place : goal.invariant-loop-place
invariant-loop-place l = HaveBegun l.rings l.place l.turns
