use Rattle.tilt_engine.proofs.Again.{HaveLooked}
use Rattle.tilt_engine.proofs.advancing.look_again_all.Given as goal

abbrev pub invariant-loop-state : goal.invariant-loop-state
invariant-loop-state l = HaveLooked l.state-index l.fn.states l.states
