use Rattle.std.proofs.Common.{◌≡◌, ◌++◌, [], ◌∷◌}
use Rattle.tilt_pipe.specs.Chain.{IsChain}
use Rattle.tilt_pipe.specs.Pulled.{IsPulled, given_in, steps_left}
use Rattle.tilt_pipe.proofs.pipe.pull.Given as goal

abbrev pub invariant-loop-snap : goal.invariant-loop-snap
invariant-loop-snap l =
    let before = l.fn.chain.rings in
    record {
      chain : IsChain l.chain;
      code : l.chain.rings.code ≡ before.code;
      inputs : l.chain.rings.inputs ≡ before.inputs;
      pulled : IsPulled (given_in before) l.chain.rings (l.asked.items ++ l.place ∷ []);
    }

abbrev pub decreases-loop-snap : goal.decreases-loop-snap
decreases-loop-snap l = steps_left (given_in l.fn.chain.rings) l.chain.rings (l.asked.items ++ l.place ∷ [])
