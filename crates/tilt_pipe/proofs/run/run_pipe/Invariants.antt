use Rattle.std.proofs.Common.{◌≡◌, ◌-◌, false, length, take}
use Rattle.tilt_code.specs.References.{IsCode}
use Rattle.tilt_code.specs.Run.{run_of}
use Rattle.tilt_pipe.proofs.run.run_pipe.Given as goal

abbrev pub invariant-loop-list : goal.invariant-loop-list
invariant-loop-list l = record {
  is : IsCode l.fn.code;
  granted : l.pipe.refused ≡ false;
  code : l.pipe.code ≡ l.fn.code;
  inputs : l.pipe.inputs ≡ l.fn.inputs.items;
  taken : l.list ≡ take l.pipe.given (run_of l.fn.code l.fn.inputs.items);
}

abbrev pub decreases-loop-list : goal.decreases-loop-list
decreases-loop-list l = length (run_of l.fn.code l.fn.inputs.items) - l.pipe.given
