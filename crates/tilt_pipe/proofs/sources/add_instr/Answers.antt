use Rattle.std.proofs.Common.{length}
use Rattle.tilt_pipe.proofs.Covered.{sources-input}
use Rattle.tilt_pipe.proofs.sources.add_instr.Goals as goal

pub returns-in_default-source : goal.returns-in_default-source
returns-in_default-source c = λ reads of.
    rw c.in-Some.ensures
    (sources-input (length c.args.rings.now.inputs) reads c.in-Some.read c.args.sources.now.items c.in_default-source.ensures of)
