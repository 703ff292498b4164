use Rattle.std.proofs.Common.{map, sym, arith}
use Rattle.tilt_pipe.proofs.Telling.{input-forgotten}
use Rattle.tilt_pipe.specs.Positions.{RingParts}
use Rattle.tilt_pipe.proofs.rings.RingsBuffers.first_kept.Goals as goal

pub returns-in_default : goal.returns-in_default
returns-in_default c =
    rw (← c.self.view_is)
    (sym (input-forgotten c.self.inside.inputs.items (map (λ (r : RingParts). r.forgotten) c.self.inside.rings.items) c.args.buffer
    (grind arith)))
