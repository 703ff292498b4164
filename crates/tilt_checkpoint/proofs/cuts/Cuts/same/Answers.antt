use Rattle.std.specs.Int.{w64}
use Rattle.std.proofs.lemmas.Int.{to_z-of_z}
use Rattle.tilt_checkpoint.proofs.Leasts.{cuts_same}
use Rattle.tilt_checkpoint.proofs.cuts.Cuts.same.Goals as goal

pub invariant_of-result : goal.invariant_of-result
invariant_of-result c = rw (c.in_ok-each.ensures, to_z-of_z w64 c.args.cut c.ranges.cut) (cuts_same c.args.cut c.args.inputs c.requires)
