use Rattle.std.proofs.Common.{rules}
use Rattle.tilt_magnitudes.proofs.Computed.{small_at}
use Rattle.tilt_magnitudes.proofs.met.marks_in.Goals as goal

pub push_definition-requires : goal.push_definition-requires
push_definition-requires c =
    small_at c.args.before c.loop-place.place c.args.defs.now c.index-defs-place.result c.requires (search rules) c.index-defs-place.is
