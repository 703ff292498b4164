use Rattle.std.proofs.Common.{rules}
use Rattle.tilt_magnitudes.proofs.Computed.{small_at}
use Rattle.tilt_magnitudes.proofs.query.magnitudes_of.Goals as goal

pub push_magnitude-requires : goal.push_magnitude-requires
push_magnitude-requires c =
    small_at c.args.before c.loop-place.place _ c.index-defs-place.result c.loop-place.invariant.definitions (search rules) c.index-defs-place.is
