use Rattle.std.proofs.Common.{arith}
use Rattle.tilt_fuse.specs.FusedTree.{fused_tree_of}
use Rattle.tilt_lower.proofs.Bounds.{registers-few, maps-few}
use Rattle.tilt_lower.proofs.definition_loop.loop_on.Goals as goal

pub block_of-requires-clause-few : goal.block_of-requires-clause-few
block_of-requires-clause-few c =
    let small = c.requires.small in
    omega (arith, registers-few (fused_tree_of c.args.tree.now))

pub block_of-requires-clause-few_maps : goal.block_of-requires-clause-few_maps
block_of-requires-clause-few_maps c =
    let small = c.requires.small in
    omega (arith, maps-few (fused_tree_of c.args.tree.now))
