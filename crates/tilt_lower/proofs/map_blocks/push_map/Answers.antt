-- A map reads no buffer, so that its block is the same whatever their numbers are.
use Rattle.std.proofs.Common.{◌∙◌, ◌++◌, ◌∷◌, [], List, Global, Vec, map, ap, arith}
use Rattle.std.proofs.lemmas.List.{map-append}
use Rattle.tilt_code.specs.declared.instr.Instr.{Instr}
use Rattle.tilt_fuse.specs.FusedTree.{fused_tree_of}
use Rattle.tilt_lower.proofs.Blocks.{map_block-any}
use Rattle.tilt_lower.proofs.Bounds.{registers-few, map-plain}
use Rattle.tilt_lower.proofs.map_blocks.push_map.Goals as goal

pub block_of-requires-clause-few : goal.block_of-requires-clause-few
block_of-requires-clause-few c = omega (arith, registers-few (fused_tree_of c.args.tree.now), c.requires.small)

pub block_of-requires-clause-few_maps : goal.block_of-requires-clause-few_maps
block_of-requires-clause-few_maps c = omega (arith, map-plain (fused_tree_of c.args.tree.now) c.requires.is_map)

pub returns-clause-maps : goal.returns-clause-maps
returns-clause-maps c =
    let same = c.in_ok-block_of.ensures.block ∙ map_block-any _ (λ source. source) (fused_tree_of c.args.tree.now) c.requires.is_map 0 0 in
    ap (map (λ (m : Vec Instr Global). m.items)) c.in_ok-push.ensures.items ∙ map-append (λ (m : Vec Instr Global). m.items) c.args.made.now.items _
    ∙ ap (λ (block : List Instr). map (λ (m : Vec Instr Global). m.items) c.args.made.now.items ++ block ∷ []) same
