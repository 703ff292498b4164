use Rattle.std.proofs.Common.{map, length, ap, sym, ◌∙◌, subst}
use Rattle.std.proofs.lemmas.List.{length-map, take_all}
use Rattle.tilt_code.proofs.Runs.{loops-timed}
use Rattle.tilt_pipe.proofs.RingsKept.{empty_ring, empty-rings-are}
use Rattle.tilt_pipe.specs.Made.{works_of}
use Rattle.tilt_pipe.specs.Positions.{AreRingsOf}
use Rattle.tilt_pipe.proofs.rings.Rings.new.Goals as goal

pub invariant_of-result : goal.invariant_of-result
invariant_of-result c =
    let timed = loops-timed c.args.code.loops c.loops-each-items.ensures.code.grammatical.loops in
    let are = empty-rings-are (length c.args.inputs.items) c.args.inputs.items c.args.code.loops timed in
    let all = c.loop-each.invariant
    ∙ ap (map empty_ring)
    (take_all c.loop-each.each-index c.loops-each-items.result.now c.loop-each-test.false ∙ c.loops-each-items.ensures.loops) in
    record { inputs = c.requires; many = ap length all ∙ length-map c.args.code.loops empty_ring; rings = subst (AreRingsOf (works_of c.args.code c.args.inputs.items)) (sym all) are }
