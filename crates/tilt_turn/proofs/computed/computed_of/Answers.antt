use Rattle.std.proofs.Common.{◌∙◌, sym, ap, pos, [], ◌∷◌, ◌++◌, take, get_or, arith}
use Rattle.std.proofs.lemmas.List.{length-take, take_more, take_all}
use Rattle.tilt_code.specs.declared.instr.Instr.TheVariants.{Const}
use Rattle.tilt_turn.proofs.Picked.{picked-push}
use Rattle.tilt_turn.specs.Picked.{computes, picked}
use Rattle.tilt_turn.proofs.computed.computed_of.Goals as goal

pub loop-place-preserved : goal.loop-place-preserved
loop-place-preserved c =
    let body = c.args.body.now in
    let i = c.loop-place.place in
    let instr = get_or body i (Const (pos 0)) in
    let test = c.loop-place-test.true in
    let count = length-take i body in
    c.in_ok-add_computed.ensures ∙ ap (λ all. all ++ picked computes i (instr ∷ [])) c.loop-place.invariant
    ∙ sym (ap (picked computes 0) (take_more body i (Const (pos 0)) test)
    ∙ picked-push computes 0 i (take i body) instr (omega arith))

pub returns : goal.returns
returns c = c.loop-place.invariant ∙ ap (picked computes 0) (take_all c.loop-place.place c.args.body.now c.loop-place-test.false)
