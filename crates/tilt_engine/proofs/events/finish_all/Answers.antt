use Rattle.std.proofs.Common.{◌∙◌, refl, map}
use Rattle.std.proofs.lemmas.List.{append-nil, drop_all, take_all}
use Rattle.std.proofs.lemmas.List.Edits.{map_over_more}
use Rattle.tilt_engine.specs.Stock.{InletParts, finished_inlet}
use Rattle.tilt_engine.proofs.events.finish_all.Goals as goal

pub loop-input-preserved : goal.loop-input-preserved
loop-input-preserved c =
    let fin = λ (i : InletParts). finished_inlet i.input in
    rw (c.finish.ensures, ← c.input-item.is)
    (map_over_more fin c.args.inputs.now c.loop-input.inputs c.loop-input.input-index c.input-item.result c.loop-input-test.true c.loop-input.invariant c.input-item.is)

pub returns : goal.returns
returns c =
    let fin = λ (i : InletParts). finished_inlet i.input in
    let old = c.args.inputs.now in
    let index = c.loop-input.input-index in
    let past = c.loop-input-test.false in
    c.loop-input.invariant ∙ rw (take_all index old past, drop_all index old past, append-nil (map fin old)) refl
