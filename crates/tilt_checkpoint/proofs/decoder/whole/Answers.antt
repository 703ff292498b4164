use Rattle.std.proofs.Common.{◌∙◌, sym, ap, subst}
use Rattle.std.proofs.lemmas.Int.{to_z-of_z}
use Rattle.std.specs.Int.{w64}
use Rattle.tilt_checkpoint.specs.Checkpoint.{BodyParts, with_query}
use Rattle.tilt_checkpoint.specs.Valid.{IsCheckpoint}
use Rattle.tilt_checkpoint.proofs.Rows.{time_fits}
use Rattle.tilt_checkpoint.proofs.decoder.whole.Goals as goal

pub new-requires : goal.new-requires
new-requires c =
    let view = c.body.view_is in
    let valid = subst (λ (b : BodyParts). IsCheckpoint (with_query c.args.query b)) (sym view) c.requires in
    rw (to_z-of_z w64 c.body.inside.cut (time_fits c.body.inside.cut valid.cut.0 valid.cut.1)) valid

pub returns : goal.returns
returns c =
    let view = c.body.view_is in
    let valid = subst (λ (b : BodyParts). IsCheckpoint (with_query c.args.query b)) (sym view) c.requires in
    let cut = to_z-of_z w64 c.body.inside.cut (time_fits c.body.inside.cut valid.cut.0 valid.cut.1) in
    c.new.ensures.value
    ∙ (λ i. record { query = c.args.query; cut = cut i; open_start = c.body.inside.open_start; series = c.body.inside.series.items })
    ∙ ap (with_query c.args.query) view
