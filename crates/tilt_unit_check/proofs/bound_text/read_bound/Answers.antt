use Rattle.std.proofs.Common.{◌∙◌, Some, None}
use Rattle.tilt_unit_check.proofs.Bounding.{by-parts}
use Rattle.tilt_unit_check.proofs.bound_text.read_bound.Goals as goal

pub returns-in_err-rate : goal.returns-in_err-rate
returns-in_err-rate c =
    c.from_residual-in_err-rate.ensures ∙ by-parts c.args.name c.args.scale c.args.text.now c.cut_at.result.0.now c.cut_at.result.1.now
    c.cut_at-2.result.0.now c.cut_at-2.result.1.now (Some c.in_ok-values.values) None c.cut_at.ensures.before c.cut_at.ensures.after
    c.cut_at-2.ensures.before c.cut_at-2.ensures.after c.in_ok-values.ensures c.in_err-rate.ensures

pub returns : goal.returns
returns c =
    by-parts c.args.name c.args.scale c.args.text.now c.cut_at.result.0.now c.cut_at.result.1.now c.cut_at-2.result.0.now c.cut_at-2.result.1.now
    (Some c.in_ok-values.values) (Some c.in_ok-rate.rate) c.cut_at.ensures.before c.cut_at.ensures.after c.cut_at-2.ensures.before c.cut_at-2.ensures.after
    c.in_ok-values.ensures c.in_ok-rate.ensures
