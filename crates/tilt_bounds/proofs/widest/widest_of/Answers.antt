use Rattle.std.proofs.Common.{◌∙◌, sym, take, drop}
use Rattle.tilt_core.specs.Needs.{body_needs}
use Rattle.tilt_bounds.proofs.Needs.{widest-append}
use Rattle.tilt_bounds.proofs.widest.widest_of.Goals as goal

pub returns : goal.returns
returns c =
    let front = c.split_at.ensures.front in
    let back = c.split_at.ensures.back in
    c.wider.ensures ∙ rw (c.widest_need.ensures, c.widest_body_need.ensures, front, back)
    (sym (widest-append (take c.args.inputs c.args.needs.now) (body_needs c.args.defs.now (drop c.args.inputs c.args.needs.now))))
