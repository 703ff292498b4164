use Rattle.std.proofs.Common.{◌≡◌, ◌∙◌, ap, map, sym}
use Rattle.tilt_code.specs.Code.{CodeParts, LoopParts}
use Rattle.tilt_pipe.proofs.Pulling.{rings-new, seen-of}
use Rattle.tilt_pipe.specs.Made.{stages_after}
use Rattle.tilt_pipe.specs.Pulled.{given_in, stages_in}
use Rattle.tilt_pipe.proofs.pipe.Pipe.new.Goals as goal

begun : (c : goal.After-new-2) → let p = c.in_ok-new.field-0.rings in (given_in p ≡ 0) × (stages_in p ≡ stages_after p.code p.inputs 0)
begun c =
    let it = c.in_ok-new.ensures in
    rings-new c.in_ok-new.field-0.rings it.valid
    (it.starts ∙ ap (λ (code : CodeParts). map (λ (l : LoopParts). l.lo) code.loops) (sym it.code))

pub invariant_of-result : goal.invariant_of-result
invariant_of-result c = λ _.
    let rings = c.in_ok-new.field-0.rings in
    record {
      exact = record {
        chain = c.in_ok-new.ensures.is;
        made = (begun c).1 ∙ ap (stages_after rings.code rings.inputs) (sym (begun c).0);
      };
      none_asked = c.new-2.ensures.items;
    }

pub returns : goal.returns
returns c =
    let it = c.in_ok-new.ensures in
    seen-of c.in_ok-new.field-0.rings c.args.code c.args.inputs.items 0 it.is.exact (begun c).1 (begun c).0 it.code it.inputs
