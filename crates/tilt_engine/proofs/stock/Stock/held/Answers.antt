use Rattle.std.proofs.Common.{◌∙◌, List, map, ap, arith}
use Rattle.tilt_engine.proofs.Shorter.{held-append}
use Rattle.tilt_engine.specs.Stock.{InletParts, MadeParts}
use Rattle.tilt_pipe.specs.Rings.{held}
use Rattle.tilt_engine.proofs.stock.Stock.held.Goals as goal

pub returns : goal.returns
returns c =
    let inputs = c.args.self.now.inputs.items in
    let loops = c.args.self.now.loops.items in
    let rows = c.rows_held.ensures.value ∙ ap (λ (list : List InletParts). held (map (λ (i : InletParts). i.input.rows) list)) c.deref.ensures.value in
    let made = c.made_held.ensures.value ∙ ap (λ (list : List MadeParts). held (map (λ (m : MadeParts). m.made) list)) c.deref-2.ensures.value in
    omega (arith, rows, made, held-append (map (λ (i : InletParts). i.input.rows) inputs) (map (λ (m : MadeParts). m.made) loops))
