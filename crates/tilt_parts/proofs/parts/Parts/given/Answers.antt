use Rattle.std.proofs.Common.{◌≡◌, ◌∙◌, length, refl, sym, ap}
use Rattle.std.proofs.lemmas.Option.{same_Some, slice_get_read}
use Rattle.tilt_parts.proofs.Output.{taken-counted}
use Rattle.tilt_parts.specs.Part.{PartValue}
use Rattle.tilt_parts.proofs.parts.Parts.given.Goals as goal

pub returns-clause-counted : goal.returns-clause-counted
returns-clause-counted c = λ query rows cuts steps are part here granted.
    let all = c.self.inside.parts.items in
    let at = slice_get_read all (length all) c.args.part c.index.result.now refl (rw c.self.view_is c.requires) c.index.ensures in
    let same : part ≡ c.index.result.now = same_Some part c.index.result.now (sym here ∙ (rw (← c.self.view_is) at)) in
    c.len.ensures ∙ ap (λ (p : PartValue). length p.taken) (c.behind-self.view_is ∙ sym same)
    ∙ taken-counted query rows steps cuts c.args.self.now are c.args.part part here granted
