use Rattle.std.proofs.Common.{◌≡◌, ◌∙◌, length, refl, sym, ap}
use Rattle.std.proofs.lemmas.Option.{same_Some, slice_get_read}
use Rattle.tilt_parts.proofs.Output.{finished-taken, taken-finished}
use Rattle.tilt_parts.specs.Part.{is_finished}
use Rattle.tilt_parts.proofs.parts.Parts.finished.Goals as goal

pub returns-clause-all : goal.returns-clause-all
returns-clause-all c = λ query rows cuts steps are part here granted.
    let all = c.self.inside.parts.items in
    let at = slice_get_read all (length all) c.args.part c.index.result.now refl (rw c.self.view_is c.requires) c.index.ensures in
    let same : part ≡ c.index.result.now = same_Some part c.index.result.now (sym here ∙ (rw (← c.self.view_is) at)) in
    let is : c.is_finished.result ≡ is_finished part = c.is_finished.ensures ∙ ap is_finished (sym same) in (
      λ yes. finished-taken query rows steps cuts c.args.self.now are c.args.part part here granted (sym is ∙ yes),
      λ many. is ∙ taken-finished query rows steps cuts c.args.self.now are c.args.part part here granted many,
    )

pub returns-clause-kept : goal.returns-clause-kept
returns-clause-kept c = rw (← c.self.view_is) c.self.invariant
