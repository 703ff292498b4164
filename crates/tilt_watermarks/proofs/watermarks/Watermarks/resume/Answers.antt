use Rattle.std.proofs.Common.{◌∙◌, ℕ, List, Option, ap, subst, sym}
use Rattle.std.specs.List.{AllByRecursion}
use Rattle.tilt_watermarks.proofs.Resuming.{count-fit}
use Rattle.tilt_watermarks.specs.Held.{Waiting}
use Rattle.tilt_watermarks.specs.Laws.{IsFit}
use Rattle.tilt_watermarks.specs.Steps.{Kept, held_count}
use Rattle.tilt_watermarks.proofs.watermarks.Watermarks.resume.Goals as goal

pub of-requires-clause-fit : goal.of-requires-clause-fit
of-requires-clause-fit c =
    let same = c.deref.ensures.value ∙ ap (λ (k : Kept). k.inputs) c.kept.view_is in
    (c.args.options.lateness, subst (λ (inputs : List Waiting). AllByRecursion (IsFit c.args.options.lateness) inputs) (sym same) c.requires.fit)

pub invariant_of-result : goal.invariant_of-result
invariant_of-result c = record {
  none = λ is.
      let same = c.deref.ensures.value ∙ ap (λ (k : Kept). k.inputs) c.kept.view_is in
      let fit = subst (λ (lateness : Option ℕ). AllByRecursion (IsFit lateness) c.args.kept.now.inputs) is c.requires.fit in
      ap held_count (c.in_ok-lanes.ensures ∙ same) ∙ count-fit c.args.kept.now.inputs fit;
}
