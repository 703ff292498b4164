use Rattle.std.proofs.Common.{◌∙◌, ap, refl, subst}
use Rattle.tilt_bounds.specs.Margins.{IsTold, margins_of}
use Rattle.tilt_bounds.specs.declared.fault.ReachFault.{ReachFault}
use Rattle.tilt_bounds.specs.declared.fault.ReachFault.TheVariants.{TooFar}
use Rattle.tilt_core.specs.Core.{CoreParts, IsCore}
use Rattle.tilt_live_app.specs.Counting.{too_far, too_large}
use Rattle.tilt_overflows.specs.Watching.{watching_core}
use Rattle.tilt_live_app.proofs.counting.watch.Goals as goal

pub returns-in-Err-TooLarge : goal.returns-in-Err-TooLarge
returns-in-Err-TooLarge c =
    too_large (subst (λ (k : CoreParts). ¬ (IsCore (watching_core k))) c.core.ensures.value (c.in-Err-TooLarge.ensures c.in-Err-TooLarge.field-0-is))

pub returns-in-Ok-accept : goal.returns-in-Ok-accept
returns-in-Ok-accept c = record {
  core_is = c.in-Ok-accept.ensures.core ∙ (c.in-Ok.ensures ∙ ap watching_core c.core.ensures.value);
  options_are = c.watch_options.ensures;
  first = refl;
}

pub returns-in-Err-TooFar : goal.returns-in-Err-TooFar
returns-in-Err-TooFar c =
    let back = c.in-Err-TooFar.field-0-0 in
    let ahead = c.in-Err-TooFar.field-0-1 in
    let told = subst (λ (f : ReachFault). IsTold (margins_of c.in-Ok.core) f) c.in-Err-TooFar.field-0-is c.in-Err-TooFar.ensures.refused in
    too_far back ahead (subst (λ (k : CoreParts). IsTold (margins_of k) (TooFar back ahead)) (c.in-Ok.ensures ∙ ap watching_core c.core.ensures.value) told)
