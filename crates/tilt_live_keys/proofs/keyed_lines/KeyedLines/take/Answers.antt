use Rattle.std.proofs.Common.{◌≡◌, ◌∙◌, ◌&&◌, is_some, false, ap, refl, sym, Err}
use Rattle.std.proofs.lemmas.Result.{err_from_is_err_and}
use Rattle.std.proofs.Math.Bool.{and-false}
use Rattle.tilt_live_keys.proofs.Lines.{line-done, no-write}
use Rattle.tilt_live_keys.specs.declared.key_recipe.KeyRecipe.{KeyRecipe}
use Rattle.tilt_live_keys.proofs.keyed_lines.KeyedLines.take.Goals.{else-self-via-then-self+else-is_some, else-self-via-else-self}
use Rattle.tilt_live_keys.proofs.keyed_lines.KeyedLines.take.Goals as goal

pub returns-in_err-why-clause-no_write_fault : goal.returns-in_err-why-clause-no_write_fault
returns-in_err-why-clause-no_write_fault g c =
    let p = err_from_is_err_and c.from_residual.result c.from_residual.ensures.1 in
    let runs = c.requires.runs in
    let halts = c.in_err-why.ensures.stops runs.0 runs.1 runs.2 runs.3 in
    rw (p.1 ∙ ap Err p.2) (no-write _ _ halts)

pub returns-clause-taken : goal.returns-clause-taken
returns-clause-taken g c = λ recipe number feed are.
    let pass = c.in_ok-why.ensures in
    let going : (recipe.strict && is_some c.in_ok-why.why) ≡ false =
    elim c.else-self.branch [
      | else-self-via-then-self+else-is_some w ↦ rw (sym w.is_some.ensures ∙ w.if-is_some.false) (and-false recipe.strict)
      | else-self-via-else-self w ↦ rw (sym (ap (λ (r : KeyRecipe). r.strict) (pass.rest.0 ∙ are.recipe_is)) ∙ w.if-self.false) refl
    ] in
    let later = pass.goes_on recipe number feed are in
    line-done _ _ _ recipe _ _ _ _ _ number feed _ c.in_ok-why.why (pass.bad recipe number feed are) (pass.stops recipe number feed are)
    (rw (pass.rest.1, are.number_is) at c.report.ensures.reported) going (pass.output recipe number feed are)
    (record { recipe_is = later.recipe_is; runs_are = later.runs_are; most_is = later.most_is; number_is = c.saturating_add-self.ensures ∙ rw later.number_is refl })
