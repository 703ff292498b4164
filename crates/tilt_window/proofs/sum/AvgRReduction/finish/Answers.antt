use Rattle.std.proofs.Common.{◌≡◌, ◌∙◌, pos, length, Some, FitsSigned, int_div, subst, sym, ap, refl, arith, rules}
use Rattle.std.specs.Int.{w64, w128}
use Rattle.std.specs.Result.{result_ok}
use Rattle.std.proofs.lemmas.Int.{quot_is}
use Rattle.std.proofs.lemmas.Result.{Ok-from_Ok_iff}
use Rattle.tilt_base.specs.Reduce.{total}
use Rattle.tilt_base.specs.declared.reducer.Reducer.TheVariants.{Avg}
use Rattle.tilt_window.proofs.Reduced.{reduce_on_some}
use Rattle.tilt_base.proofs.Totals.{average_within}
use Rattle.tilt_window.proofs.sum.AvgRReduction.finish.Goals as goal

pub returns-in_default : goal.returns-in_default
returns-in_default c = λ ns held.
    let fits = average_within ns held.fits in
    let sum : FitsSigned w128 c.args.state.now.sum = search rules in
    let count : FitsSigned w128 c.from.result = search rules in
    let same : int_div c.args.state.now.sum c.from.result ≡ int_div (total ns) (pos (length ns)) = rw (held.sum, c.from.ensures, held.count) refl in
    let wide : FitsSigned w128 (int_div c.args.state.now.sum c.from.result) = rw same (record { sfits = omega (arith, fits.sfits) }) in
    let exact = quot_is w128 c.args.state.now.sum c.from.result sum count wide ∙ same in
    let found = Ok-from_Ok_iff _ _ _ c.try_from-in_default.ensures (subst (FitsSigned w64) (sym exact) fits) in
    let some = reduce_on_some (λ ms. Some (int_div (total ms) (pos (length ms)))) Avg (λ _ _. refl) ns (λ none. c.if-state-eq0.false (held.count ∙ none)) in
    c.ok.ensures.value ∙ ap result_ok found ∙ ap Some exact ∙ some
