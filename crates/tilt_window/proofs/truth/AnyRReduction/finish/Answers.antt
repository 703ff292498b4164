use Rattle.std.proofs.Common.{◌≡◌, ◌==◌, ◌∙◌, not, refl}
use Rattle.std.specs.List.{list_any}
use Rattle.tilt_base.specs.Scalar.{is_true, truth}
use Rattle.tilt_base.specs.declared.reducer.Reducer.TheVariants.{Any}
use Rattle.tilt_window.proofs.Reduced.{reduce_on_some}
use Rattle.tilt_window.proofs.Truths.{any_by_count, truth_is}
use Rattle.tilt_window.proofs.truth.AnyRReduction.finish.Goals as goal

pub returns : goal.returns
returns c = λ ns held.
    let test : list_any is_true ns ≡ not (c.args.state.now.true_ones == 0) = rw (held.true_ones) (any_by_count ns) in
    let some = reduce_on_some (λ ms. truth (list_any is_true ms)) Any (λ _ _. refl) ns (λ none. c.if-state-eq0.false (held.count ∙ none)) in
    truth_is c.from.result (list_any is_true ns) _ c.from.ensures test ∙ some
