use Rattle.std.proofs.Common.{◌≡◌, ◌==◌, ◌∙◌, refl}
use Rattle.std.specs.List.{list_all}
use Rattle.tilt_base.specs.Scalar.{is_true, truth}
use Rattle.tilt_base.specs.declared.reducer.Reducer.TheVariants.{All}
use Rattle.tilt_window.proofs.Reduced.{reduce_on_some}
use Rattle.tilt_window.proofs.Truths.{all_by_count, truth_is}
use Rattle.tilt_window.proofs.truth.AllRReduction.finish.Goals as goal

pub returns : goal.returns
returns c = λ ns held.
    let test : list_all is_true ns ≡ (c.args.state.now.true_ones == c.args.state.now.count) = rw (held.true_ones, held.count) (all_by_count ns) in
    let some = reduce_on_some (λ ms. truth (list_all is_true ms)) All (λ _ _. refl) ns (λ none. c.if-state-eq0.false (held.count ∙ none)) in
    truth_is c.from.result (list_all is_true ns) _ c.from.ensures test ∙ some
