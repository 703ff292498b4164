use Rattle.std.proofs.Common.{◌≡◌, ◌∙◌, FitsSigned, Some, sym, ap, refl, rules}
use Rattle.std.specs.Int.{w64, int_max}
use Rattle.std.proofs.lemmas.Int.{to_z-of_z}
use Rattle.tilt_window.proofs.Joins.{either_or-some, max_append}
use Rattle.tilt_window.proofs.extreme.MaxRMerge.merge.Goals as goal

pub returns-in-Some-Some : goal.returns-in-Some-Some
returns-in-Some-Some c = λ ms ns few first second.
    let m = c.in-Some-Some.greatest_a in
    let n = c.in-Some-Some.greatest_b in
    let m_fits : FitsSigned w64 m = search rules in
    let n_fits : FitsSigned w64 n = search rules in
    let fits : FitsSigned w64 c.max.result = search rules in
    let value : c.max.result ≡ int_max m n = c.max.ensures.value ∙ rw (to_z-of_z w64 m m_fits, to_z-of_z w64 n n_fits) refl in
    ap Some (to_z-of_z w64 _ fits ∙ value) ∙
    sym (max_append ms ns ∙ either_or-some int_max _ _ m n (sym first ∙ c.in-Some-Some.is-0) (sym second ∙ c.in-Some-Some.is-1))
