use Rattle.std.proofs.Common.{◌≡◌, ℕ, List, ◌++◌, codes, decimal, ap, ◌∙◌}
use Rattle.tilt_operators.proofs.Negated.{number-word}
use Rattle.tilt_operators.proofs.desugaring.definition_name.Goals as goal

pub unreachable-requires : goal.unreachable-requires
unreachable-requires c =
    let text : c.deref.result.now ≡ codes "_" ++ decimal c.args.number =
    c.deref.ensures.value ∙ c.in_ok-put_number.ensures
    ∙ ap (λ (xs : List ℕ). xs ++ decimal c.args.number) (c.in_ok-put.ensures ∙ ap (λ (xs : List ℕ). xs ++ codes "_") c.new-text.ensures.items) in
    let none = rw c.in_default.is at c.in_ok-name.ensures in
    none (rw text (number-word c.args.number c.ranges.number.fits))
