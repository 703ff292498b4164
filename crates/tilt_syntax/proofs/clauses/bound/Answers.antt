use Rattle.std.proofs.Common.{◌≡◌, ◌≢◌, ℤ, pos, neg_ℤ, ◌-ℤ◌, to_z, of_z, w64, List, ◌∷◌, Option, Some, None, MatchOption, Bor, arith}
use Rattle.std.proofs.lemmas.Int.{ints}
use Rattle.tilt_lexer.specs.declared.mark.Mark.TheVariants as mark
use Rattle.tilt_lexer.specs.declared.token.Tok.{Tok}
use Rattle.tilt_lexer.specs.declared.token.Tok.TheVariants.{Number, Mark as Sign}
use Rattle.tilt_lexer.specs.declared.token.Token.{Token}
use Rattle.tilt_syntax.specs.Descent.{met, missed}
use Rattle.tilt_syntax.specs.Query.{kinds}
use Rattle.tilt_syntax.specs.Rest.{FindsPart}
use Rattle.tilt_syntax.specs.Statements.{bound_plan}
use Rattle.tilt_syntax.proofs.Descending.{number-comes, number-none}
use Rattle.tilt_syntax.proofs.Finding.{first-rest, then-rest}
use Rattle.tilt_syntax.proofs.clauses.bound.Goals as goal

unsigned : (found : Option (ℤ × Bor (List Token))) (ts : List Tok) → ((us : List Tok) → ts ≢ Sign mark.Minus ∷ us)
    → MatchOption found ((n : ℤ) (us : List Tok) → ts ≢ Number n ∷ us) (λ x. ts ≡ Number x.0 ∷ kinds x.1.now)
    → FindsPart (bound_plan ts) ts found
unfolding bound_plan
unsigned None ts fails h = λ behind. missed fails (number-none ts behind h)
unsigned (Some x) ts fails h = record {
  goes_on = λ behind r g. missed fails (number-comes ts x.0 (kinds x.1.now) behind r h g);
  rest = first-rest h;
}

pub returns-in_default : goal.returns-in_default
unfolding bound_plan
returns-in_default c = unsigned c.first_number.result _ c.in_default.ensures.front c.first_number.ensures.front

pub returns-in_err-number : goal.returns-in_err-number
unfolding bound_plan
returns-in_err-number c = rw c.from_residual.ensures (λ behind.
    met c.in-Some.ensures.front (number-none _ (λ n. behind (neg_ℤ n)) c.in_err-number.ensures.front))

pub returns : goal.returns
unfolding bound_plan
returns c =
    let n = c.in_ok-number.number in
    let above = (c.in_ok-number.ensures.sound (c.in-Some.ensures.sound c.requires)).0 in
    let negated : to_z w64 (of_z w64 (pos 0 -ℤ to_z w64 (of_z w64 n))) ≡ neg_ℤ n = grind (arith, ints, above) in
    record {
      goes_on = λ behind r h.
          met c.in-Some.ensures.front (
          number-comes _ n (kinds c.in_ok-number.rest.now) (λ m. behind (neg_ℤ m)) r c.in_ok-number.ensures.front (rw negated at h));
      rest = then-rest (first-rest c.in-Some.ensures.front) (first-rest c.in_ok-number.ensures.front);
    }
