use Rattle.std.proofs.Common.{◌≡◌, ◌≢◌, ℤ, List, ◌∷◌, Option, Some, None, MatchOption, Bor}
use Rattle.tilt_lexer.specs.declared.key.Key.TheVariants as key
use Rattle.tilt_lexer.specs.declared.token.Tok.{Tok}
use Rattle.tilt_lexer.specs.declared.token.Tok.TheVariants.{Number, Key as Reserved}
use Rattle.tilt_lexer.specs.declared.token.Token.{Token}
use Rattle.tilt_syntax.specs.Descent.{met, missed}
use Rattle.tilt_syntax.specs.Query.{kinds}
use Rattle.tilt_syntax.specs.Rest.{FindsPart}
use Rattle.tilt_syntax.specs.Statements.{from_plan}
use Rattle.tilt_syntax.proofs.Descending.{number-comes, number-none}
use Rattle.tilt_syntax.proofs.Finding.{first-rest, same-rest, then-rest}
use Rattle.tilt_syntax.proofs.clauses.offset.Goals as goal

written : (found : Option (ℤ × Bor (List Token))) (ts us : List Tok) → ts ≡ Reserved key.From ∷ us
    → MatchOption found ((n : ℤ) (vs : List Tok) → us ≢ Number n ∷ vs) (λ x. us ≡ Number x.0 ∷ kinds x.1.now)
    → FindsPart (from_plan ts) ts found
unfolding from_plan
written None ts us from h = λ behind. met from (number-none us behind h)
written (Some x) ts us from h = record {
  goes_on = λ behind r g. met from (number-comes us x.0 (kinds x.1.now) behind r h g);
  rest = then-rest (first-rest from) (first-rest h);
}

pub returns-in_default : goal.returns-in_default
unfolding from_plan
returns-in_default c = record { goes_on = λ behind r h. missed c.in_default.ensures.front h; rest = same-rest _ }

pub returns : goal.returns
returns c = written c.first_number.result _ _ c.in-Some.ensures.front c.first_number.ensures.front
