use Rattle.std.proofs.Common.{◌≡◌, ◌≢◌, ℤ, pos, neg_ℤ, ◌-ℤ◌, to_z, of_z, w64, List, ◌∷◌, Option, Some, None, MatchOption, Bor, arith}
use Rattle.std.proofs.lemmas.Int.{ints}
use Rattle.tilt_lexer.specs.declared.key.Key.TheVariants as key
use Rattle.tilt_lexer.specs.declared.mark.Mark.TheVariants as mark
use Rattle.tilt_lexer.specs.declared.token.Tok.{Tok}
use Rattle.tilt_lexer.specs.declared.token.Tok.TheVariants.{Number, Key as Reserved, Mark as Sign}
use Rattle.tilt_lexer.specs.declared.token.Token.{Token}
use Rattle.tilt_syntax.specs.Descent.{done, met, missed, offset_plan}
use Rattle.tilt_syntax.specs.Query.{kinds}
use Rattle.tilt_syntax.specs.Rest.{FindsPart}
use Rattle.tilt_syntax.proofs.Descending.{number-comes, number-none}
use Rattle.tilt_syntax.proofs.Finding.{first-rest, then-rest}
use Rattle.tilt_syntax.proofs.atom.offset.Goals as goal

behind_plus : (found : Option (ℤ × Bor (List Token))) (ts us vs : List Tok)
    → ts ≡ Reserved key.Time ∷ us → us ≡ Sign mark.Plus ∷ vs
    → MatchOption found ((n : ℤ) (ws : List Tok) → vs ≢ Number n ∷ ws) (λ x. vs ≡ Number x.0 ∷ kinds x.1.now)
    → FindsPart (offset_plan ts) ts found
behind_plus None ts us vs e f h = λ behind. met e (met f (number-none vs behind h))
behind_plus (Some x) ts us vs e f h = record {
  goes_on = λ behind r g. met e (met f (number-comes vs x.0 (kinds x.1.now) behind r h g));
  rest = then-rest (first-rest e) (then-rest (first-rest f) (first-rest h));
}

pub returns-in_err-rest : goal.returns-in_err-rest
returns-in_err-rest c = rw c.from_residual.ensures (λ behind. missed c.in_err-rest.ensures.front done)

pub returns-in-Some : goal.returns-in-Some
returns-in-Some c =
    behind_plus c.first_number.result _ _ _ c.in_ok-rest.ensures.front c.in-Some.ensures.front c.first_number.ensures.front

pub returns-in_err-number : goal.returns-in_err-number
returns-in_err-number c = rw c.from_residual-in_err-number.ensures (λ behind.
    met c.in_ok-rest.ensures.front (missed c.in_default.ensures.front (met c.in-Some-after_mark.ensures.front (
    number-none _ (λ n. behind (neg_ℤ n)) c.in_err-number.ensures.front))))

pub returns-in-Some-after_mark : goal.returns-in-Some-after_mark
returns-in-Some-after_mark c =
    let n = c.in_ok-number.number in
    let above = (c.in_ok-number.ensures.sound (c.in-Some-after_mark.ensures.sound (c.in_ok-rest.ensures.sound c.requires))).0 in
    let negated : to_z w64 (of_z w64 (pos 0 -ℤ to_z w64 (of_z w64 n))) ≡ neg_ℤ n = grind (arith, ints, above) in
    record {
      goes_on = λ behind r h.
          met c.in_ok-rest.ensures.front (missed c.in_default.ensures.front (met c.in-Some-after_mark.ensures.front (
          number-comes _ n (kinds c.in_ok-number.rest.now) (λ m. behind (neg_ℤ m)) r c.in_ok-number.ensures.front (rw negated at h))));
      rest = then-rest (first-rest c.in_ok-rest.ensures.front) (
          then-rest (first-rest c.in-Some-after_mark.ensures.front) (first-rest c.in_ok-number.ensures.front));
    }

pub returns : goal.returns
returns c = record {
  goes_on = λ behind r h.
      met c.in_ok-rest.ensures.front (missed c.in_default.ensures.front (missed c.in_default-after_mark.ensures.front h));
  rest = first-rest c.in_ok-rest.ensures.front;
}
