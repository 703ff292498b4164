-- The tokens of a text are sound.
use Rattle.std.proofs.Common.{ℕ, List, sym, subst, arith}
use Rattle.std.specs.Prelude.{All}
use Rattle.std.proofs.lemmas.Int.{ints}
use Rattle.std.proofs.lemmas.List.Elements.{All-nil, All-cons}
use Rattle.tilt_lexer.specs.declared.token.Tok.{Tok}
use Rattle.tilt_lexer.specs.declared.token.Tok.TheVariants as tok
use Rattle.tilt_lexer.specs.declared.token.Token.{Token}
use Rattle.tilt_lexer.specs.Tokens.{IsTextOf, IsWithin, IsSound, AreTokens, nothing, blank, token}
use Rattle.tilt_lexer.specs.Word.{IsWord, IsReserved}

-- the token of a text is
pub sound_kind : (kind : Tok) (text : List ℕ) → IsTextOf kind text → IsWithin kind → IsSound kind
sound_kind (tok.Word name) text h w = (subst IsWord (sym h.2) h.0, λ reserved. h.1 (subst IsReserved h.2 reserved))
sound_kind (tok.Number n) text h w = (omega (arith, ints, h.1), w)
sound_kind (tok.Key k) text h w = tt
sound_kind (tok.Mark m) text h w = tt

pub sound : {at : ℕ} {bytes : List ℕ} {tokens : List Token} → AreTokens at bytes tokens → All (λ t. IsSound t.kind) tokens
sound nothing = All-nil (λ t. IsSound t.kind)
sound (blank is are) = sound are
sound (token {kind = kind} {text = text} begins within are) = All-cons (λ t. IsSound t.kind) _ _ (sound_kind kind text begins.is_text within) (sound are)
