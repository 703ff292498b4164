-- Which tokens of a text are kept for its query (our own rule). The others change neither which query the tokens are nor why they
-- are refused.
use Rattle.std.specs.Prelude.{ℕ, zero, suc, List, [], ◌∷◌, ◌++◌}
use Rattle.tilt_lexer.specs.declared.mark.Mark.TheVariants.{Semicolon}
use Rattle.tilt_lexer.specs.declared.token.Tok.{Tok}
use Rattle.tilt_lexer.specs.declared.token.Tok.TheVariants as tok
use Rattle.tilt_syntax.specs.Query.{kinds}
use Rattle.tilt_syntax.specs.declared.kept.Kept.{Kept}

-- what is kept of tokens: so many more statements, of the first one `room` more tokens, of each other one the first 257, and each `;`
abbrev pub trimmed : (statements room : ℕ) → List Tok → List Tok
trimmed zero room ts = []
trimmed (suc n) room [] = []
trimmed (suc n) room (tok.Mark Semicolon ∷ ts) = tok.Mark Semicolon ∷ trimmed n 257 ts
trimmed (suc n) zero (t ∷ ts) = trimmed (suc n) zero ts
trimmed (suc n) (suc room) (t ∷ ts) = t ∷ trimmed (suc n) room ts

-- the tokens that are kept, and those that are kept of more tokens after them
abbrev pub with_kept : Kept → List Tok → List Tok
with_kept kept more = kinds kept.tokens.items ++ trimmed kept.statements kept.room more
