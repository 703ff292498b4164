-- Where the first statement ends.
use Rattle.std.specs.Prelude.{ℕ, suc, List, [], ◌∷◌}
use Rattle.tilt_lexer.specs.declared.mark.Mark.TheVariants.{Semicolon}
use Rattle.tilt_lexer.specs.declared.token.Tok.{Tok}
use Rattle.tilt_lexer.specs.declared.token.Tok.TheVariants.{Mark as Sign}

-- how many tokens there are up to the first `;`, and with it, or how many there are
abbrev pub first_length : List Tok → ℕ
first_length [] = 0
first_length (Sign Semicolon ∷ ts) = 1
first_length (t ∷ ts) = suc (first_length ts)
