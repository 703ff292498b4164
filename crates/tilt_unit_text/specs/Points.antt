-- The points of a text: the text without them, and where they were (our own rule).
use Rattle.std.specs.Prelude.{⊤, ℕ, ◌+◌, ◌<◌, ◌≤◌, ◌==◌, Bool, not, if◌then◌else◌, List, [], ◌∷◌, count_by, nat_le}
use Rattle.std.specs.List.{filter}
use Rattle.tilt_lexer.specs.declared.fault.LexFault.{LexFault}
use Rattle.tilt_lexer.specs.declared.fault.LexFault.TheVariants as lexical
use Rattle.tilt_lexer.specs.declared.token.Token.{Token}
use Rattle.tilt_unit_text.specs.declared.fault.UnitFault.{UnitFault}
use Rattle.tilt_unit_text.specs.declared.fault.UnitFault.TheVariants as fault

-- whether a byte is a point
abbrev pub is_point : ℕ → Bool
is_point b = b == 46

-- the text without its points
abbrev pub without_points : List ℕ → List ℕ
without_points text = filter (λ b. not (is_point b)) text

-- where the points of a text are in the text without them: for each, how many other bytes are before it, after those that are before the text
abbrev pub points_after : ℕ → List ℕ → List ℕ
points_after before [] = []
points_after before (b ∷ text) = if is_point b then before ∷ points_after before text else points_after (before + 1) text

abbrev pub points_of : List ℕ → List ℕ
points_of text = points_after 0 text

-- how many points are before a byte of the text without them
abbrev pub points_before : List ℕ → ℕ → ℕ
points_before points at = count_by (λ point. nat_le point at) points

-- a fault of the text without points, at its place in the text
abbrev pub fault_in_text : List ℕ → LexFault → UnitFault
fault_in_text points (lexical.BadByte at) = fault.BadByte (at + points_before points at)
fault_in_text points (lexical.BigNumber at) = fault.BigNumber (at + points_before points at)
fault_in_text points lexical.OutOfMemory = fault.OutOfMemory

-- a token starts before its end, which is at most so far
pub record IsToken (most : ℕ) (token : Token) : Type 0 where
  pub ordered : token.start ≤ token.end
  pub below : token.end ≤ most

-- the place of a fault is below a number
abbrev pub IsBelow : ℕ → LexFault → Type 0
IsBelow bound (lexical.BadByte at) = at < bound
IsBelow bound (lexical.BigNumber at) = at < bound
IsBelow bound lexical.OutOfMemory = ⊤
