-- The text of a query (our own rule): one line for each statement, with parentheses only where they are needed.
use Rattle.std.specs.Prelude.{◌≡◌, ◌≤◌, ℕ, ℤ, negsuc, pos, suc, zero, true, false, List, [], ◌∷◌, ◌++◌, length}
use Rattle.std.specs.Prelude.{Option, Some, None, codes, nat_lt, if◌then◌else◌, flat_map, ⊤}
use Rattle.std.specs.Fmt.{signed_decimal}
use Rattle.tilt_base.specs.Expression.{Leaf, One, Two, If}
use Rattle.tilt_base.specs.Reduce.{reducer_word}
use Rattle.tilt_base.specs.declared.operator.Op1.TheVariants as op1
use Rattle.tilt_lexer.specs.Tokens.{AreTokens, mark_text}
use Rattle.tilt_lexer.specs.Word.{key_text}
use Rattle.tilt_lexer.specs.declared.token.Tok.{Tok}
use Rattle.tilt_lexer.specs.declared.token.Tok.TheVariants as tok
use Rattle.tilt_lexer.specs.declared.token.Token.{Token}
use Rattle.tilt_syntax.specs.Grammar.{Infix, infix_of, IsStatement}
use Rattle.tilt_syntax.specs.Query.{kinds, AreSound, statements, IsQueryOf}
use Rattle.tilt_syntax.specs.Tree.{Atom, Num, Truth, Read, Reduce, ExprTree, StatementTree, Input, Let, Emit}
use Rattle.tilt_base.specs.declared.span.Span.{Span}
use Rattle.tilt_syntax.specs.declared.every.Every.{Every}

-- the level of an operator on two operands; `ifnull` is written as a call
abbrev pub level2 : Option Infix → ℕ
level2 None = 9
level2 (Some i) = i.level

-- the level of an expression
abbrev pub level_of : ExprTree → ℕ
level_of (Leaf atom) = 9
level_of (One op1.Neg a) = 8
level_of (One op1.Not a) = 4
level_of (One op1.IsNull a) = 9
level_of (Two op a b) = level2 (infix_of op)
level_of (If c a b) = 0

-- text in parentheses if its level is lower than the one that its place asks for
abbrev pub in_place : ℕ → ℕ → List ℕ → List ℕ
in_place place level text = if nat_lt level place then codes "(" ++ text ++ codes ")" else text

-- `t`, `t+3` or `t-3`
abbrev pub offset_text : ℤ → List ℕ
offset_text (pos zero) = codes "t"
offset_text (pos (suc n)) = codes "t+" ++ signed_decimal (pos (suc n))
offset_text (negsuc n) = codes "t" ++ signed_decimal (negsuc n)

-- `x`, or `x[t-3]`
abbrev pub reading_text : List ℕ → ℤ → List ℕ
reading_text x (pos zero) = x
reading_text x offset = x ++ codes "[" ++ offset_text offset ++ codes "]"

-- what needs no parentheses anywhere
abbrev pub atom_text : Atom → List ℕ
atom_text (Num n) = signed_decimal n
atom_text (Truth true) = codes "true"
atom_text (Truth false) = codes "false"
atom_text (Read x offset) = reading_text x offset
atom_text (Reduce r x from to) =
    reducer_word r ++ codes "(" ++ x ++ codes "[" ++ offset_text from ++ codes ":" ++ offset_text to ++ codes "])"

-- the text of a sign or a reserved word between operands
abbrev pub sign_text : Tok → List ℕ
sign_text (tok.Mark m) = mark_text m
sign_text (tok.Key k) = key_text k
sign_text (tok.Word x) = x
sign_text (tok.Number n) = signed_decimal n

-- two operands, of which the level and the text are given
abbrev pub operands_text : Option Infix → ℕ → List ℕ → ℕ → List ℕ → List ℕ
operands_text None l a m b = codes "ifnull(" ++ a ++ codes ", " ++ b ++ codes ")"
operands_text (Some i) l a m b = in_place i.left l a ++ codes " " ++ sign_text i.sign ++ codes " " ++ in_place i.right m b

-- the text of an expression, without parentheses around it
abbrev pub expr_text : ExprTree → List ℕ
expr_text (Leaf atom) = atom_text atom
expr_text (One op1.Neg a) = codes "-" ++ in_place 8 (level_of a) (expr_text a)
expr_text (One op1.Not a) = codes "not " ++ in_place 4 (level_of a) (expr_text a)
expr_text (One op1.IsNull a) = codes "isnull(" ++ expr_text a ++ codes ")"
expr_text (Two op a b) = operands_text (infix_of op) (level_of a) (expr_text a) (level_of b) (expr_text b)
expr_text (If c a b) = codes "if " ++ expr_text c ++ codes " then " ++ expr_text a ++ codes " else " ++ expr_text b

-- ` over (s, e]`
abbrev pub span_text : Span → List ℕ
span_text span = codes " over (" ++ signed_decimal span.start ++ codes ", " ++ signed_decimal span.end ++ codes "]"

-- the same if there is one
abbrev pub domain_text : Option Span → List ℕ
domain_text None = []
domain_text (Some span) = span_text span

-- ` from o`; nothing for the offset 0
abbrev pub from_text : ℤ → List ℕ
from_text (pos zero) = []
from_text offset = codes " from " ++ signed_decimal offset

-- ` every p` or ` every p from o` if there is one
abbrev pub grid_text : Option Every → List ℕ
grid_text None = []
grid_text (Some every) = codes " every " ++ signed_decimal every.period ++ from_text every.offset

-- a line
abbrev pub statement_text : StatementTree → List ℕ
statement_text (Input x) = codes "input " ++ x ++ codes ";\n"
statement_text (Let x e over every) =
    codes "let " ++ x ++ codes " = " ++ expr_text e ++ domain_text over ++ grid_text every ++ codes ";\n"
statement_text (Emit e over every) = codes "emit " ++ expr_text e ++ span_text over ++ grid_text every ++ codes ";\n"

-- the text of a query
abbrev pub query_text : List StatementTree → List ℕ
query_text query = flat_map statement_text query

-- no statement can be written with fewer tokens of a text
abbrev pub AreShortest : List (List Tok) → List StatementTree → Type 0
AreShortest [] [] = ⊤
AreShortest [] (s ∷ query) = ⊥
AreShortest (ts ∷ rest) [] = ⊥
AreShortest (ts ∷ rest) (s ∷ query) = ((us : List Tok) → AreSound us → IsStatement us s → length ts ≤ length us) × AreShortest rest query

-- the text reads as the query and as no other, and is the shortest in tokens
pub record ReadsBack (text : List ℕ) (query : List StatementTree) : Type 0 where
  pub tokens : List Token
  pub are : AreTokens 0 text tokens
  pub parsed : IsQueryOf (kinds tokens) query
  pub only : (others : List Token) (other : List StatementTree) → AreTokens 0 text others → IsQueryOf (kinds others) other → other ≡ query
  pub shortest : AreShortest (statements (kinds tokens)) query
