-- The grammar of a query (our own rule): with which tokens each tree may be written, one case for each rule.
-- How they are read is no part of it.
use Rattle.std.specs.Prelude.{◌≡◌, ℕ, suc, ℤ, pos, neg_ℤ, true, false, List, [], ◌∷◌, ◌++◌, Option, Some, None}
use Rattle.tilt_base.specs.Expression.{Leaf, One, Two, If}
use Rattle.tilt_base.specs.declared.operator.Op1.TheVariants as op1
use Rattle.tilt_base.specs.declared.operator.Op2.{Op2}
use Rattle.tilt_base.specs.declared.operator.Op2.TheVariants as op2
use Rattle.tilt_base.specs.declared.reducer.Reducer.{Reducer}
use Rattle.tilt_lexer.specs.declared.key.Key.TheVariants as key
use Rattle.tilt_lexer.specs.declared.mark.Mark.TheVariants as mark
use Rattle.tilt_lexer.specs.declared.token.Tok.{Tok}
use Rattle.tilt_lexer.specs.declared.token.Tok.TheVariants.{Word, Number, Key as Reserved, Mark as Sign}
use Rattle.tilt_syntax.specs.Tree.{Num, Truth, Read, Reduce, ExprTree, StatementTree, Input, Let, Emit}
use Rattle.tilt_base.specs.declared.span.Span.{Span}
use Rattle.tilt_syntax.specs.declared.every.Every.{Every}

-- an operator that is written between its operands: its sign, its level, and the levels that the places of its operands ask for
pub record Infix : Type 0 where
  pub sign : Tok
  pub level : ℕ
  pub left : ℕ
  pub right : ℕ

-- the operators between operands, from the loosest to the tightest; `ifnull` is written as a call
abbrev pub infix_of : Op2 → Option Infix
infix_of op2.When = Some (record { sign = Reserved key.When; level = 1; left = 1; right = 2 })
infix_of op2.Or = Some (record { sign = Reserved key.Or; level = 2; left = 2; right = 3 })
infix_of op2.And = Some (record { sign = Reserved key.And; level = 3; left = 3; right = 4 })
infix_of op2.Eq = Some (record { sign = Sign mark.Equal; level = 5; left = 6; right = 6 })
infix_of op2.Ne = Some (record { sign = Sign mark.NotEqual; level = 5; left = 6; right = 6 })
infix_of op2.Lt = Some (record { sign = Sign mark.Less; level = 5; left = 6; right = 6 })
infix_of op2.Le = Some (record { sign = Sign mark.AtMost; level = 5; left = 6; right = 6 })
infix_of op2.Gt = Some (record { sign = Sign mark.Greater; level = 5; left = 6; right = 6 })
infix_of op2.Ge = Some (record { sign = Sign mark.AtLeast; level = 5; left = 6; right = 6 })
infix_of op2.Add = Some (record { sign = Sign mark.Plus; level = 6; left = 6; right = 7 })
infix_of op2.Sub = Some (record { sign = Sign mark.Minus; level = 6; left = 6; right = 7 })
infix_of op2.Mul = Some (record { sign = Sign mark.Star; level = 7; left = 7; right = 8 })
infix_of op2.Div = Some (record { sign = Sign mark.Slash; level = 7; left = 7; right = 8 })
infix_of op2.Rem = Some (record { sign = Sign mark.Percent; level = 7; left = 7; right = 8 })
infix_of op2.IfNull = None

-- the tokens spell an offset from the tick: `t`, `t + n` or `t - n`
pub data SpellsOffset : List Tok → ℤ → Type 0 where
  now : SpellsOffset (Reserved key.Time ∷ []) (pos 0)
  later : {n : ℤ} → SpellsOffset (Reserved key.Time ∷ Sign mark.Plus ∷ Number n ∷ []) n
  earlier : {n : ℤ} → SpellsOffset (Reserved key.Time ∷ Sign mark.Minus ∷ Number n ∷ []) (neg_ℤ n)

-- the tokens are the expression, at a level. The levels are 0 for `if`, then `when`, `or`, `and`, 4 for `not`, then comparisons,
-- sums, products, and 8 for the minus before an operand. Level 9 is for what needs no parentheses anywhere
pub data IsExpr : ℕ → List Tok → ExprTree → Type 0 where
  -- an expression of a tighter level may be in the place of a looser one
  tighter : {level : ℕ} {ts : List Tok} {e : ExprTree} → IsExpr (suc level) ts e → IsExpr level ts e
  -- `if c then a else b`
  choice : {ts us vs : List Tok} {c a b : ExprTree} → IsExpr 0 ts c → IsExpr 0 us a → IsExpr 0 vs b
      → IsExpr 0 (Reserved key.If ∷ (ts ++ (Reserved key.Then ∷ (us ++ (Reserved key.Else ∷ vs))))) (If c a b)
  -- an operator between its operands
  between : {op : Op2} {i : Infix} {ts us : List Tok} {a b : ExprTree} → infix_of op ≡ Some i → IsExpr i.left ts a → IsExpr i.right us b
      → IsExpr i.level (ts ++ (i.sign ∷ us)) (Two op a b)
  -- `not a`
  negation : {ts : List Tok} {a : ExprTree} → IsExpr 4 ts a → IsExpr 4 (Reserved key.Not ∷ ts) (One op1.Not a)
  -- `-a`
  minus : {ts : List Tok} {a : ExprTree} → IsExpr 8 ts a → IsExpr 8 (Sign mark.Minus ∷ ts) (One op1.Neg a)
  -- a number
  number : {n : ℤ} → IsExpr 9 (Number n ∷ []) (Leaf (Num n))
  -- `true` and `false`
  true_word : IsExpr 9 (Reserved key.TrueWord ∷ []) (Leaf (Truth true))
  false_word : IsExpr 9 (Reserved key.FalseWord ∷ []) (Leaf (Truth false))
  -- `x`, which is `x[t]`
  name : {x : List ℕ} → IsExpr 9 (Word x ∷ []) (Leaf (Read x (pos 0)))
  -- `x[t+n]`
  reading : {x : List ℕ} {ts : List Tok} {d : ℤ} → SpellsOffset ts d
      → IsExpr 9 (Word x ∷ Sign mark.OpenBracket ∷ (ts ++ (Sign mark.CloseBracket ∷ []))) (Leaf (Read x d))
  -- `sum(x[t-m : t+n])`
  window : {r : Reducer} {x : List ℕ} {ts us : List Tok} {l h : ℤ} → SpellsOffset ts l → SpellsOffset us h
      → IsExpr 9 (Reserved (key.Reducer r) ∷ Sign mark.OpenParen ∷ Word x ∷ Sign mark.OpenBracket
      ∷ (ts ++ (Sign mark.Colon ∷ (us ++ (Sign mark.CloseBracket ∷ Sign mark.CloseParen ∷ []))))) (Leaf (Reduce r x l h))
  -- `isnull(a)`
  is_null : {ts : List Tok} {a : ExprTree} → IsExpr 0 ts a
      → IsExpr 9 (Reserved key.IsNull ∷ Sign mark.OpenParen ∷ (ts ++ (Sign mark.CloseParen ∷ []))) (One op1.IsNull a)
  -- `ifnull(a, b)`
  if_null : {ts us : List Tok} {a b : ExprTree} → IsExpr 0 ts a → IsExpr 0 us b
      → IsExpr 9 (Reserved key.IfNull ∷ Sign mark.OpenParen ∷ (ts ++ (Sign mark.Comma ∷ (us ++ (Sign mark.CloseParen ∷ [])))))
      (Two op2.IfNull a b)
  -- `(e)`
  enclosed : {ts : List Tok} {e : ExprTree} → IsExpr 0 ts e → IsExpr 9 (Sign mark.OpenParen ∷ (ts ++ (Sign mark.CloseParen ∷ []))) e

-- a bound of a span: a number, or a minus and a number
pub data IsBound : List Tok → ℤ → Type 0 where
  from_zero : {n : ℤ} → IsBound (Number n ∷ []) n
  below_zero : {n : ℤ} → IsBound (Sign mark.Minus ∷ Number n ∷ []) (neg_ℤ n)

-- `over (s, e]`
pub data IsSpan : List Tok → Span → Type 0 where
  over : {ts us : List Tok} {s e : ℤ} → IsBound ts s → IsBound us e
      → IsSpan (Reserved key.Over ∷ Sign mark.OpenParen ∷ (ts ++ (Sign mark.Comma ∷ (us ++ (Sign mark.CloseBracket ∷ [])))))
      (record { start = s; end = e })

-- the same, or nothing
pub data MayBeSpan : List Tok → Option Span → Type 0 where
  no_span : MayBeSpan [] None
  some_span : {ts : List Tok} {span : Span} → IsSpan ts span → MayBeSpan ts (Some span)

-- `every p`, which is `every p from 0`, or `every p from o`, or nothing
pub data MayBeGrid : List Tok → Option Every → Type 0 where
  no_grid : MayBeGrid [] None
  on_multiples : {p : ℤ} → MayBeGrid (Reserved key.Every ∷ Number p ∷ []) (Some (record { period = p; offset = pos 0 }))
  with_offset : {p o : ℤ}
      → MayBeGrid (Reserved key.Every ∷ Number p ∷ Reserved key.From ∷ Number o ∷ []) (Some (record { period = p; offset = o }))

-- the tokens are the statement
pub data IsStatement : List Tok → StatementTree → Type 0 where
  input : {x : List ℕ} → IsStatement (Reserved key.Input ∷ Word x ∷ Sign mark.Semicolon ∷ []) (Input x)
  definition : {x : List ℕ} {ts us vs : List Tok} {e : ExprTree} {over : Option Span} {every : Option Every}
      → IsExpr 0 ts e → MayBeSpan us over → MayBeGrid vs every
      → IsStatement (Reserved key.Let ∷ Word x ∷ Sign mark.Assign ∷ (ts ++ (us ++ (vs ++ (Sign mark.Semicolon ∷ [])))))
      (Let x e over every)
  emission : {ts us vs : List Tok} {e : ExprTree} {over : Span} {every : Option Every}
      → IsExpr 0 ts e → IsSpan us over → MayBeGrid vs every
      → IsStatement (Reserved key.Emit ∷ (ts ++ (us ++ (vs ++ (Sign mark.Semicolon ∷ []))))) (Emit e over every)
