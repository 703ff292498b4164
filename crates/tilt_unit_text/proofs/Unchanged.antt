-- With the numbers of its own core, a query is itself.
use Rattle.std.proofs.Common.{◌≡◌, ℕ, ◌+◌, ◌≤◌, nat_lt, false, List, [], ◌∷◌, None}
use Rattle.std.proofs.Common.{refl, ap, ◌∙◌, arith}
use Rattle.std.proofs.lemmas.Bool.Decides.{nat_tests}
use Rattle.tilt_base.specs.Expression.{Leaf, One, Two, If}
use Rattle.tilt_base.specs.declared.operator.Op2.TheVariants.{Mul}
use Rattle.tilt_lexer.specs.declared.token.Tok.{Tok}
use Rattle.tilt_syntax.proofs.Shortest.{statement_shortest}
use Rattle.tilt_syntax.proofs.Sounds.{EachSound}
use Rattle.tilt_syntax.specs.Query.{AreGood}
use Rattle.tilt_syntax.specs.Tree.{ExprTree, StatementTree, Num, Truth, Read, Reduce, Input, Let, Emit}
use Rattle.tilt_types.specs.Checked.{definitions, numbered}
use Rattle.tilt_unit_text.proofs.Beside.{Beside, choice, itself, literal, one, operand_itself, product, reading, truth, two, window}
use Rattle.tilt_unit_text.proofs.TokensKept.{statement_length}
use Rattle.tilt_unit_text.specs.Named.{named, operand, whole_statements}
use Rattle.tilt_unit_text.specs.Size.{long_fault, statement_size}

module _ (names : List (List ℕ)) where
  own : (e : ExprTree) → Beside names [] false e (numbered names e)
  own (Leaf (Num n)) = literal (λ h. h)
  own (Leaf (Truth b)) = truth
  own (Leaf (Read x d)) = reading
  own (Leaf (Reduce r x l k)) = window
  own (One op a) = one (own a)
  own (Two Mul a b) = product (own a) (own b)
  own (Two op a b) = two op refl (itself (own a)) (itself (own b))
  own (If c a b) = choice (own c) (itself (own a)) (itself (own b))

  operand_same : (e : ExprTree) → named e (numbered names e) ≡ e → operand e (numbered names e) ≡ e
  operand_same e h = operand_itself names [] (own e) ∙ h

  expression_same : (e : ExprTree) → named e (numbered names e) ≡ e
  expression_same (Leaf (Num n)) = refl
  expression_same (Leaf (Truth b)) = refl
  expression_same (Leaf (Read x d)) = refl
  expression_same (Leaf (Reduce r x l k)) = refl
  expression_same (One op a) = ap (One op) (expression_same a)
  expression_same (Two op a b) =
      let left = operand_same a (expression_same a) in
      let right = operand_same b (expression_same b) in
      λ i. Two op (left i) (right i)
  expression_same (If c a b) =
      let first = expression_same c in
      let second = operand_same a (expression_same a) in
      let third = operand_same b (expression_same b) in
      λ i. If (first i) (second i) (third i)

  pub statements_same : (q : List StatementTree) → whole_statements q (definitions names q) ≡ q
  statements_same [] = refl
  statements_same (Input x ∷ q) = ap (λ (s : List StatementTree). Input x ∷ s) (statements_same q)
  statements_same (Let x e o g ∷ q) =
      let one = expression_same e in
      let rest = statements_same q in
      λ i. Let x (one i) o g ∷ rest i
  statements_same (Emit e o g ∷ q) =
      let one = expression_same e in
      let rest = statements_same q in
      λ i. Emit (one i) o g ∷ rest i

-- no statement of a text is too long
not_long : (k : ℕ) → k ≤ 256 → nat_lt 256 k ≡ false
not_long k h = grind (arith, nat_tests)

pub none_long : (ss : List (List Tok)) (q : List StatementTree) (n : ℕ) → AreGood ss q → EachSound ss → long_fault n q ≡ None
none_long [] [] n g s = refl
none_long [] (u ∷ q) n g s = absurd g
none_long (ts ∷ ss) [] n g s = absurd g
none_long (ts ∷ ss) (u ∷ q) n g s =
    let few : statement_size u ≤ 256 = omega (arith, statement_shortest g.0.parsed s.0, g.0.short, statement_length u) in
    rw (not_long (statement_size u) few) (none_long ss q (n + 1) g.1 s.1)
