-- Tokens are one expression at most, one statement, one query.
use Rattle.std.proofs.Common.{◌≡◌, List, [], ◌∷◌, Some, refl}
use Rattle.tilt_lexer.specs.declared.token.Tok.{Tok}
use Rattle.tilt_syntax.specs.Descent.{done}
use Rattle.tilt_syntax.specs.Grammar.{IsExpr, IsStatement}
use Rattle.tilt_syntax.specs.Query.{statements, AreGood, IsQueryOf}
use Rattle.tilt_syntax.specs.Tree.{ExprTree, StatementTree}
use Rattle.tilt_syntax.proofs.Statements.{statement-comes, told, told-inj, tells}
use Rattle.tilt_syntax.proofs.Steady.{one_answer}
use Rattle.tilt_syntax.proofs.Whole.{same_tree, whole}

pub one_expr : (ts : List Tok) (a b : ExprTree) → IsExpr 0 ts a → IsExpr 0 ts b → a ≡ b
one_expr ts a b ha hb = same_tree a b [] [] (one_answer (whole ts a ha) (whole ts b hb))

pub one_statement : (ts : List Tok) (a b : StatementTree) → IsStatement ts a → IsStatement ts b → a ≡ b
one_statement ts a b ha hb =
    told-inj a b (one_answer (statement-comes ts a ha tells (Some (told a)) done) (statement-comes ts b hb tells (Some (told b)) done))

-- statements are read one by one
one_list : (ss : List (List Tok)) (p q : List StatementTree) → AreGood ss p → AreGood ss q → p ≡ q
one_list [] [] [] g h = refl
one_list [] [] (b ∷ q) g h = absurd h
one_list [] (a ∷ p) q g h = absurd g
one_list (ts ∷ ss) [] q g h = absurd g
one_list (ts ∷ ss) (a ∷ p) [] g h = absurd h
one_list (ts ∷ ss) (a ∷ p) (b ∷ q) g h =
    let first = one_statement ts a b g.0.parsed h.0.parsed in
    let others = one_list ss p q g.1 h.1 in
    cc

pub one_query : (ts : List Tok) (p q : List StatementTree) → IsQueryOf ts p → IsQueryOf ts q → p ≡ q
one_query ts p q g h = one_list (statements ts) p q g.good h.good
