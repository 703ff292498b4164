-- What a function of the parser finds at the beginning of its tokens, and what it leaves of them.
use Rattle.std.specs.Prelude.{◌≤◌, List, length, Option, Some, None, IfSome, MatchOption}
use Rattle.std.specs.Borrow.{Bor}
use Rattle.tilt_lexer.specs.declared.token.Tok.{Tok}
use Rattle.tilt_lexer.specs.declared.token.Token.{Token}
use Rattle.tilt_syntax.specs.Descent.{Plan, Found, Comes}
use Rattle.tilt_syntax.specs.Query.{kinds, AreSound}
use Rattle.tilt_syntax.specs.Tree.{expr_tree}
use Rattle.tilt_syntax.specs.declared.expr.Expr.{Expr}

-- no more tokens are left, and sound ones
pub record IsRest (ts rest : List Tok) : Type 0 where
  pub fewer : length rest ≤ length ts
  pub sound : AreSound ts → AreSound rest

-- the plan results in this expression, or in none, and leaves a rest of the tokens
pub record Finds (plan : Plan) (ts : List Tok) (found : Option Found) : Type 0 where
  pub comes : Comes plan found
  pub rest : IfSome found (λ f. IsRest ts f.rest)

-- the same of an expression in memory
abbrev pub FindsExpr : Plan → List Tok → Option (Expr × Bor (List Token)) → Type 0
FindsExpr plan ts found =
    MatchOption found (Finds plan ts None) (λ x. Finds plan ts (Some (record { tree = expr_tree x.0; rest = kinds x.1.now })))

-- the tokens begin with the part: a plan that asks for it goes on after it, and a rest of the tokens is left
pub record HasPart {V : Type 0} (plan : (V → List Tok → Plan) → Plan) (ts : List Tok) (part : V) (left : List Tok) : Type 0 where
  pub goes_on : (behind : V → List Tok → Plan) (found : Option Found) → Comes (behind part left) found → Comes (plan behind) found
  pub rest : IsRest ts left

-- the tokens begin with the part, or with none, and then a plan that asks for one results in nothing
abbrev pub FindsPart : {V : Type 0} → ((V → List Tok → Plan) → Plan) → List Tok → Option (V × Bor (List Token)) → Type 0
FindsPart {V = V} plan ts found =
    MatchOption found ((behind : V → List Tok → Plan) → Comes (plan behind) None) (λ x. HasPart plan ts x.0 (kinds x.1.now))
