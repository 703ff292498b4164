-- What reading finds if the tokens are an expression, all of them.
use Rattle.std.proofs.Common.{◌≡◌, List, [], Option, Some, None, refl, ap, append-nil}
use Rattle.tilt_lexer.specs.declared.token.Tok.{Tok}
use Rattle.tilt_syntax.specs.Descent.{Found, Comes, Reading, plan_of, done}
use Rattle.tilt_syntax.specs.Grammar.{IsExpr}
use Rattle.tilt_syntax.specs.Tree.{ExprTree}
use Rattle.tilt_syntax.specs.declared.level.Level.TheVariants.{Choice}
use Rattle.tilt_syntax.proofs.Complete.{complete, stops-end}

-- reading the whole tokens finds the expression that they are, and leaves nothing
pub whole : (ts : List Tok) (e : ExprTree) → IsExpr 0 ts e → Comes (plan_of (Reading Choice ts)) (Some (record { tree = e; rest = [] }))
whole ts e h = rw append-nil at (complete Choice 0 ts e h refl [] (Some (record { tree = e; rest = [] })) (stops-end 1) done)

-- the tree of what was found, or another
abbrev tree_of : ExprTree → Option Found → ExprTree
tree_of e None = e
tree_of e (Some f) = f.tree

-- the tokens after it
abbrev rest_of : List Tok → Option Found → List Tok
rest_of ts None = ts
rest_of ts (Some f) = f.rest

pub same_tree : (a b : ExprTree) (ts us : List Tok)
    → (let x : Option Found = Some (record { tree = a; rest = ts }) in x ≡ Some (record { tree = b; rest = us })) → a ≡ b
same_tree a b ts us e = ap (tree_of a) e

pub same_rest : (a b : ExprTree) (ts us : List Tok)
    → (let x : Option Found = Some (record { tree = a; rest = ts }) in x ≡ Some (record { tree = b; rest = us })) → ts ≡ us
same_rest a b ts us e = ap (rest_of ts) e
