-- The statements of a query over whole numbers, one by one.
use Rattle.std.proofs.Common.{◌≡◌, ◌≤◌, true, List, [], ◌∷◌, length, refl, arith}
use Rattle.tilt_core.specs.CoreTree.{Definition}
use Rattle.tilt_syntax.specs.Tree.{StatementTree, Input, Let, Emit}
use Rattle.tilt_unit_text.specs.Named.{is_definition, whole_statement, whole_statements}

-- without a definition of the core a definition is left out
pub left_out : (s : StatementTree) (more : List StatementTree) (defs : List Definition) → is_definition s ≡ true → length defs ≡ 0
    → whole_statements more defs ≡ whole_statements (s ∷ more) defs
left_out (Input x) more defs h n = absurd (cc h)
left_out (Let x e o g) more [] h n = refl
left_out (Let x e o g) more (d ∷ defs) h n = absurd (omega arith)
left_out (Emit e o g) more [] h n = refl
left_out (Emit e o g) more (d ∷ defs) h n = absurd (omega arith)

-- with one it has that one's numbers
pub put_in : (s : StatementTree) (more : List StatementTree) (def : Definition) (defs : List Definition) → is_definition s ≡ true
    → whole_statements (s ∷ more) (def ∷ defs) ≡ whole_statement s def ∷ whole_statements more defs
put_in (Input x) more def defs h = absurd (cc h)
put_in (Let x e o g) more def defs h = refl
put_in (Emit e o g) more def defs h = refl

-- there are no more statements than before
pub no_more : (q : List StatementTree) (defs : List Definition) → length (whole_statements q defs) ≤ length q
no_more [] defs = omega arith
no_more (Input x ∷ q) defs = omega (arith, no_more q defs)
no_more (Let x e o g ∷ q) [] = omega (arith, no_more q [])
no_more (Let x e o g ∷ q) (d ∷ defs) = omega (arith, no_more q defs)
no_more (Emit e o g ∷ q) [] = omega (arith, no_more q [])
no_more (Emit e o g ∷ q) (d ∷ defs) = omega (arith, no_more q defs)
