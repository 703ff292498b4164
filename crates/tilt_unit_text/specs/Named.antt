-- The query over whole numbers as statements: the query's own, with the numbers and the factors of its core (our own rule).
use Rattle.std.specs.Prelude.{ℤ, pos, Bool, true, false, List, [], ◌∷◌}
use Rattle.tilt_base.specs.Expression.{Leaf, One, Two, If}
use Rattle.tilt_base.specs.declared.operator.Op2.TheVariants.{Mul}
use Rattle.tilt_core.specs.CoreTree.{CoreTree, Const, Read as CoreRead, Reduce as CoreReduce, Definition}
use Rattle.tilt_syntax.specs.Tree.{ExprTree, StatementTree, Num, Truth, Read, Reduce, Input, Let, Emit}

-- the parts of an expression of a core; itself if it has no such part
abbrev pub first : CoreTree → CoreTree
first (Leaf leaf) = Leaf leaf
first (One op a) = a
first (Two op a b) = a
first (If c a b) = c

abbrev pub second : CoreTree → CoreTree
second (Leaf leaf) = Leaf leaf
second (One op a) = One op a
second (Two op a b) = b
second (If c a b) = a

abbrev pub third : CoreTree → CoreTree
third (Leaf leaf) = Leaf leaf
third (One op a) = One op a
third (Two op a b) = Two op a b
third (If c a b) = b

-- the number that an expression of a core is, or another one
abbrev pub number_or : CoreTree → ℤ → ℤ
number_or (Leaf (Const n)) other = n
number_or (Leaf (CoreRead source offset)) other = other
number_or (Leaf (CoreReduce r source from to)) other = other
number_or (One op a) other = other
number_or (Two op a b) other = other
number_or (If c a b) other = other

-- whether an operand is multiplied over whole numbers: it has one product more on its right side
abbrev pub is_raised : ExprTree → CoreTree → Bool
is_raised (Two Mul a b) (Two Mul x y) = is_raised b y
is_raised e (Two Mul x y) = true
is_raised e t = false

-- an operand, multiplied by the factor of its tree if it is raised
abbrev pub with_factor : Bool → CoreTree → (CoreTree → ExprTree) → ExprTree
with_factor false t named = named t
with_factor true t named = Two Mul (Leaf (Num (number_or (first t) (pos 1)))) (named (second t))

-- an expression of a query, with the numbers of its tree over whole numbers
abbrev pub named : ExprTree → CoreTree → ExprTree
named (Leaf (Num n)) t = Leaf (Num (number_or t n))
named (Leaf (Truth holds)) t = Leaf (Truth holds)
named (Leaf (Read name offset)) t = Leaf (Read name offset)
named (Leaf (Reduce r name from to)) t = Leaf (Reduce r name from to)
named (One op a) t = One op (named a (first t))
named (Two op a b) t =
    Two op (with_factor (is_raised a (first t)) (first t) (λ x. named a x))
    (with_factor (is_raised b (second t)) (second t) (λ y. named b y))
named (If c a b) t =
    If (named c (first t)) (with_factor (is_raised a (second t)) (second t) (λ x. named a x))
    (with_factor (is_raised b (third t)) (third t) (λ y. named b y))

abbrev pub operand : ExprTree → CoreTree → ExprTree
operand e t = with_factor (is_raised e t) t (λ x. named e x)

-- whether a statement is a definition
abbrev pub is_definition : StatementTree → Bool
is_definition (Input name) = false
is_definition (Let name e over every) = true
is_definition (Emit e over every) = true

-- a statement with the numbers of a definition over whole numbers
abbrev pub whole_statement : StatementTree → Definition → StatementTree
whole_statement (Input name) def = Input name
whole_statement (Let name e over every) def = Let name (named e def.body) over every
whole_statement (Emit e over every) def = Emit (named e def.body) over every

-- a query with the numbers of its definitions over whole numbers; a definition without one is left out
abbrev pub whole_statements : List StatementTree → List Definition → List StatementTree
whole_statements [] defs = []
whole_statements (Input name ∷ query) defs = Input name ∷ whole_statements query defs
whole_statements (Let name e over every ∷ query) [] = whole_statements query []
whole_statements (Let name e over every ∷ query) (def ∷ defs) = whole_statement (Let name e over every) def ∷ whole_statements query defs
whole_statements (Emit e over every ∷ query) [] = whole_statements query []
whole_statements (Emit e over every ∷ query) (def ∷ defs) = whole_statement (Emit e over every) def ∷ whole_statements query defs
