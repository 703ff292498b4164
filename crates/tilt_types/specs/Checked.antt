-- The core of a query: its names become numbers (our own rule).
use Rattle.std.specs.Prelude.{◌≡◌, ◌⊎◌, ℕ, zero, suc, ℤ, pos, Bool, if◌then◌else◌}
use Rattle.std.specs.Prelude.{List, [], ◌∷◌, ◌++◌, Option, Some, None, Result, Ok, Err, MatchResult}
use Rattle.std.specs.Str.{bytes_eq}
use Rattle.tilt_base.specs.Expression.{Leaf, One, Two, If}
use Rattle.tilt_syntax.specs.Tree.{Num, Truth, Read, Reduce, ExprTree, StatementTree, Input, Let, Emit}
use Rattle.tilt_base.specs.declared.span.Span.{Span}
use Rattle.tilt_syntax.specs.declared.every.Every.{Every}
use Rattle.tilt_core.specs.Core.{CoreParts}
use Rattle.tilt_core.specs.CoreTree.{CoreTree, Definition, Const, Read as CoreRead, Reduce as CoreReduce}
use Rattle.tilt_types.specs.WellFormed.{first_fault, grid_of}
use Rattle.tilt_types.specs.declared.fault.CheckFault.{CheckFault}
use Rattle.tilt_types.specs.declared.fault.CheckFault.TheVariants.{OutOfMemory}

-- the names of the inputs, in order
abbrev pub input_names : List StatementTree → List (List ℕ)
input_names [] = []
input_names (Input name ∷ query) = name ∷ input_names query
input_names (Let name e over every ∷ query) = input_names query
input_names (Emit e over every ∷ query) = input_names query

-- the names of the definitions, in order
abbrev pub let_names : List StatementTree → List (List ℕ)
let_names [] = []
let_names (Input name ∷ query) = let_names query
let_names (Let name e over every ∷ query) = name ∷ let_names query
let_names (Emit e over every ∷ query) = let_names query

-- the place of a name among names, from 0 on; their number where it is none of them
abbrev pub place_of : List (List ℕ) → List ℕ → ℕ
place_of [] name = zero
place_of (other ∷ names) name = if bytes_eq other name then zero else suc (place_of names name)

-- the number of a truth value
abbrev pub number_of : Bool → ℤ
number_of b = if b then pos 1 else pos 0

-- an expression in which each name is the number that it has among names, and each truth value 1 or 0
abbrev pub numbered : List (List ℕ) → ExprTree → CoreTree
numbered names (Leaf (Num n)) = Leaf (Const n)
numbered names (Leaf (Truth b)) = Leaf (Const (number_of b))
numbered names (Leaf (Read name offset)) = Leaf (CoreRead (place_of names name) offset)
numbered names (Leaf (Reduce r name from to)) = Leaf (CoreReduce r (place_of names name) from to)
numbered names (One op a) = One op (numbered names a)
numbered names (Two op a b) = Two op (numbered names a) (numbered names b)
numbered names (If c a b) = If (numbered names c) (numbered names a) (numbered names b)

-- a definition with this expression, span and grid
abbrev pub definition : List (List ℕ) → ExprTree → Option Span → Option Every → Definition
definition names e over every = record { body = numbered names e; over = over; grid = grid_of every }

-- the definitions, in order
abbrev pub definitions : List (List ℕ) → List StatementTree → List Definition
definitions names [] = []
definitions names (Input name ∷ query) = definitions names query
definitions names (Let name e over every ∷ query) = definition names e over every ∷ definitions names query
definitions names (Emit e over every ∷ query) = definition names e (Some over) every ∷ definitions names query

-- the names of the sources: the inputs in order, and after them the definitions, wherever an input is
abbrev pub source_names : List StatementTree → List (List ℕ)
source_names query = input_names query ++ let_names query

-- the core of a query
abbrev pub core_of : List StatementTree → CoreParts
core_of query = record { inputs = input_names query; names = let_names query; defs = definitions (source_names query) query }

-- the core, unless there is a fault
abbrev pub core_unless : Option CheckFault → CoreParts → Result CoreParts CheckFault
core_unless None core = Ok core
core_unless (Some fault) core = Err fault

-- the core of a query that is well formed, or the first fault
abbrev pub checked : List StatementTree → Result CoreParts CheckFault
checked query = core_unless (first_fault 1 [] query) (core_of query)

-- what is given is the answer, or there was no memory
abbrev pub Gives : Result CoreParts CheckFault → Result CoreParts CheckFault → Type 0
Gives given answer = MatchResult given (λ core. answer ≡ Ok core) (λ fault. (fault ≡ OutOfMemory) ⊎ (answer ≡ Err fault))
