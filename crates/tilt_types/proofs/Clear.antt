-- What a statement without a fault keeps.
use Rattle.std.proofs.Common.{◌≡◌, ℕ, zero, suc, ◌+◌, ◌<◌, Bool, true, false, not, ◌&&◌, if◌then◌else◌, List, [], ◌∷◌, ◌++◌, length, map, get_or, Option, Some, None, refl, arith}
use Rattle.std.specs.Option.{option_or}
use Rattle.std.proofs.lemmas.Int.{ints}
use Rattle.std.proofs.lemmas.Bool.{and_parts}
use Rattle.tilt_base.specs.Grid.{GridPoints, is_grid}
use Rattle.tilt_syntax.specs.Tree.{ExprTree, StatementTree, Input, Let, Emit, statement_tree}
use Rattle.tilt_base.specs.declared.span.Span.{Span}
use Rattle.tilt_syntax.specs.declared.every.Every.{Every}
use Rattle.tilt_syntax.specs.declared.statement.Statement.{Statement}
use Rattle.tilt_core.specs.Core.{IsStretch}
use Rattle.tilt_types.specs.Types.{type_of}
use Rattle.tilt_types.specs.WellFormed.{declared_by, domain_fault, expr_fault, fault_of, first_fault, has_bounds_on, has_windows}
use Rattle.tilt_types.specs.WellFormed.{grid_of, is_declared, is_domain, is_fitting, is_stretch, knows_names, name_fault, statement_grid}
use Rattle.tilt_types.specs.declared.declared.Declared.{Declared}
use Rattle.tilt_types.specs.declared.fault.CheckFault.{CheckFault}

-- no fault of two is none of each
pub neither : (f g : Option CheckFault) → option_or f g ≡ None → (f ≡ None) × (g ≡ None)
neither None g h = (refl, h)
neither (Some f) g h = cc

not_faulty : (b : Bool) (f : CheckFault) (rest : Option CheckFault) → (if not b then Some f else rest) ≡ None → (b ≡ true) × (rest ≡ None)
not_faulty true f rest h = (refl, h)
not_faulty false f rest h = cc

not_told : (b : Bool) (f : CheckFault) → (if b then Some f else None) ≡ None → b ≡ false
not_told true f h = cc
not_told false f h = refl

pub name-clear : (n : ℕ) (declared : List Declared) (name : List ℕ) → name_fault n declared name ≡ None → is_declared declared name ≡ false
name-clear n declared name h = not_told (is_declared declared name) _ h

-- what an expression without a fault keeps
pub record IsClear (declared : List Declared) (emitted : Bool) (e : ExprTree) : Type 0 where
  pub known : knows_names declared e ≡ true
  pub typed : is_fitting emitted (type_of declared e) ≡ true
  pub windows : has_windows e ≡ true

pub expr-clear : (n : ℕ) (declared : List Declared) (emitted : Bool) (e : ExprTree) → expr_fault n declared emitted e ≡ None → IsClear declared emitted e
expr-clear n declared emitted e h =
    let first = not_faulty (knows_names declared e) _ _ h in
    let second = not_faulty (is_fitting emitted (type_of declared e)) _ _ first.1 in
    let third = not_faulty (has_windows e) _ _ second.1 in
    record { known = first.0; typed = second.0; windows = third.0 }

pub domain-clear : (n : ℕ) (over : Option Span) (every : Option Every) → domain_fault n over every ≡ None → is_domain over every ≡ true
domain-clear n over every h = (not_faulty (is_domain over every) _ _ h).0

pub stretch-IsStretch : (over : Option Span) → is_stretch over ≡ true → IsStretch over
stretch-IsStretch None h = tt
stretch-IsStretch (Some span) h = (grind (arith, ints), grind (arith, ints), grind (arith, ints))

-- the parts of a domain
pub domain-grid : (over : Option Span) (every : Option Every) → is_domain over every ≡ true → is_grid (grid_of every) ≡ true
domain-grid over every h =
    (and_parts (is_grid (grid_of every)) (is_stretch over) (and_parts (is_grid (grid_of every) && is_stretch over) (has_bounds_on over (grid_of every)) h).0).0

pub domain-stretch : (over : Option Span) (every : Option Every) → is_domain over every ≡ true → is_stretch over ≡ true
domain-stretch over every h =
    (and_parts (is_grid (grid_of every)) (is_stretch over) (and_parts (is_grid (grid_of every) && is_stretch over) (has_bounds_on over (grid_of every)) h).0).1

-- the grid of a statement without a fault is one
grid-clear : (n : ℕ) (declared : List Declared) (s : StatementTree) → fault_of n declared s ≡ None → is_grid (statement_grid s) ≡ true
grid-clear n declared (Input name) h = refl
grid-clear n declared (Let name e over every) h =
    domain-grid over every (domain-clear n over every (neither (option_or (name_fault n declared name) (expr_fault n declared false e)) (domain_fault n over every) h).1)
grid-clear n declared (Emit e over every) h =
    domain-grid (Some over) every (domain-clear n (Some over) every (neither (expr_fault n declared true e) (domain_fault n (Some over) every) h).1)

pub grids-clear : (n : ℕ) (declared : List Declared) (statements : List Statement) → first_fault n declared (map statement_tree statements) ≡ None
    → (i : ℕ) (s : Statement) → i < length statements → s ≡ get_or statements i s → is_grid (statement_grid (statement_tree s)) ≡ true
grids-clear n declared [] h i s lt is = absurd (omega (arith, lt))
grids-clear n declared (x ∷ statements) h zero s lt is =
    let here = neither (fault_of n declared (statement_tree x)) (first_fault (n + 1) (declared ++ declared_by declared (statement_tree x)) (map statement_tree statements)) h in
    rw is (grid-clear n declared (statement_tree x) here.0)
grids-clear n declared (x ∷ statements) h (suc i) s lt is =
    let here = neither (fault_of n declared (statement_tree x)) (first_fault (n + 1) (declared ++ declared_by declared (statement_tree x)) (map statement_tree statements)) h in
    grids-clear (n + 1) (declared ++ declared_by declared (statement_tree x)) statements here.1 i s (omega (arith, lt)) is
