-- A query's fault is never that memory ran out: that is no fault of its own.
use Rattle.std.proofs.Common.{◌≡◌, ◌+◌, ◌++◌, ℕ, Bool, true, false, not, if◌then◌else◌, List, [], ◌∷◌, Option, None, Some, Err}
use Rattle.std.specs.Option.{option_or}
use Rattle.tilt_base.specs.declared.span.Span.{Span}
use Rattle.tilt_core.specs.Core.{CoreParts}
use Rattle.tilt_syntax.specs.Tree.{ExprTree, StatementTree, Input, Let, Emit}
use Rattle.tilt_syntax.specs.declared.every.Every.{Every}
use Rattle.tilt_types.specs.Checked.{checked, core_of, core_unless}
use Rattle.tilt_types.specs.Types.{type_of}
use Rattle.tilt_types.specs.WellFormed.{declared_by, domain_fault, expr_fault, fault_of, first_fault, has_windows, is_declared, is_domain, is_fitting, knows_names, name_fault}
use Rattle.tilt_types.specs.declared.declared.Declared.{Declared}
use Rattle.tilt_types.specs.declared.fault.CheckFault.{CheckFault}
use Rattle.tilt_types.specs.declared.fault.CheckFault.TheVariants as fault

-- a fault, if there is one, isn't out of memory
abbrev IsOther : Option CheckFault → Type 0
IsOther found = found ≡ Some fault.OutOfMemory → ⊥

either_other : (a b : Option CheckFault) → IsOther a → IsOther b → IsOther (option_or a b)
either_other None b one two e = two e
either_other (Some f) b one two e = one e

if_other : (test : Bool) (f : CheckFault) (more : Option CheckFault) → IsOther (Some f) → IsOther more → IsOther (if test then Some f else more)
if_other true f more one two e = one e
if_other false f more one two e = two e

name_other : (n : ℕ) (declared : List Declared) (name : List ℕ) → IsOther (name_fault n declared name)
name_other n declared name = if_other (is_declared declared name) (fault.NameTaken n) None (λ e. cc e) (λ e. cc e)

expr_other : (n : ℕ) (declared : List Declared) (emitted : Bool) (e : ExprTree) → IsOther (expr_fault n declared emitted e)
expr_other n declared emitted e =
    if_other (not (knows_names declared e)) (fault.UnknownName n) _ (λ e. cc e)
    (if_other (not (is_fitting emitted (type_of declared e))) (fault.TypeMismatch n) _ (λ e. cc e)
    (if_other (not (has_windows e)) (fault.BadWindow n) None (λ e. cc e) (λ e. cc e)))

domain_other : (n : ℕ) (over : Option Span) (every : Option Every) → IsOther (domain_fault n over every)
domain_other n over every = if_other (not (is_domain over every)) (fault.BadDomain n) None (λ e. cc e) (λ e. cc e)

statement_other : (n : ℕ) (declared : List Declared) (s : StatementTree) → IsOther (fault_of n declared s)
statement_other n declared (Input name) = name_other n declared name
statement_other n declared (Let name e over every) =
    either_other (option_or (name_fault n declared name) (expr_fault n declared false e)) (domain_fault n over every)
    (either_other (name_fault n declared name) (expr_fault n declared false e) (name_other n declared name) (expr_other n declared false e))
    (domain_other n over every)
statement_other n declared (Emit e over every) =
    either_other (expr_fault n declared true e) (domain_fault n (Some over) every) (expr_other n declared true e) (domain_other n (Some over) every)

first_other : (n : ℕ) (declared : List Declared) (query : List StatementTree) → IsOther (first_fault n declared query)
first_other n declared [] = λ e. cc e
first_other n declared (s ∷ query) =
    either_other (fault_of n declared s) (first_fault (n + 1) (declared ++ declared_by declared s) query) (statement_other n declared s)
    (first_other (n + 1) (declared ++ declared_by declared s) query)

unless_other : (found : Option CheckFault) (core : CoreParts) → IsOther found → core_unless found core ≡ Err fault.OutOfMemory → ⊥
unless_other None core other e = cc e
unless_other (Some f) core other e =
    let same : f ≡ fault.OutOfMemory = cc e in
    other (λ i. Some (same i))

pub never-memory : (query : List StatementTree) → checked query ≡ Err fault.OutOfMemory → ⊥
never-memory query = unless_other (first_fault 1 [] query) (core_of query) (first_other 1 [] query)
