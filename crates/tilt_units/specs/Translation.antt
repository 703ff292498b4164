-- Queries in units, and what they are over whole numbers.
use Rattle.std.specs.Prelude.{ℕ, ◌+◌, nat_lt, if◌then◌else◌, List, [], ◌∷◌, ◌++◌, length, map, Option, Result, Ok, Err}
use Rattle.tilt_base.specs.Grid.{GridPoints}
use Rattle.tilt_base.specs.declared.span.Span.{Span}
use Rattle.tilt_core.specs.CoreTree.{Definition, nodes}
use Rattle.tilt_units.specs.DecimalTree.{UnitTree, unit_tree}
use Rattle.tilt_units.specs.Scaling.{and_then, scaled}
use Rattle.tilt_units.specs.declared.definition.DecimalDef.{DecimalDef}
use Rattle.tilt_units.specs.declared.fault.ScaleFault.{ScaleFault}
use Rattle.tilt_units.specs.declared.fault.ScaleFault.TheVariants as fault
use Rattle.tilt_units.specs.declared.place.Place.{Place}
use Rattle.tilt_units.specs.declared.quantity.Quantity.{Quantity}
use Rattle.tilt_units.specs.declared.quantity.Quantity.TheVariants as quantity
use Rattle.tilt_units.specs.declared.translated.Translated.{Translated}

-- an expression in units, taken on a grid and then restricted to a span, where there is one
pub record UnitDefinition : Type 0 where
  pub body : UnitTree
  pub over : Option Span
  pub grid : GridPoints

-- definitions over whole numbers, and what each source represents: the inputs, then these definitions
pub record ScaledQuery : Type 0 where
  pub defs : List Definition
  pub quantities : List Quantity

-- the same of what is in memory
abbrev pub unit_definition : DecimalDef → UnitDefinition
unit_definition d = record { body = unit_tree d.body; over = d.over; grid = d.grid }

abbrev pub query_of : Translated → ScaledQuery
query_of q = record { defs = q.defs.items; quantities = q.quantities.items }

-- inputs are numbers at their scales
abbrev pub input_quantities : List ℕ → List Quantity
input_quantities scales = map quantity.Number scales

-- the first node of a definition's body
abbrev pub start_of : ℕ → Place
start_of number = record { definition = number; node = 0 }

-- a query with one more definition, over the sources so far
abbrev pub scaled_definition : ScaledQuery → UnitDefinition → Result ScaledQuery ScaleFault
scaled_definition query def =
    if nat_lt 256 (nodes def.body) then Err (fault.BodyTooLarge (start_of (length query.defs)))
    else and_then (scaled query.quantities (start_of (length query.defs)) def.body) (λ x.
    Ok (record {
      defs = query.defs ++ record { body = x.tree; over = def.over; grid = def.grid } ∷ [];
      quantities = query.quantities ++ x.quantity ∷ [];
    }))

-- a query with more definitions, each over the sources before it, or the first fault
abbrev pub more_definitions : ScaledQuery → List UnitDefinition → Result ScaledQuery ScaleFault
more_definitions query [] = Ok query
more_definitions query (def ∷ defs) = and_then (scaled_definition query def) (λ next. more_definitions next defs)

-- the query over whole numbers, if the inputs have these scales
abbrev pub translated : List ℕ → List UnitDefinition → Result ScaledQuery ScaleFault
translated scales defs =
    if nat_lt 256 (length scales + length defs) then Err fault.TooManySources
    else more_definitions (record { defs = []; quantities = input_quantities scales }) defs
