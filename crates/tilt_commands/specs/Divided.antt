-- A query that is run in parts: where its output domain may be cut, which parts steps may name, and its outcome.
use Rattle.std.specs.Prelude.{◌≡◌, ◌++◌, ◌||◌, ℕ, ℤ, int_le, nat_lt, List, length, map, Option, Some, None, option_map, option_and_then}
use Rattle.std.specs.List.{find}
use Rattle.std.specs.Option.{option_or}
use Rattle.tilt_base.specs.declared.span.Span.{Span}
use Rattle.tilt_compiler.specs.Compiled.{given}
use Rattle.tilt_core.specs.Core.{CoreParts, domain_of}
use Rattle.tilt_core.specs.Meaning.{output_of}
use Rattle.tilt_load.specs.QueryFile.{TakesQuery, RefusesQuery}
use Rattle.tilt_parts.specs.Parts.{stretches}
use Rattle.tilt_printed.specs.Sizes.{parts_line}
use Rattle.tilt_report.specs.Report.{Reason, Outcome, printed, part_outside, no_such_part}
use Rattle.tilt_stream.specs.Snap.{Snapshot}
use Rattle.tilt_stream.specs.Text.{text_of}

-- the first cut that isn't inside a domain
abbrev pub first_outside : Span → List ℤ → Option ℤ
first_outside domain cuts = find (λ cut. int_le cut domain.start || int_le domain.end cut) cuts

-- the first number of an order that is above the number of cuts, which is the number of the last part
abbrev pub first_unnamed : ℕ → List ℕ → Option ℕ
first_unnamed count order = find (λ part. nat_lt count part) order

-- Why a domain can't be cut so, or parts can't be stepped in this order. It is the first cut that isn't inside it, or else the first number that names no part.
abbrev pub fault_within : List ℤ → List ℕ → Span → Option Reason
fault_within cuts order domain =
    option_or (option_map part_outside (first_outside domain cuts)) (option_map no_such_part (first_unnamed (length cuts) order))

-- the same of a query's output domain
abbrev pub parts_fault : List ℤ → List ℕ → CoreParts → Option Reason
parts_fault cuts order core = option_and_then (fault_within cuts order) (domain_of core.defs)

-- the query in a file is taken, and its output domain can be cut so and stepped in this order
pub record TakesParts (cuts : List ℤ) (order : List ℕ) (bytes : List ℕ) (core : CoreParts) : Type 0 where
  pub taken : TakesQuery bytes core
  pub fits : parts_fault cuts order core ≡ None

-- why the query file of a name isn't run so: the query is rejected, or it is taken and can't be cut or stepped so
pub data RefusesParts (name : List ℕ) (cuts : List ℤ) (order : List ℕ) (bytes : List ℕ) : Reason → Type 0 where
  no_query : {why : Reason} → RefusesQuery name bytes why → RefusesParts name cuts order bytes why
  no_parts : {why : Reason} (core : CoreParts) → TakesQuery bytes core → parts_fault cuts order core ≡ Some why
      → RefusesParts name cuts order bytes why

-- how many snapshots a query gives on each of these stretches
abbrev pub sizes_on : CoreParts → List (List Snapshot) → List Span → List ℕ
sizes_on core rows spans = map (λ span. length (given core rows span.start span.end)) spans

-- The outcome is the text of the snapshots of the query's meaning on its output domain, and then a line. The line says how many it gives
-- on each of the parts that the cuts make.
pub record IsParted (cuts : List ℤ) (core : CoreParts) (rows : List (List Snapshot)) (outcome : Outcome) : Type 0 where
  pub list : List Snapshot
  pub domain : Span
  pub means : output_of core rows ≡ Some list
  pub stretch : domain_of core.defs ≡ Some domain
  pub is : outcome ≡ printed (text_of list ++ parts_line (sizes_on core rows (stretches domain.start cuts domain.end)))
