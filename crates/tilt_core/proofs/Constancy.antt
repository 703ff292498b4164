-- Every source of a query changes only at marks.
use Rattle.std.proofs.Common.{ℕ, zero, suc, List, [], ◌∷◌, ◌++◌, map, Option, Some, None}
use Rattle.tilt_base.specs.Expression.{Leaf, One, Two, If}
use Rattle.tilt_base.specs.Grid.{IsGrid}
use Rattle.tilt_stream.proofs.Constancy.{stream_of-changes, constant-changes, shifted-changes, lifted1-changes, lifted2-changes, branched-changes, windowed-changes, on_grid-changes}
use Rattle.tilt_stream.proofs.Constancy.{restricted-changes}
use Rattle.tilt_stream.specs.Agreement.{ChangesOnlyAtMarks}
use Rattle.tilt_stream.specs.Domain.{on_grid}
use Rattle.tilt_stream.specs.Snap.{Snapshot}
use Rattle.tilt_stream.specs.Stream.{Stream, stream_of}
use Rattle.tilt_base.specs.declared.span.Span.{Span}
use Rattle.tilt_core.specs.Core.{AreDefinitions}
use Rattle.tilt_core.specs.CoreTree.{Const, Read, Reduce, CoreTree, Definition}
use Rattle.tilt_core.specs.Meaning.{AreGrids, source_of, body_of, within, definition_of, with_definitions, meaning}

within-changes : (span : Option Span) (x : Stream) → ChangesOnlyAtMarks x → ChangesOnlyAtMarks (within span x)
within-changes None x h = h
within-changes (Some span) x h = restricted-changes span.start span.end x h

-- each of the sources changes only at marks
pub record AllChangeOnlyAtMarks (xs : List Stream) : Type 0 where
  pub each : (source : ℕ) → ChangesOnlyAtMarks (source_of xs source)

body_of-changes : (xs : List Stream) → AllChangeOnlyAtMarks xs → (body : CoreTree) → ChangesOnlyAtMarks (body_of xs body)
body_of-changes xs h (Leaf (Const number)) = constant-changes (Some number)
body_of-changes xs h (Leaf (Read source offset)) = shifted-changes (source_of xs source) offset (h.each source)
body_of-changes xs h (Leaf (Reduce reducer source from to)) = windowed-changes reducer from to (source_of xs source) (h.each source)
body_of-changes xs h (One op a) = lifted1-changes op (body_of xs a) (body_of-changes xs h a)
body_of-changes xs h (Two op a b) = lifted2-changes op (body_of xs a) (body_of xs b) (body_of-changes xs h a) (body_of-changes xs h b)
body_of-changes xs h (If c a b) = branched-changes (body_of xs c) (body_of xs a) (body_of xs b) (body_of-changes xs h c) (body_of-changes xs h a) (body_of-changes xs h b)

definition_of-changes : (xs : List Stream) → AllChangeOnlyAtMarks xs → (def : Definition) → IsGrid def.grid → ChangesOnlyAtMarks (definition_of xs def)
definition_of-changes xs h def valid = within-changes def.over (on_grid def.grid (body_of xs def.body)) (on_grid-changes def.grid (body_of xs def.body) valid (body_of-changes xs h def.body))

source_of_rows : (inputs : List (List Snapshot)) (source : ℕ) → ChangesOnlyAtMarks (source_of (map stream_of inputs) source)
source_of_rows [] source = constant-changes None
source_of_rows (rows ∷ inputs) zero = stream_of-changes rows
source_of_rows (rows ∷ inputs) (suc source) = source_of_rows inputs source

source_of_more : (xs : List Stream) (x : Stream) → ((source : ℕ) → ChangesOnlyAtMarks (source_of xs source)) → ChangesOnlyAtMarks x
    → (source : ℕ) → ChangesOnlyAtMarks (source_of (xs ++ x ∷ []) source)
source_of_more [] x h g zero = g
source_of_more [] x h g (suc source) = constant-changes None
source_of_more (y ∷ ys) x h g zero = h 0
source_of_more (y ∷ ys) x h g (suc source) = source_of_more ys x (λ n. h (suc n)) g source

with_definitions-changes : (xs : List Stream) → AllChangeOnlyAtMarks xs → (defs : List Definition) → AreGrids defs → AllChangeOnlyAtMarks (with_definitions xs defs)
with_definitions-changes xs h [] valid = h
with_definitions-changes xs h (def ∷ defs) valid =
    with_definitions-changes (xs ++ definition_of xs def ∷ []) (record { each = source_of_more xs (definition_of xs def) h.each (definition_of-changes xs h def valid.0) }) defs valid.1

-- each source of a query whose grids are grids changes only at marks
pub meaning-changes : (inputs : List (List Snapshot)) (defs : List Definition) → AreGrids defs → (source : ℕ) → ChangesOnlyAtMarks (meaning inputs defs source)
meaning-changes inputs defs valid source = (with_definitions-changes (map stream_of inputs) (record { each = source_of_rows inputs }) defs valid).each source

-- the grids of the definitions of an accepted query are grids
pub definitions-AreGrids : (before : ℕ) (defs : List Definition) → AreDefinitions before defs → AreGrids defs
definitions-AreGrids before [] h = tt
definitions-AreGrids before (def ∷ defs) h = (h.0.grid, definitions-AreGrids (suc before) defs h.1)
