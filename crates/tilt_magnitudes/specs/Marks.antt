-- How many snapshots a window can meet: in so many ticks at most one more than its source can have marks, and at most one a tick.
use Rattle.std.specs.Prelude.{ℕ, zero, suc, ◌+◌, ◌*◌, ◌/◌, ◌≤◌, min, ℤ, pos, ◌+ℤ◌, Bool, if◌then◌else◌, List, [], ◌∷◌, ◌++◌, Option, Some, None, unsigned_abs, ◌==◌, map}
use Rattle.std.specs.List.{AllZip, slice_index_or}
use Rattle.std.specs.Ordering.{int_eq}
use Rattle.tilt_base.specs.Expression.{Leaf, One, Two, If}
use Rattle.tilt_base.specs.Grid.{GridPoints}
use Rattle.tilt_base.specs.declared.span.Span.{Span}
use Rattle.tilt_core.specs.CoreTree.{Const, Read, Reduce, CoreTree, Definition}
use Rattle.tilt_core.specs.Meaning.{source_of}
use Rattle.tilt_magnitudes.specs.declared.met.Rate.{Rate}
use Rattle.tilt_stream.specs.Snap.{Snapshot}
use Rattle.tilt_stream.specs.Stream.{Stream, mark_at}

-- how many of so many ticks after a tick pass a test
abbrev pub count_behind : (ℤ → Bool) → ℤ → ℕ → ℕ
count_behind test tick zero = 0
count_behind test tick (suc more) = (if test (tick +ℤ pos 1) then 1 else 0) + count_behind test (tick +ℤ pos 1) more

-- in any so many ticks at most so many pass a test
abbrev pub HasAtMost : ℕ → ℕ → (ℤ → Bool) → Type 0
HasAtMost most ticks test = (tick : ℤ) → count_behind test tick ticks ≤ most

-- at most so many in any `ticks` ticks: how many in others, which as many stretches and one more cover
abbrev pub in_ticks : ℕ → ℕ → ℕ → ℕ
in_ticks most ticks others = most * (others / ticks + 1)

-- how many marks the source with a number can have; one that isn't known has none
abbrev pub marks_at : List ℕ → ℕ → ℕ
marks_at marks source = slice_index_or marks source 0

-- how many marks an expression can have: those of its leaves, and a window has two for each of its source
abbrev pub marks_of_body : List ℕ → CoreTree → ℕ
marks_of_body marks (Leaf (Const number)) = 0
marks_of_body marks (Leaf (Read source offset)) = marks_at marks source
marks_of_body marks (Leaf (Reduce reducer source from to)) = marks_at marks source + marks_at marks source
marks_of_body marks (One op a) = marks_of_body marks a
marks_of_body marks (Two op a b) = marks_of_body marks a + marks_of_body marks b
marks_of_body marks (If c a b) = marks_of_body marks c + marks_of_body marks a + marks_of_body marks b

-- on a grid there is at most one at each grid point
abbrev pub marks_on_grid : ℕ → GridPoints → ℕ → ℕ
marks_on_grid ticks grid marks = if int_eq grid.period (pos 1) then marks else in_ticks 1 (unsigned_abs grid.period) ticks

-- a span has marks at its two ends
abbrev pub marks_over : Option Span → ℕ → ℕ
marks_over None marks = marks
marks_over (Some span) marks = 2 + marks

-- how many marks a definition can have in so many ticks
abbrev pub marks_of_definition : ℕ → List ℕ → Definition → ℕ
marks_of_definition ticks marks def = min ticks (marks_over def.over (marks_on_grid ticks def.grid (marks_of_body marks def.body)))

-- and more definitions, each over the sources before it
abbrev pub more_marks : ℕ → List ℕ → List Definition → List ℕ
more_marks ticks marks [] = marks
more_marks ticks marks (def ∷ defs) = more_marks ticks (marks ++ marks_of_definition ticks marks def ∷ []) defs

-- how many marks an input can have in so many ticks
abbrev pub input_marks : ℕ → Rate → ℕ
input_marks ticks rate = if rate.ticks == 0 then ticks else min ticks (in_ticks rate.marks rate.ticks ticks)

-- how many marks each source of a query can have, if its inputs have these rates
abbrev pub marks_in : List Rate → List Definition → ℕ → List ℕ
marks_in rates defs ticks = more_marks ticks (map (input_marks ticks) rates) defs

-- the rows of each input have marks at its rate
abbrev pub HaveRates : List Rate → List (List Snapshot) → Type 0
HaveRates rates rows = AllZip (λ (rate : Rate) (list : List Snapshot). HasAtMost rate.marks rate.ticks (mark_at list)) rates rows

-- each source has at most so many marks in any so many ticks
abbrev pub HaveMarks : ℕ → List ℕ → List Stream → Type 0
HaveMarks ticks marks xs = (number : ℕ) → HasAtMost (marks_at marks number) ticks (source_of xs number).mark

-- how many snapshots of a source a window of so many ticks can meet
abbrev pub snapshots_met : ℕ → List ℕ → ℕ → ℕ
snapshots_met ticks marks source = min ticks (1 + marks_at marks source)
