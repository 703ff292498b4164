-- What edits make of rows, or why they make nothing of them (our own rule).
use Rattle.std.specs.Prelude.{ℕ, ◌<◌, ℤ, neg_ℤ, ◌<ℤ◌, ◌≤ℤ◌, Bool, ◌&&◌, not, if◌then◌else◌, int_lt}
use Rattle.std.specs.Prelude.{List, [], ◌∷◌, filter, map, Result, Ok, Err}
use Rattle.std.specs.List.{list_any, slice_index_or}
use Rattle.std.specs.Ordering.{int_eq}
use Rattle.std.specs.Prelude.{slice_set}
use Rattle.tilt_base.specs.declared.limits.TheConstants.{T}
use Rattle.tilt_edits.specs.declared.edit.Edit.{Edit}
use Rattle.tilt_edits.specs.declared.edit.Edit.TheVariants.{Add, Remove, Set}
use Rattle.tilt_edits.specs.declared.fault.FixFault.{FixFault}
use Rattle.tilt_edits.specs.declared.fault.FixFault.TheVariants.{NoSuchRow, Overlaps}
use Rattle.tilt_stream.specs.Snap.{Snapshot}

-- the input that an edit is of, and the ticks `(start, end]` of its row
abbrev pub input_of : Edit → ℕ
input_of (Add input row) = input
input_of (Remove input start end) = input
input_of (Set input row) = input

abbrev pub start_of : Edit → ℤ
start_of (Add input row) = row.start
start_of (Remove input start end) = start
start_of (Set input row) = row.start

abbrev pub end_of : Edit → ℤ
end_of (Add input row) = row.end
end_of (Remove input start end) = end
end_of (Set input row) = row.end

-- the row that an edit writes, if it writes one
abbrev pub put_of : Edit → List Snapshot
put_of (Add input row) = row ∷ []
put_of (Remove input start end) = []
put_of (Set input row) = row ∷ []

-- an edit of one of so many inputs, with times in `-T..T`
pub record IsEditOf (inputs : ℕ) (edit : Edit) : Type 0 where
  pub input : input_of edit < inputs
  pub low : neg_ℤ T ≤ℤ start_of edit
  pub some : start_of edit <ℤ end_of edit
  pub high : end_of edit ≤ℤ T

-- whether a row has exactly these times
abbrev pub has_times : ℤ → ℤ → Snapshot → Bool
has_times start end row = int_eq row.start start && int_eq row.end end

-- whether two rows have a tick in common
abbrev pub meets : Snapshot → Snapshot → Bool
meets row other = int_lt row.start other.end && int_lt other.start row.end

-- the rows and one more, before the first that doesn't start before it
abbrev pub with_row : Snapshot → List Snapshot → List Snapshot
with_row row [] = row ∷ []
with_row row (s ∷ ss) = if int_lt s.start row.start then s ∷ with_row row ss else row ∷ s ∷ ss

-- the rows with one more, or the first that has a tick in common with it
abbrev pub added : Snapshot → List Snapshot → List Snapshot → Result (List Snapshot) FixFault
added row [] all = Ok (with_row row all)
added row (s ∷ ss) all = if meets row s then Err (Overlaps s) else added row ss all

-- what an edit makes of the rows of its input, or why it makes nothing of them
abbrev pub edited : Edit → List Snapshot → Result (List Snapshot) FixFault
edited (Add input row) rows = added row rows rows
edited (Remove input start end) rows =
    if list_any (has_times start end) rows then Ok (filter (λ s. not (has_times start end s)) rows) else Err NoSuchRow
edited (Set input row) rows =
    if list_any (has_times row.start row.end) rows
    then Ok (map (λ s. if has_times row.start row.end s then row else s) rows) else Err NoSuchRow

-- the rows of all inputs, with the rows of one of them changed
abbrev pub changed : List (List Snapshot) → ℕ → Result (List Snapshot) FixFault → Result (List (List Snapshot)) FixFault
changed rows input (Ok of_input) = Ok (slice_set rows input of_input)
changed rows input (Err fault) = Err fault

-- the rows of all inputs after an edit, or why there are none
abbrev pub after_edit : List (List Snapshot) → Edit → Result (List (List Snapshot)) FixFault
after_edit rows edit = changed rows (input_of edit) (edited edit (slice_index_or rows (input_of edit) []))
