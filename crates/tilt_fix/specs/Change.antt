-- Changes of rows at a place, which is counted from 0.
use Rattle.std.specs.Prelude.{◌≡◌, ℕ, suc, ◌<◌, ◌≤◌, ℤ, List, [], ◌∷◌, length, slice_get, slice_set, Option, Some, Ok}
use Rattle.std.specs.List.{insert, remove, slice_index_or, splice}
use Rattle.tilt_edits.specs.Edited.{edited, put_of}
use Rattle.tilt_fix.specs.declared.change.Change.{Change}
use Rattle.tilt_fix.specs.declared.change.Change.TheVariants.{Insert, Remove, Revalue}
use Rattle.tilt_edits.specs.declared.edit.Edit.{Edit}
use Rattle.tilt_stream.specs.Snap.{Snapshot, AreRows, with_value}

-- what a change makes of rows
abbrev pub made : Change → List Snapshot → List Snapshot
made (Insert at row) rows = insert rows at row
made (Remove at) rows = remove rows at
made (Revalue at value) rows = with_value at value rows

-- the place is among the rows, or just after them if a row is inserted
abbrev pub IsWithin : Change → List Snapshot → Type 0
IsWithin (Insert at row) rows = at ≤ length rows
IsWithin (Remove at) rows = at < length rows
IsWithin (Revalue at value) rows = at < length rows

-- the place of a change, and the place of the first row after it, before the change
abbrev pub place_of : Change → ℕ
place_of (Insert at row) = at
place_of (Remove at) = at
place_of (Revalue at value) = at

abbrev pub next_of : Change → ℕ
next_of (Insert at row) = at
next_of (Remove at) = suc at
next_of (Revalue at value) = suc at

-- the row of exactly these times is at this place
pub record HasRowAt (rows : List Snapshot) (start end : ℤ) (at : ℕ) : Type 0 where
  pub value : Option ℤ
  pub is : slice_get rows at ≡ Some (record { start = start; end = end; value = value })

-- a change that does what an edit does
pub record IsChangeOf (edit : Edit) (rows : List Snapshot) (change : Change) : Type 0 where
  pub is : edited edit rows ≡ Ok (made change rows)
  pub within : IsWithin change rows
  pub in_order : AreRows (made change rows)
  pub parts : made change rows ≡ splice rows (place_of change) (next_of change) (put_of edit)

-- the rows of all inputs after a change of the rows of one of them
abbrev pub all_made : Change → ℕ → List (List Snapshot) → List (List Snapshot)
all_made change input rows = slice_set rows input (made change (slice_index_or rows input []))
