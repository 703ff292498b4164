-- An edit changes the stream of its rows at its own ticks alone, and the mark after them.
use Rattle.std.proofs.Common.{◌≡◌, ℤ, pos, ◌+ℤ◌, ◌<ℤ◌, ◌≤ℤ◌, Bool, true, false, not, if◌then◌else◌, List, [], ◌∷◌, map, ◌⊎◌, inl, inr, refl, arith}
use Rattle.std.specs.Prelude.{filter, int_lt, Result, Ok, Err}
use Rattle.std.specs.List.{list_any}
use Rattle.std.specs.Ordering.{int_eq}
use Rattle.std.proofs.lemmas.Bool.{cases_Bool}
use Rattle.std.proofs.lemmas.Int.{ints}
use Rattle.tilt_edits.specs.Edited.{added, edited, end_of, has_times, meets, start_of, with_row}
use Rattle.tilt_edits.specs.declared.edit.Edit.{Edit}
use Rattle.tilt_edits.specs.declared.edit.Edit.TheVariants.{Add, Remove, Set}
use Rattle.tilt_edits.specs.declared.fault.FixFault.{FixFault}
use Rattle.tilt_edits.specs.declared.fault.FixFault.TheVariants.{NoSuchRow}
use Rattle.tilt_stream.specs.Snap.{Snapshot}
use Rattle.tilt_stream.specs.Stream.{Stream, stream_of, covers, cell_at, mark_at}

-- two streams have the same cells but on `(start, end]`, and the same marks but there and one tick later
pub record AreSameOutside (start end : ℤ) (x y : Stream) : Type 0 where
  pub cells : (tick : ℤ) → (tick ≤ℤ start) ⊎ (end <ℤ tick) → x.cell tick ≡ y.cell tick
  pub marks : (tick : ℤ) → (tick ≤ℤ start) ⊎ ((end +ℤ pos 1) <ℤ tick) → x.mark tick ≡ y.mark tick

-- a row says nothing outside of its ticks
record IsSilent (row : Snapshot) (tick : ℤ) : Type 0 where
  starts : int_eq tick (row.start +ℤ pos 1) ≡ false
  ends : int_eq tick (row.end +ℤ pos 1) ≡ false

silent : (row : Snapshot) (start end tick : ℤ) → row.start ≡ start → row.end ≡ end → start <ℤ end → (tick ≤ℤ start) ⊎ ((end +ℤ pos 1) <ℤ tick) → IsSilent row tick
silent row start end tick at to some (inl low) = record { starts = grind (arith, ints); ends = grind (arith, ints) }
silent row start end tick at to some (inr high) = record { starts = grind (arith, ints); ends = grind (arith, ints) }

uncovered : (row : Snapshot) (start end tick : ℤ) → row.start ≡ start → row.end ≡ end → (tick ≤ℤ start) ⊎ (end <ℤ tick) → covers row tick ≡ false
uncovered row start end tick at to (inl low) = grind (arith, ints)
uncovered row start end tick at to (inr high) = grind (arith, ints)

-- one row more
with_row-cell : (row : Snapshot) (rows : List Snapshot) (tick : ℤ) → covers row tick ≡ false → cell_at (with_row row rows) tick ≡ cell_at rows tick
with_row-cell row [] tick out = rw out refl
with_row-cell row (s ∷ ss) tick out =
    elim (cases_Bool (int_lt s.start row.start)) [
      | inl is ↦ rw is (rw (with_row-cell row ss tick out) refl)
      | inr none ↦ rw (none, out) refl
    ]

with_row-mark : (row : Snapshot) (rows : List Snapshot) (tick : ℤ) → IsSilent row tick → mark_at (with_row row rows) tick ≡ mark_at rows tick
with_row-mark row [] tick out = rw (out.starts, out.ends) refl
with_row-mark row (s ∷ ss) tick out =
    elim (cases_Bool (int_lt s.start row.start)) [
      | inl is ↦ rw is (rw (with_row-mark row ss tick out) refl)
      | inr none ↦ rw (none, out.starts, out.ends) refl
    ]

-- the times of a row that has them
times : (start end : ℤ) (row : Snapshot) → has_times start end row ≡ true → (row.start ≡ start) × (row.end ≡ end)
times start end row has = (grind (arith, ints), grind (arith, ints))

module _ (start end : ℤ) where
  -- the rows of these times taken out
  without-cell : (rows : List Snapshot) (tick : ℤ) → (tick ≤ℤ start) ⊎ (end <ℤ tick)
      → cell_at (filter (λ s. not (has_times start end s)) rows) tick ≡ cell_at rows tick
  without-cell [] tick out = refl
  without-cell (s ∷ ss) tick out =
      elim (cases_Bool (has_times start end s)) [
        | inl is ↦
            let t = times start end s is in
            let none = uncovered s start end tick t.0 t.1 out in
            rw (is, none) (without-cell ss tick out)
        | inr other ↦ rw other (rw (without-cell ss tick out) refl)
      ]

  without-mark : (rows : List Snapshot) (tick : ℤ) → start <ℤ end → (tick ≤ℤ start) ⊎ ((end +ℤ pos 1) <ℤ tick)
      → mark_at (filter (λ s. not (has_times start end s)) rows) tick ≡ mark_at rows tick
  without-mark [] tick some out = refl
  without-mark (s ∷ ss) tick some out =
      elim (cases_Bool (has_times start end s)) [
        | inl is ↦
            let t = times start end s is in
            let none = silent s start end tick t.0 t.1 some out in
            rw (is, none.starts, none.ends) (without-mark ss tick some out)
        | inr other ↦ rw other (rw (without-mark ss tick some out) refl)
      ]

-- a row of these times in place of another
valued-cell : (row : Snapshot) (rows : List Snapshot) (tick : ℤ) → (tick ≤ℤ row.start) ⊎ (row.end <ℤ tick)
    → cell_at (map (λ s. if has_times row.start row.end s then row else s) rows) tick ≡ cell_at rows tick
valued-cell row [] tick out = refl
valued-cell row (s ∷ ss) tick out =
    elim (cases_Bool (has_times row.start row.end s)) [
      | inl is ↦
          let t = times row.start row.end s is in
          let none = uncovered s row.start row.end tick t.0 t.1 out in
          let new = uncovered row row.start row.end tick refl refl out in
          rw (is, none, new) (valued-cell row ss tick out)
      | inr other ↦ rw other (rw (valued-cell row ss tick out) refl)
    ]

valued-mark : (row : Snapshot) (rows : List Snapshot) (tick : ℤ) → row.start <ℤ row.end → (tick ≤ℤ row.start) ⊎ ((row.end +ℤ pos 1) <ℤ tick)
    → mark_at (map (λ s. if has_times row.start row.end s then row else s) rows) tick ≡ mark_at rows tick
valued-mark row [] tick some out = refl
valued-mark row (s ∷ ss) tick some out =
    elim (cases_Bool (has_times row.start row.end s)) [
      | inl is ↦
          let t = times row.start row.end s is in
          let none = silent s row.start row.end tick t.0 t.1 some out in
          let new = silent row row.start row.end tick refl refl some out in
          rw (is, none.starts, none.ends, new.starts, new.ends) (valued-mark row ss tick some out)
      | inr other ↦ rw other (rw (valued-mark row ss tick some out) refl)
    ]

-- what an edit makes, where it makes something
added-is : (row : Snapshot) (rows all new : List Snapshot) → added row rows all ≡ Ok new → with_row row all ≡ new
added-is row [] all new is = cc is
added-is row (s ∷ ss) all new is =
    elim (cases_Bool (meets row s)) [
      | inl meet ↦ absurd (cc (rw meet at is))
      | inr none ↦ added-is row ss all new (rw none at is)
    ]

chosen-is : (found : Bool) (made new : List Snapshot) → ◌≡◌ {A = Result (List Snapshot) FixFault} (if found then Ok made else Err NoSuchRow) (Ok new) → made ≡ new
chosen-is true made new is = cc is
chosen-is false made new is = absurd (cc is)

pub edited-same : (edit : Edit) (rows new : List Snapshot) → start_of edit <ℤ end_of edit → edited edit rows ≡ Ok new
    → AreSameOutside (start_of edit) (end_of edit) (stream_of new) (stream_of rows)
edited-same (Add input row) rows new some is =
    rw (← added-is row rows rows new is) (record {
      cells = λ tick out. with_row-cell row rows tick (uncovered row row.start row.end tick refl refl out);
      marks = λ tick out. with_row-mark row rows tick (silent row row.start row.end tick refl refl some out);
    })
edited-same (Remove input start end) rows new some is =
    rw (← chosen-is (list_any (has_times start end) rows) _ new is) (record {
      cells = λ tick out. without-cell start end rows tick out;
      marks = λ tick out. without-mark start end rows tick some out;
    })
edited-same (Set input row) rows new some is =
    rw (← chosen-is (list_any (has_times row.start row.end) rows) _ new is) (record {
      cells = λ tick out. valued-cell row rows tick out;
      marks = λ tick out. valued-mark row rows tick some out;
    })
