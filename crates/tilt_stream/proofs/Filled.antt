-- Rows with their gaps filled have the same stream.
use Rattle.std.proofs.Common.{◌≡◌, ℤ, pos, ◌+ℤ◌, ◌≤ℤ◌, Bool, true, false, ◌||◌, List, [], ◌∷◌, ◌++◌, Option, Some, None, refl, sym, ◌∙◌, arith, append_assoc, int_lt, if◌then◌else◌, ℕ, length, ◌≤◌}
use Rattle.std.proofs.Common.{drop}
use Rattle.std.proofs.lemmas.List.{append-nil, drop_all}
use Rattle.tilt_base.specs.declared.limits.TheConstants.{T}
use Rattle.std.specs.Ordering.{int_eq}
use Rattle.std.proofs.lemmas.Int.{ints}
use Rattle.tilt_stream.specs.Snap.{Snapshot, InOrder, gap_before, last_end, AreRows}
use Rattle.tilt_stream.proofs.Order.{last_end-push}
use Rattle.tilt_stream.proofs.Streams.{cell_at-before}
use Rattle.tilt_stream.specs.Stream.{SameStream, stream_of, cell_at, mark_at, covers}

-- the rows after an end, with their gaps filled
abbrev pub filled_behind : Option ℤ → List Snapshot → List Snapshot
filled_behind end [] = []
filled_behind end (row ∷ rows) = gap_before end row.start ++ row ∷ filled_behind (Some row.end) rows

module _ (end limit : ℤ) (row : Snapshot) (rows : List Snapshot) (tick : ℤ) (h : InOrder end limit (row ∷ rows)) (rest : cell_at (filled_behind (Some row.end) rows) tick ≡ cell_at rows tick) where
  behind_gap : (in_gap : Bool) → covers (record { start = end; end = row.start; value = None }) tick ≡ in_gap
      → (if in_gap then None else cell_at (row ∷ filled_behind (Some row.end) rows) tick) ≡ cell_at (row ∷ rows) tick
  behind_gap true is =
      let low : row.start ≤ℤ row.start = omega (arith, ints) in
      let before : tick ≤ℤ row.start = grind (arith, ints) in
      sym (cell_at-before row.start limit (row ∷ rows) tick (low, h.1, h.2, h.3) before)
  behind_gap false is = rw rest refl

  cells_by_gap : (some : Bool)
      → cell_at ((if some then record { start = end; end = row.start; value = None } ∷ [] else []) ++ row ∷ filled_behind (Some row.end) rows) tick ≡ cell_at (row ∷ rows) tick
  cells_by_gap true = behind_gap _ refl
  cells_by_gap false = rw rest refl

cells_filled : (end limit : ℤ) (rows : List Snapshot) (tick : ℤ) → InOrder end limit rows → cell_at (filled_behind (Some end) rows) tick ≡ cell_at rows tick
cells_filled end limit [] tick h = refl
cells_filled end limit (row ∷ rows) tick h =
    cells_by_gap end limit row rows tick h (cells_filled row.end limit rows tick h.3) (int_lt end row.start)

-- the mark of an end hides that of the gap after it
either : (a b c x y : Bool) → (c || x) ≡ (c || y) → (a || (a || b || (b || c || x))) ≡ (a || (b || c || y))
either true b c x y h = refl
either false true c x y h = refl
either false false c x y h = h

neither : (a b c x y : Bool) → (c || x) ≡ (c || y) → (a || (b || c || x)) ≡ (a || (b || c || y))
neither true b c x y h = refl
neither false true c x y h = refl
neither false false c x y h = h

marks_by_gap : (some : Bool) (end : ℤ) (row : Snapshot) (rows : List Snapshot) (tick : ℤ)
    → (int_eq tick (row.end +ℤ pos 1) || mark_at (filled_behind (Some row.end) rows) tick) ≡ (int_eq tick (row.end +ℤ pos 1) || mark_at rows tick)
    → (int_eq tick (end +ℤ pos 1)
    || mark_at ((if some then record { start = end; end = row.start; value = None } ∷ [] else []) ++ row ∷ filled_behind (Some row.end) rows) tick)
    ≡ (int_eq tick (end +ℤ pos 1) || mark_at (row ∷ rows) tick)
marks_by_gap true end row rows tick rest =
    either (int_eq tick (end +ℤ pos 1)) (int_eq tick (row.start +ℤ pos 1)) (int_eq tick (row.end +ℤ pos 1)) (mark_at (filled_behind (Some row.end) rows) tick) (mark_at rows tick) rest
marks_by_gap false end row rows tick rest =
    neither (int_eq tick (end +ℤ pos 1)) (int_eq tick (row.start +ℤ pos 1)) (int_eq tick (row.end +ℤ pos 1)) (mark_at (filled_behind (Some row.end) rows) tick) (mark_at rows tick) rest

marks_filled : (end : ℤ) (rows : List Snapshot) (tick : ℤ) → (int_eq tick (end +ℤ pos 1) || mark_at (filled_behind (Some end) rows) tick) ≡ (int_eq tick (end +ℤ pos 1) || mark_at rows tick)
marks_filled end [] tick = refl
marks_filled end (row ∷ rows) tick =
    marks_by_gap (int_lt end row.start) end row rows tick (marks_filled row.end rows tick)

first_mark : (a b x y : Bool) → (b || x) ≡ (b || y) → (a || b || x) ≡ (a || b || y)
first_mark true b x y h = refl
first_mark false b x y h = h

cells_of_filled : (rows : List Snapshot) (tick : ℤ) → AreRows rows → cell_at (filled_behind None rows) tick ≡ cell_at rows tick
cells_of_filled [] tick h = refl
cells_of_filled (row ∷ rows) tick h = rw (cells_filled row.end T rows tick h.3) refl

marks_of_filled : (rows : List Snapshot) (tick : ℤ) → mark_at (filled_behind None rows) tick ≡ mark_at rows tick
marks_of_filled [] tick = refl
marks_of_filled (row ∷ rows) tick = first_mark (int_eq tick (row.start +ℤ pos 1)) (int_eq tick (row.end +ℤ pos 1))
    (mark_at (filled_behind (Some row.end) rows) tick) (mark_at rows tick) (marks_filled row.end rows tick)

-- rows with their gaps filled have the rows' stream
pub stream-filled : (rows : List Snapshot) → AreRows rows → SameStream (stream_of (filled_behind None rows)) (stream_of rows)
stream-filled rows h = record {
  cells = λ tick. cells_of_filled rows tick h;
  marks = marks_of_filled rows;
}

-- one more row
pub filled-step : (list rest all : List Snapshot) (row : Snapshot) → list ++ filled_behind (last_end list) (row ∷ rest) ≡ all
    → (list ++ gap_before (last_end list) row.start ++ row ∷ []) ++ filled_behind (last_end (list ++ gap_before (last_end list) row.start ++ row ∷ [])) rest ≡ all
filled-step list rest all row h =
    rw (last_end-push (list ++ gap_before (last_end list) row.start) row) (simp append_assoc h)

-- the rows are all there
pub filled-all : (list all : List Snapshot) (index : ℕ) (rows : List Snapshot) → length rows ≤ index → list ++ filled_behind (last_end list) (drop index rows) ≡ all → list ≡ all
filled-all list all index rows end h =
    sym (append-nil list) ∙ rw (drop_all index rows end) at h
