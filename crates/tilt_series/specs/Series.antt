-- The rows of a series file, or its first fault (our own rule, over records as the crate `csv` defines them, after RFC 4180).
use Rattle.std.specs.Prelude.{◌≡◌, ℕ, ◌+◌, ℤ, neg_ℤ, Bool, false, not, ◌&&◌, int_lt, int_le, nat_eq, if◌then◌else◌}
use Rattle.std.specs.Prelude.{List, [], ◌∷◌, ◌++◌, Option, Some, None, Result, Ok, Err, codes}
use Rattle.std.specs.List.{starts_with}
use Rattle.std.specs.Option.{ok_or, option_or}
use Rattle.std.specs.Str.{bytes_eq}
use Rattle.csv.specs.Reading.{default_config, records, strip_bom}
use Rattle.tilt_base.specs.Number.{cell_spelled, number_spelled}
use Rattle.tilt_base.specs.declared.limits.TheConstants.{T}
use Rattle.tilt_stream.specs.Snap.{Snapshot, last_end}
use Rattle.tilt_series.specs.declared.fault.SeriesFault.{SeriesFault}
use Rattle.tilt_series.specs.declared.fault.SeriesFault.TheVariants.{BadHeader, BadFields, BadField, TimeRange, EmptyInterval}
use Rattle.tilt_series.specs.declared.fault.SeriesFault.TheVariants.{OutOfOrder, RowBeforeCut, RowPastCut}
use Rattle.tilt_series.specs.declared.fault.ReadRowsFault.{ReadRowsFault}
use Rattle.tilt_series.specs.declared.fault.ReadRowsFault.TheVariants.{Refused, OutOfMemory}

infixl 10 ◌>>=◌
-- the next step, unless there was a fault
abbrev pub ◌>>=◌ : {A B : Type 0} → Result A SeriesFault → (A → Result B SeriesFault) → Result B SeriesFault
(Ok x) >>= next = next x
(Err fault) >>= next = Err fault

-- where a row may start, each bound if it is given: not below the end of the row before it, not below `from`, and below `upto`
pub record Bounds : Type 0 where
  pub last_end : Option ℤ
  pub from : Option ℤ
  pub upto : Option ℤ

-- the bounds of a row that comes after some rows
abbrev pub bounds_after : Bounds → List Snapshot → Bounds
bounds_after bounds rows = record bounds { last_end = option_or (last_end rows) bounds.last_end }

-- whether the tick lies below the bound
abbrev pub is_below : ℤ → Option ℤ → Bool
is_below tick None = false
is_below tick (Some bound) = int_lt tick bound

-- whether the tick lies at the bound or above it
abbrev pub is_past : ℤ → Option ℤ → Bool
is_past tick None = false
is_past tick (Some bound) = int_le bound tick

-- whether the tick lies in `-T..T`
abbrev pub is_time : ℤ → Bool
is_time tick = int_le (neg_ℤ T) tick && int_le tick T

-- the fields of a record that has exactly three
abbrev pub three_of : List (List ℕ) → Option (List ℕ × List ℕ × List ℕ)
three_of (first ∷ second ∷ third ∷ []) = Some (first, second, third)
three_of fields = None

-- whether the fields are `start`, `end` and `value`
abbrev pub is_header : Option (List ℕ × List ℕ × List ℕ) → Bool
is_header None = false
is_header (Some three) = bytes_eq three.0 (codes "start") && bytes_eq three.1 (codes "end") && bytes_eq three.2 (codes "value")

-- the start, the end and the value that the fields of that row spell
abbrev pub fields_spelled : ℕ → List (List ℕ) → Result (ℤ × ℤ × Option ℤ) SeriesFault
fields_spelled row fields = do
  three ← ok_or (three_of fields) (BadFields row)
  start ← ok_or (number_spelled three.0) (BadField row 1)
  end ← ok_or (number_spelled three.1) (BadField row 2)
  value ← ok_or (cell_spelled three.2) (BadField row 3)
  Ok (start, end, value)

-- the first fault of the times of that row, if there is one
abbrev pub time_fault : Bounds → ℕ → ℤ → ℤ → Option SeriesFault
time_fault bounds row start end =
    if not (is_time start && is_time end) then Some (TimeRange row)
    else if int_le end start then Some (EmptyInterval row)
    else if is_below start bounds.last_end then Some (OutOfOrder row)
    else if is_below start bounds.from then Some (RowBeforeCut row)
    else if is_past start bounds.upto then Some (RowPastCut row)
    else None

-- the row, unless there is a fault
abbrev pub row_unless : Option SeriesFault → Snapshot → Result Snapshot SeriesFault
row_unless None row = Ok row
row_unless (Some fault) row = Err fault

-- the row of a record, or its first fault
abbrev pub row_of : Bounds → ℕ → List (List ℕ) → Result Snapshot SeriesFault
row_of bounds row fields = do
  read ← fields_spelled row fields
  row_unless (time_fault bounds row read.0 read.1) (record { start = read.0; end = read.1; value = read.2 })

-- the rows of records, the first of which is that row
abbrev pub rows_of : Bounds → ℕ → List (List (List ℕ)) → Result (List Snapshot) SeriesFault
rows_of bounds row [] = Ok []
rows_of bounds row (fields ∷ more) = do
  first ← row_of bounds row fields
  others ← rows_of (record bounds { last_end = Some first.end }) (row + 1) more
  Ok (first ∷ others)

-- the rows after the header; they are counted from 1
abbrev pub rows_after_header : Bounds → List (List (List ℕ)) → Result (List Snapshot) SeriesFault
rows_after_header bounds [] = Err BadHeader
rows_after_header bounds (fields ∷ more) = if is_header (three_of fields) then rows_of bounds 1 more else Err BadHeader

-- a byte order mark, U+FEFF in UTF-8
abbrev pub byte_order_mark : List ℕ
byte_order_mark = 0xEF ∷ 0xBB ∷ 0xBF ∷ []

-- the rows of a series file, or its first fault; one byte order mark is passed over, and a second is a bad header
abbrev pub series_of : Bounds → List ℕ → Result (List Snapshot) SeriesFault
series_of bounds bytes =
    if starts_with nat_eq bytes (byte_order_mark ++ byte_order_mark) then Err BadHeader
    else rows_after_header bounds (records default_config (strip_bom bytes))

-- that result is what was read, unless memory ran out
abbrev pub Gives : Result (List Snapshot) ReadRowsFault → Result (List Snapshot) SeriesFault → Type 0
Gives (Ok rows) read = read ≡ Ok rows
Gives (Err (Refused fault)) read = read ≡ Err fault
Gives (Err OutOfMemory) read = Unit {0}
