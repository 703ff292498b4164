-- The rows of a series that is read within bounds start within them.
use Rattle.std.proofs.Common.{◌≡◌, ◌+◌, Bool, true, false, if◌then◌else◌, ℕ, suc, ℤ, List, [], ◌∷◌, ◌++◌, length, Option, Some, None, Result, Ok, Err, refl, arith}
use Rattle.std.specs.Prelude.{◌≤ℤ◌, ◌<ℤ◌, not, ◌&&◌, int_le, nat_eq}
use Rattle.std.specs.List.{AllByRecursion, starts_with}
use Rattle.std.specs.Option.{ForSome}
use Rattle.std.proofs.lemmas.Int.{ints}
use Rattle.std.proofs.lemmas.Option.{none-some, same_Some}
use Rattle.csv.specs.Reading.{default_config, records, strip_bom}
use Rattle.tilt_base.proofs.Comparisons.{le_false}
use Rattle.tilt_series.specs.Series.{◌>>=◌, Bounds, byte_order_mark, fields_spelled, is_below, is_header, is_past}
use Rattle.tilt_series.specs.Series.{is_time, row_of, row_unless, rows_after_header, rows_of, series_of, three_of}
use Rattle.tilt_series.specs.Series.{time_fault}
use Rattle.tilt_series.specs.declared.fault.SeriesFault.{SeriesFault}
use Rattle.tilt_series.specs.declared.fault.SeriesFault.TheVariants.{BadHeader, TimeRange, EmptyInterval, OutOfOrder, RowBeforeCut, RowPastCut}
use Rattle.tilt_stream.specs.Snap.{Snapshot}
use Rattle.tilt_load.specs.SeriesFiles.{AreWithin, IsWithin}

-- both steps gave something
pub bind_ok : {A B : Type 0} (read : Result A SeriesFault) (next : A → Result B SeriesFault) (b : B) → read >>= next ≡ Ok b
    → (a : A) × (read ≡ Ok a) × (next a ≡ Ok b)
bind_ok (Ok a) next b e = (a, refl, e)
bind_ok (Err fault) next b e = cc e

-- a test that finds no fault
pub passed : (test : Bool) (fault : SeriesFault) (more : Option SeriesFault) → (if test then Some fault else more) ≡ None → (test ≡ false) × (more ≡ None)
passed true fault more e = cc e
passed false fault more e = (refl, e)

pub not_below : (tick : ℤ) (bound : Option ℤ) → is_below tick bound ≡ false → ForSome bound (λ b. b ≤ℤ tick)
not_below tick None h = λ b is. absurd (none-some b is)
not_below tick (Some bound) h = λ b is. rw (← same_Some bound b is) (grind (arith, ints))

not_past : (tick : ℤ) (bound : Option ℤ) → is_past tick bound ≡ false → ForSome bound (λ b. tick <ℤ b)
not_past tick None h = λ b is. absurd (none-some b is)
not_past tick (Some bound) h = λ b is. rw (← same_Some bound b is) (grind (arith, ints))

-- times without a fault
time_within : (bounds : Bounds) (row : ℕ) (s : Snapshot) → time_fault bounds row s.start s.end ≡ None → IsWithin bounds s × (s.start <ℤ s.end)
time_within bounds row s e =
    let range = passed (not (is_time s.start && is_time s.end)) (TimeRange row) _ e in
    let ticks = passed (int_le s.end s.start) (EmptyInterval row) _ range.1 in
    let order = passed (is_below s.start bounds.last_end) (OutOfOrder row) _ ticks.1 in
    let before = passed (is_below s.start bounds.from) (RowBeforeCut row) _ order.1 in
    let past = passed (is_past s.start bounds.upto) (RowPastCut row) _ before.1 in (
      record {
        behind = not_below s.start bounds.last_end order.0;
        late = not_below s.start bounds.from before.0;
        early = not_past s.start bounds.upto past.0;
      },
      le_false s.end s.start ticks.0,
    )

-- a row that is taken has no fault
pub no_fault : (fault : Option SeriesFault) (row s : Snapshot) → row_unless fault row ≡ Ok s → (fault ≡ None) × (row ≡ s)
no_fault None row s e = (refl, cc e)
no_fault (Some fault) row s e = cc e

row_within : (bounds : Bounds) (row : ℕ) (fields : List (List ℕ)) (s : Snapshot) → row_of bounds row fields ≡ Ok s
    → IsWithin bounds s × (s.start <ℤ s.end)
row_within bounds row fields s e =
    let read = bind_ok (fields_spelled row fields) (λ r. row_unless (time_fault bounds row r.0 r.1) (record { start = r.0; end = r.1; value = r.2 })) s e in
    let start = read.0.0 in
    let end = read.0.1 in
    let good = no_fault (time_fault bounds row start end) (record { start = start; end = end; value = read.0.2 }) s read.2 in
    rw (← good.1) (time_within bounds row (record { start = start; end = end; value = read.0.2 }) good.0)

-- rows after the first one also start at the last end or later
later : (bounds : Bounds) (first : Snapshot) → IsWithin bounds first → first.start <ℤ first.end → (rows : List Snapshot)
    → AllByRecursion (IsWithin (record bounds { last_end = Some first.end })) rows → AllByRecursion (IsWithin bounds) rows
later bounds first within some [] h = tt
later bounds first within some (s ∷ ss) h = (
  record {
    behind = λ end is. omega (arith, ints, within.behind end is, h.0.behind first.end refl, some);
    late = h.0.late;
    early = h.0.early;
  },
  later bounds first within some ss h.1,
)

pub same_list : (xs ys : List Snapshot) → (let x : Result (List Snapshot) SeriesFault = Ok xs in x ≡ Ok ys) → xs ≡ ys
same_list xs ys e = cc e

rows_within : (bounds : Bounds) (row : ℕ) (left : List (List (List ℕ))) (rows : List Snapshot) → rows_of bounds row left ≡ Ok rows
    → AllByRecursion (IsWithin bounds) rows
rows_within bounds row [] rows e = rw (← same_list [] rows e) tt
rows_within bounds row (fields ∷ more) rows e =
    let first = bind_ok (row_of bounds row fields) (λ s. rows_of (record bounds { last_end = Some s.end }) (row + 1) more >>= λ others. Ok (s ∷ others)) rows e in
    let behind = record bounds { last_end = Some first.0.end } in
    let others = bind_ok (rows_of behind (row + 1) more) (λ others. Ok (first.0 ∷ others)) rows first.2 in
    let one = row_within bounds row fields first.0 first.1 in
    let next = rows_within behind (row + 1) more others.0 others.1 in
    rw (← same_list (first.0 ∷ others.0) rows others.2) (one.0, later bounds first.0 one.0 one.1 others.0 next)

-- a result that isn't rejected by a test at the beginning
pub unless_bad : (test : Bool) (read : Result (List Snapshot) SeriesFault) (rows : List Snapshot) → (if test then Err BadHeader else read) ≡ Ok rows → read ≡ Ok rows
unless_bad true read rows e = cc e
unless_bad false read rows e = e

pub where_good : (test : Bool) (read : Result (List Snapshot) SeriesFault) (rows : List Snapshot) → (if test then read else Err BadHeader) ≡ Ok rows → read ≡ Ok rows
where_good true read rows e = e
where_good false read rows e = cc e

after_header_within : (bounds : Bounds) (all : List (List (List ℕ))) (rows : List Snapshot) → rows_after_header bounds all ≡ Ok rows
    → AllByRecursion (IsWithin bounds) rows
after_header_within bounds [] rows e = cc e
after_header_within bounds (fields ∷ more) rows e =
    rows_within bounds 1 more rows (where_good (is_header (three_of fields)) (rows_of bounds 1 more) rows e)

pub series_within : (bounds : Bounds) (bytes : List ℕ) (rows : List Snapshot) → series_of bounds bytes ≡ Ok rows → AllByRecursion (IsWithin bounds) rows
series_within bounds bytes rows e =
    let all = records default_config (strip_bom bytes) in
    let marks = starts_with nat_eq bytes (byte_order_mark ++ byte_order_mark) in
    after_header_within bounds all rows (unless_bad marks (rows_after_header bounds all) rows e)

-- one input more
pub within_more : (bounds : ℕ → Bounds) (all : List (List Snapshot)) (rows : List Snapshot) → AreWithin bounds all
    → AllByRecursion (IsWithin (bounds (length all))) rows → AreWithin bounds (all ++ rows ∷ [])
within_more bounds [] rows h new = (new, tt)
within_more bounds (r ∷ all) rows h new = (h.0, within_more (λ place. bounds (suc place)) all rows h.1 new)
