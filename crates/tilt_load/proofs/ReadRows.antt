-- The rows that are read of inputs are in order, their numbers are of 64 bits, and they start within the bounds.
use Rattle.std.proofs.Common.{◌≡◌, ◌+◌, Bool, true, false, if◌then◌else◌, ℕ, suc, ℤ, neg_ℤ, List, [], ◌∷◌, ◌++◌, length, Option}
use Rattle.std.proofs.Common.{Some, None, Result, Ok, Err, refl, ap, subst, sym, arith}
use Rattle.std.specs.Prelude.{◌≤ℤ◌, ◌<ℤ◌, not, ◌&&◌, int_le, nat_eq, nat_lt, option_map}
use Rattle.std.specs.List.{AllByRecursion, starts_with}
use Rattle.std.specs.Option.{ForSome, ok_or}
use Rattle.std.proofs.lemmas.Int.{ints}
use Rattle.csv.specs.Reading.{default_config, records, strip_bom}
use Rattle.tilt_base.proofs.Comparisons.{le_false}
use Rattle.tilt_base.proofs.Decimals.{number_spelled_fits}
use Rattle.tilt_base.specs.Number.{cell_spelled, number_spelled}
use Rattle.tilt_base.specs.declared.limits.TheConstants.{FILE, T}
use Rattle.tilt_checkpoint.specs.Valid.{IsCell}
use Rattle.tilt_load.proofs.InputRows.{both_taken}
use Rattle.tilt_load.proofs.Within.{bind_ok, passed, not_below, no_fault, same_list, unless_bad, where_good, series_within}
use Rattle.tilt_load.specs.Inputs.{file_of}
use Rattle.tilt_load.specs.SeriesFiles.{AreWithin, input_read, inputs_read, named, with_rows}
use Rattle.tilt_report.specs.Report.{Reason, file_too_long, bad_checkpoint}
use Rattle.tilt_series.specs.Series.{◌>>=◌, Bounds, byte_order_mark, fields_spelled, is_below, is_header, is_time, row_of, row_unless}
use Rattle.tilt_series.specs.Series.{rows_after_header, rows_of, series_of, three_of, time_fault}
use Rattle.tilt_series.specs.declared.fault.SeriesFault.{SeriesFault}
use Rattle.tilt_series.specs.declared.fault.SeriesFault.TheVariants.{BadFields, BadField, TimeRange, EmptyInterval, OutOfOrder}
use Rattle.tilt_stream.specs.Snap.{Snapshot, InOrder, AreRows}
use Rattle.tilt_cli.specs.Binding.{Binding}

-- the numbers of rows are of 64 bits
abbrev pub AreNumbers : List Snapshot → Type 0
AreNumbers rows = AllByRecursion (λ row. IsCell row.value) rows

same_value : {v w : Option ℤ} → (let x : Result (Option ℤ) SeriesFault = Ok v in x ≡ Ok w) → v ≡ w
same_value e = cc

-- a number that is spelled
number_cell : (bytes : List ℕ) (spelled : Option ℤ) → number_spelled bytes ≡ spelled → (f : SeriesFault) (v : Option ℤ)
    → ok_or (option_map Some spelled) f ≡ Ok v → IsCell v
number_cell bytes None is f v e = absurd (cc e)
number_cell bytes (Some z) is f v e = subst IsCell (same_value e) (number_spelled_fits bytes z is)

value_cell : (field : List ℕ) (f : SeriesFault) (v : Option ℤ) → ok_or (cell_spelled field) f ≡ Ok v → IsCell v
value_cell [] f v e = subst IsCell (same_value e) tt
value_cell (c ∷ cs) f v e = number_cell (c ∷ cs) (number_spelled (c ∷ cs)) refl f v e

fields_are : (start end : ℤ) (value : Option ℤ) (r : ℤ × ℤ × Option ℤ) → (let x : Result (ℤ × ℤ × Option ℤ) SeriesFault = Ok (start, end, value) in x ≡ Ok r)
    → IsCell value → IsCell r.2
fields_are start end value r e cell =
    let same : (start, end, value) ≡ r = cc e in
    let third : value ≡ r.2 = ap (λ (q : ℤ × ℤ × Option ℤ). q.2) same in
    subst IsCell third cell

fields_cell : (row : ℕ) (fields : List (List ℕ)) (r : ℤ × ℤ × Option ℤ) → fields_spelled row fields ≡ Ok r → IsCell r.2
fields_cell row fields r e =
    let three = bind_ok (ok_or (three_of fields) (BadFields row)) (λ t. ok_or (number_spelled t.0) (BadField row 1) >>= λ start.
    ok_or (number_spelled t.1) (BadField row 2) >>= λ end. ok_or (cell_spelled t.2) (BadField row 3) >>= λ value. Ok (start, end, value)) r e in
    let t = three.0 in
    let start = bind_ok (ok_or (number_spelled t.0) (BadField row 1)) (λ start.
    ok_or (number_spelled t.1) (BadField row 2) >>= λ end. ok_or (cell_spelled t.2) (BadField row 3) >>= λ value. Ok (start, end, value)) r three.2 in
    let end = bind_ok (ok_or (number_spelled t.1) (BadField row 2)) (λ end.
    ok_or (cell_spelled t.2) (BadField row 3) >>= λ value. Ok (start.0, end, value)) r start.2 in
    let value = bind_ok (ok_or (cell_spelled t.2) (BadField row 3)) (λ value. Ok (start.0, end.0, value)) r end.2 in
    let cell = value_cell t.2 (BadField row 3) value.0 value.1 in
    fields_are start.0 end.0 value.0 r value.2 cell

-- times within the range
low_time : (a b : ℤ) → not (is_time a && is_time b) ≡ false → neg_ℤ T ≤ℤ a
low_time a b e = grind (arith, ints)

high_time : (a b : ℤ) → not (is_time a && is_time b) ≡ false → b ≤ℤ T
high_time a b e = grind (arith, ints)

-- a row that is read
record IsGoodRow (last : Option ℤ) (s : Snapshot) : Type 0 where
  low : neg_ℤ T ≤ℤ s.start
  some : s.start <ℤ s.end
  high : s.end ≤ℤ T
  behind : ForSome last (λ end. end ≤ℤ s.start)
  cell : IsCell s.value

row_good : (bounds : Bounds) (row : ℕ) (fields : List (List ℕ)) (s : Snapshot) → row_of bounds row fields ≡ Ok s → IsGoodRow bounds.last_end s
row_good bounds row fields s e =
    let read = bind_ok (fields_spelled row fields) (λ r. row_unless (time_fault bounds row r.0 r.1) (record { start = r.0; end = r.1; value = r.2 })) s e in
    let start = read.0.0 in
    let end = read.0.1 in
    let good = no_fault (time_fault bounds row start end) (record { start = start; end = end; value = read.0.2 }) s read.2 in
    let range = passed (not (is_time start && is_time end)) (TimeRange row) _ good.0 in
    let ticks = passed (int_le end start) (EmptyInterval row) _ range.1 in
    let order = passed (is_below start bounds.last_end) (OutOfOrder row) _ ticks.1 in
    let one : IsGoodRow bounds.last_end (record { start = start; end = end; value = read.0.2 }) = record {
      low = low_time start end range.0;
      some = le_false end start ticks.0;
      high = high_time start end range.0;
      behind = not_below start bounds.last_end order.0;
      cell = fields_cell row fields read.0 read.1;
    } in
    subst (IsGoodRow bounds.last_end) good.1 one

-- rows that are read, the first of which doesn't start before a tick
rows_good : (bounds : Bounds) (row : ℕ) (left : List (List (List ℕ))) (rows : List Snapshot) → rows_of bounds row left ≡ Ok rows → (from : ℤ)
    → ((tick : ℤ) → neg_ℤ T ≤ℤ tick → ForSome bounds.last_end (λ end. end ≤ℤ tick) → from ≤ℤ tick) → InOrder from T rows × AreNumbers rows
rows_good bounds row [] rows e from low = rw (← same_list [] rows e) (tt, tt)
rows_good bounds row (fields ∷ more) rows e from low =
    let first = bind_ok (row_of bounds row fields) (λ s. rows_of (record bounds { last_end = Some s.end }) (row + 1) more >>= λ others. Ok (s ∷ others)) rows e in
    let behind = record bounds { last_end = Some first.0.end } in
    let others = bind_ok (rows_of behind (row + 1) more) (λ others. Ok (first.0 ∷ others)) rows first.2 in
    let one = row_good bounds row fields first.0 first.1 in
    let next = rows_good behind (row + 1) more others.0 others.1 first.0.end (λ tick range after. after first.0.end refl) in
    let both : InOrder from T (first.0 ∷ others.0) × AreNumbers (first.0 ∷ others.0) =
    ((low first.0.start one.low one.behind, one.some, one.high, next.0), (one.cell, next.1)) in
    subst (λ (l : List Snapshot). InOrder from T l × AreNumbers l) (same_list (first.0 ∷ others.0) rows others.2) both

header_good : (bounds : Bounds) (all : List (List (List ℕ))) (rows : List Snapshot) → rows_after_header bounds all ≡ Ok rows → AreRows rows × AreNumbers rows
header_good bounds [] rows e = absurd (cc e)
header_good bounds (fields ∷ more) rows e =
    rows_good bounds 1 more rows (where_good (is_header (three_of fields)) (rows_of bounds 1 more) rows e) (neg_ℤ T) (λ tick range after. range)

series_good : (bounds : Bounds) (bytes : List ℕ) (rows : List Snapshot) → series_of bounds bytes ≡ Ok rows → AreRows rows × AreNumbers rows
series_good bounds bytes rows e =
    let all = records default_config (strip_bom bytes) in
    let marks = starts_with nat_eq bytes (byte_order_mark ++ byte_order_mark) in
    header_good bounds all rows (unless_bad marks (rows_after_header bounds all) rows e)

-- the series of an input
named_series : (name : List ℕ) (read : Result (List Snapshot) SeriesFault) (rows : List Snapshot) → named name read ≡ Ok rows → read ≡ Ok rows
named_series name (Ok xs) rows e =
    let same : xs ≡ rows = cc e in
    ap Ok same
named_series name (Err f) rows e = absurd (cc e)

input_series : (long : Bool) (file name : List ℕ) (read : Result (List Snapshot) SeriesFault) (rows : List Snapshot)
    → (if long then Err (file_too_long file) else named name read) ≡ Ok rows → read ≡ Ok rows
input_series true file name read rows e = absurd (cc e)
input_series false file name read rows e = named_series name read rows e

module _ (files : List ℕ → List ℕ) (binds : List Binding) where
  -- what is read of inputs
  pub record AreGood (bounds : ℕ → Bounds) (rows : List (List Snapshot)) : Type 0 where
    pub in_order : AllByRecursion AreRows rows
    pub cells : AllByRecursion AreNumbers rows
    pub within : AreWithin bounds rows

  pub inputs_good : (bounds : ℕ → Bounds) (inputs : List (List ℕ)) (rows : List (List Snapshot)) → inputs_read files binds bounds inputs ≡ Ok rows
      → AreGood bounds rows
  inputs_good bounds [] rows e =
      let none : [] ≡ rows = cc e in
      subst (AreGood bounds) none (record { in_order = tt; cells = tt; within = tt })
  inputs_good bounds (name ∷ names) rows e =
      let after : ℕ → Bounds = λ place. bounds (suc place) in
      let both = both_taken (input_read files (bounds 0) (file_of binds name) name) (inputs_read files binds after names) rows e in
      let bytes = files (file_of binds name) in
      let series = input_series (nat_lt FILE (length bytes)) (file_of binds name) name (series_of (bounds 0) bytes) both.one both.one_is in
      let one = series_good (bounds 0) bytes both.one series in
      let more = inputs_good after names both.more both.more_is in
      subst (AreGood bounds) (sym both.all_is) (record {
        in_order = (one.0, more.in_order);
        cells = (one.1, more.cells);
        within = (series_within (bounds 0) bytes both.one series, more.within);
      })

  -- inputs are never rejected for a checkpoint
  input_no_checkpoint : (long : Bool) (file name : List ℕ) (read : Result (List Snapshot) SeriesFault)
      → (if long then Err (file_too_long file) else named name read) ≡ Err bad_checkpoint → ⊥
  input_no_checkpoint true file name read e = cc e
  input_no_checkpoint false file name (Ok rows) e = cc e
  input_no_checkpoint false file name (Err f) e = cc e

  both_no_checkpoint : (first : Result (List Snapshot) Reason) (others : Result (List (List Snapshot)) Reason) → (first ≡ Err bad_checkpoint → ⊥)
      → (others ≡ Err bad_checkpoint → ⊥) → with_rows first others ≡ Err bad_checkpoint → ⊥
  both_no_checkpoint (Err why) others one more e =
      let same : why ≡ bad_checkpoint = cc e in
      one (ap Err same)
  both_no_checkpoint (Ok rows) (Err why) one more e =
      let same : why ≡ bad_checkpoint = cc e in
      more (ap Err same)
  both_no_checkpoint (Ok rows) (Ok others) one more e = cc e

  pub inputs_no_checkpoint : (bounds : ℕ → Bounds) (inputs : List (List ℕ)) → inputs_read files binds bounds inputs ≡ Err bad_checkpoint → ⊥
  inputs_no_checkpoint bounds [] e = cc e
  inputs_no_checkpoint bounds (name ∷ names) e =
      let after : ℕ → Bounds = λ place. bounds (suc place) in
      let bytes = files (file_of binds name) in
      both_no_checkpoint (input_read files (bounds 0) (file_of binds name) name) (inputs_read files binds after names)
      (input_no_checkpoint (nat_lt FILE (length bytes)) (file_of binds name) name (series_of (bounds 0) bytes)) (inputs_no_checkpoint after names) e
