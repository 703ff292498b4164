-- What an update of an input leaves as it is: all up to the watermark.
use Rattle.std.proofs.Common.{◌≡◌, zero, ℤ, pos, ◌+ℤ◌, ◌≤ℤ◌, ◌<ℤ◌, Bool, true, false, ◌&&◌, ◌||◌, not, List, [], ◌∷◌, ◌++◌, Option, Some, None, int_lt, int_le}
use Rattle.std.proofs.Common.{if◌then◌else◌, refl, ap, sym, subst, ◌∙◌, inl, inr, append_assoc, append-nil, arith}
use Rattle.std.specs.Ordering.{int_eq}
use Rattle.std.proofs.Math.Bool.{or-true}
use Rattle.std.proofs.lemmas.Bool.{or_cases, and_parts}
use Rattle.std.proofs.lemmas.Bool.Decides.{Decides-int_eq}
use Rattle.std.proofs.lemmas.Int.{ints, clamps, by_lt_z}
use Rattle.tilt_base.proofs.Booleans.{second_true, third_true}
use Rattle.tilt_base.proofs.Comparisons.{lt_true}
use Rattle.tilt_base.specs.declared.limits.TheConstants.{T}
use Rattle.tilt_feed.proofs.Known.{IsNotAbove, above-refl, above-trans, IsKnownAt-tested, tested-IsKnownAt}
use Rattle.tilt_feed.proofs.SureMarks.{HasMarksOf, marks-refl, marks-trans}
use Rattle.tilt_feed.specs.Events.{in_range, is_time, continues, comes_at, has_ticks, update_fault, closed_by, opened_by, watermark_after, updated, finished_input}
use Rattle.tilt_feed.specs.Feed.{InputFeed, closed_at, rows_now}
use Rattle.tilt_feed.specs.Horizon.{Until, ForEver, IsKnownAt, is_known_at, input_horizon}
use Rattle.tilt_feed.specs.Laws.{AgreeUpTo}
use Rattle.tilt_feed.specs.Sure.{ends_at, has_sure_mark, with_sure_marks}
use Rattle.tilt_feed.specs.declared.edge.Edge.{Edge}
use Rattle.tilt_feed.specs.declared.fault.EventFault.TheVariants.{Finished, OutOfRange, Late, NoTick}
use Rattle.tilt_feed.specs.declared.open_row.OpenRow.{OpenRow}
use Rattle.tilt_feed.specs.declared.update.Update.{Update}
use Rattle.tilt_feed.specs.declared.update.Update.TheVariants.{Row, Value, NoValue, KnownUpTo}
use Rattle.tilt_stream.specs.Snap.{Snapshot, ended_below}
use Rattle.tilt_stream.specs.Stream.{cell_at, covers, mark_at, stream_of}

-- an update that breaks no rule
pub record IsAllowed (edge : Edge) (update : Update) : Type 0 where
  pub range : in_range update ≡ true
  pub on : edge.watermark ≤ℤ comes_at edge update
  pub ticks : has_ticks update ≡ true

rules_by : (finished range late ticks : Bool)
    → (if finished then Some Finished else if not range then Some OutOfRange else if late then Some Late else if not ticks then Some NoTick else None) ≡ None
    → (finished ≡ false) × (range ≡ true) × (late ≡ false) × (ticks ≡ true)
rules_by true range late ticks is = absurd (cc is)
rules_by false false late ticks is = absurd (cc is)
rules_by false true true ticks is = absurd (cc is)
rules_by false true false false is = absurd (cc is)
rules_by false true false true is = (refl, refl, refl, refl)

pub allowed-of : (finished : Bool) (edge : Edge) (update : Update) → update_fault finished edge update ≡ None → (finished ≡ false) × IsAllowed edge update
allowed-of finished edge update is =
    let rules = rules_by finished (in_range update) (int_lt (comes_at edge update) edge.watermark) (has_ticks update) is in
    let late = rules.2 in
    (rules.0, record { range = rules.1; on = grind (arith, ints); ticks = rules.3 })

-- pieces that start at a tick or after it have no cell and no mark up to it, and none of them ends below it
piece-null : (s : Snapshot) (tick : ℤ) → tick ≤ℤ s.start → cell_at (s ∷ []) tick ≡ None
piece-null s tick low =
    let outside : covers s tick ≡ false = grind (arith, ints) in
    rw outside refl

piece-clear : (s : Snapshot) (tick : ℤ) → tick ≤ℤ s.start → s.start <ℤ s.end → mark_at (s ∷ []) tick ≡ false
piece-clear s tick low some =
    let start : int_eq tick (s.start +ℤ pos 1) ≡ false = grind (arith, ints) in
    let end : int_eq tick (s.end +ℤ pos 1) ≡ false = grind (arith, ints) in
    rw (start, end) refl

piece-late : (s : Snapshot) (tick : ℤ) → tick ≤ℤ s.start → s.start <ℤ s.end → ended_below tick (s ∷ []) ≡ zero
piece-late s tick low some =
    let later : int_lt s.end tick ≡ false = grind (arith, ints) in
    rw later refl

-- what follows the closed rows of an input after an update. First the row that was open, ended at the watermark or after it, and then
-- pieces that start there or after it. Nothing is new if the watermark is `T`
pub record IsTail (edge : Edge) (tail : List Snapshot) : Type 0 where
  pub end : ℤ
  pub more : List Snapshot
  pub is : tail ≡ closed_at end edge.open_row ++ more
  pub on : edge.watermark ≤ℤ end
  pub null : (tick : ℤ) → tick ≤ℤ edge.watermark → cell_at more tick ≡ None
  pub clear : (tick : ℤ) → tick ≤ℤ edge.watermark → mark_at more tick ≡ false
  pub late : (tick : ℤ) → tick ≤ℤ edge.watermark → ended_below tick more ≡ zero
  pub whole : edge.watermark ≡ T → (end ≡ T) × (more ≡ [])

-- nothing follows
pub tail-rests : (edge : Edge) (end : ℤ) (tail : List Snapshot) → tail ≡ closed_at end edge.open_row ++ [] → edge.watermark ≤ℤ end → (edge.watermark ≡ T → end ≡ T)
    → IsTail edge tail
tail-rests edge end tail is on last = record {
  end = end;
  more = [];
  is = is;
  on = on;
  null = λ tick low. refl;
  clear = λ tick low. refl;
  late = λ tick low. refl;
  whole = λ at. (last at, refl);
}

pub tail-ended : (edge : Edge) (end : ℤ) (tail : List Snapshot) → tail ≡ closed_at end edge.open_row ++ [] → edge.watermark ≤ℤ end → end ≤ℤ T → IsTail edge tail
tail-ended edge end tail is on high = tail-rests edge end tail is on (λ at. omega (arith, ints))

-- a piece follows
pub tail-piece : (edge : Edge) (end : ℤ) (s : Snapshot) (tail : List Snapshot) → tail ≡ closed_at end edge.open_row ++ s ∷ [] → edge.watermark ≤ℤ end → end ≤ℤ s.start → s.start <ℤ s.end
    → s.start <ℤ T → IsTail edge tail
tail-piece edge end s tail is on from some high = record {
  end = end;
  more = s ∷ [];
  is = is;
  on = on;
  null = λ tick low. piece-null s tick (omega (arith, ints));
  clear = λ tick low. piece-clear s tick (omega (arith, ints)) some;
  late = λ tick low. piece-late s tick (omega (arith, ints)) some;
  whole = λ last. absurd (omega (arith, ints));
}

-- an input after an update: what follows its closed rows, and the watermark, which doesn't fall
pub record IsStep (edge : Edge) (update : Update) : Type 0 where
  pub tail : IsTail edge (closed_by edge update ++ closed_at (watermark_after update) (opened_by edge update))
  pub low : edge.watermark ≤ℤ watermark_after update
  pub high : watermark_after update ≤ℤ T

pub row-tail : (edge : Edge) (start end : ℤ) (value : Option ℤ) (joins : Bool) → edge.watermark ≤ℤ (if joins then end else start) → start <ℤ end → end ≤ℤ T
    → IsTail edge ((if joins then closed_at end edge.open_row else closed_at start edge.open_row ++ record { start = start; end = end; value = value } ∷ []) ++ [])
row-tail edge start end value true on some high = tail-ended edge end _ refl on high
row-tail edge start end value false on some high =
    let s : Snapshot = record { start = start; end = end; value = value } in
    tail-piece edge start s _ (append-nil (closed_at start edge.open_row ++ s ∷ [])) on (omega (arith, ints)) some (omega (arith, ints))

row-low : (w start end : ℤ) (joins : Bool) → w ≤ℤ (if joins then end else start) → start <ℤ end → w ≤ℤ end
row-low w start end true on some = on
row-low w start end false on some = omega (arith, ints)

pub time-high : (tick : ℤ) → is_time tick ≡ true → tick ≤ℤ T
time-high tick is = grind (arith, ints)

pub step-of : (edge : Edge) (update : Update) → IsAllowed edge update → IsStep edge update
step-of edge (Row start end value) is =
    let high = time-high end (and_parts (is_time start) (is_time end) is.range).1 in
    let some = lt_true start end is.ticks in
    record {
      tail = row-tail edge start end value (continues edge.open_row start value) is.on some high;
      low = row-low edge.watermark start end (continues edge.open_row start value) is.on some;
      high = high;
    }
step-of edge (Value start value) is =
    let on = is.on in
    let some = lt_true start T is.ticks in
    record {
      tail = tail-piece edge start (record { start = start; end = start +ℤ pos 1; value = Some value }) _ refl on (omega (arith, ints)) (omega (arith, ints)) (omega (arith, ints));
      low = omega (arith, ints);
      high = omega (arith, ints);
    }
step-of edge (NoValue start) is =
    let on = is.on in
    let high = time-high start is.range in
    record {
      tail = tail-ended edge start _ refl on high;
      low = omega (arith, ints, clamps);
      high = omega (arith, ints, clamps);
    }
step-of edge (KnownUpTo watermark) is =
    let on = is.on in
    let high = time-high watermark is.range in
    record {
      tail = tail-ended edge watermark _ (sym (append-nil (closed_at watermark edge.open_row))) on high;
      low = on;
      high = high;
    }

-- what comes before and after pieces
cells-behind : (rows t u : List Snapshot) (tick : ℤ) → cell_at t tick ≡ cell_at u tick → cell_at (rows ++ t) tick ≡ cell_at (rows ++ u) tick
cells-behind [] t u tick is = is
cells-behind (s ∷ rows) t u tick is = rw (cells-behind rows t u tick is) refl

marks-behind : (rows t u : List Snapshot) (tick : ℤ) → mark_at t tick ≡ mark_at u tick → mark_at (rows ++ t) tick ≡ mark_at (rows ++ u) tick
marks-behind [] t u tick is = is
marks-behind (s ∷ rows) t u tick is = rw (marks-behind rows t u tick is) refl

null-behind : (rows more : List Snapshot) (tick : ℤ) → cell_at more tick ≡ None → cell_at rows tick ≡ cell_at (rows ++ more) tick
null-behind [] more tick is = sym is
null-behind (s ∷ rows) more tick is = rw (null-behind rows more tick is) refl

clear-behind : (rows more : List Snapshot) (tick : ℤ) → mark_at more tick ≡ false → mark_at rows tick ≡ mark_at (rows ++ more) tick
clear-behind [] more tick is = sym is
clear-behind (s ∷ rows) more tick is = rw (clear-behind rows more tick is) refl

pub mark-front : (rows more : List Snapshot) (tick : ℤ) → mark_at rows tick ≡ true → mark_at (rows ++ more) tick ≡ true
mark-front [] more tick is = absurd (cc is)
mark-front (s ∷ rows) more tick is =
    elim (or_cases (int_eq tick (s.start +ℤ pos 1) || int_eq tick (s.end +ℤ pos 1)) (mark_at rows tick) is) [
      | inl here ↦ rw here refl
      | inr there ↦ third_true (int_eq tick (s.start +ℤ pos 1)) (int_eq tick (s.end +ℤ pos 1)) (mark_at (rows ++ more) tick) (mark-front rows more tick there)
    ]

count-behind : (rows t u : List Snapshot) (tick : ℤ) → ended_below tick t ≡ ended_below tick u → ended_below tick (rows ++ t) ≡ ended_below tick (rows ++ u)
count-behind [] t u tick is = is
count-behind (s ∷ rows) t u tick is = rw (count-behind rows t u tick is) refl

none-behind : (rows more : List Snapshot) (tick : ℤ) → ended_below tick more ≡ zero → ended_below tick rows ≡ ended_below tick (rows ++ more)
none-behind [] more tick is = sym is
none-behind (s ∷ rows) more tick is = rw (none-behind rows more tick is) refl

-- the open row, ended later
ended-cell : (open_row : Option OpenRow) (w end tick : ℤ) → tick ≤ℤ w → w ≤ℤ end → cell_at (closed_at w open_row) tick ≡ cell_at (closed_at end open_row) tick
ended-cell None w end tick low on = refl
ended-cell (Some row) w end tick low on =
    let here : int_le tick w ≡ true = grind (arith, ints) in
    let there : int_le tick end ≡ true = grind (arith, ints) in
    rw (here, there) refl

ended-mark : (open_row : Option OpenRow) (w end tick : ℤ) → tick ≤ℤ w → w ≤ℤ end → mark_at (closed_at w open_row) tick ≡ mark_at (closed_at end open_row) tick
ended-mark None w end tick low on = refl
ended-mark (Some row) w end tick low on =
    let here : int_eq tick (w +ℤ pos 1) ≡ false = grind (arith, ints) in
    let there : int_eq tick (end +ℤ pos 1) ≡ false = grind (arith, ints) in
    rw (here, there) refl

ended-count : (open_row : Option OpenRow) (w end tick : ℤ) → tick ≤ℤ w → w ≤ℤ end → ended_below tick (closed_at w open_row) ≡ ended_below tick (closed_at end open_row)
ended-count None w end tick low on = refl
ended-count (Some row) w end tick low on =
    let here : int_lt w tick ≡ false = grind (arith, ints) in
    let there : int_lt end tick ≡ false = grind (arith, ints) in
    rw (here, there) refl

-- an input whose closed rows are followed by this tail is the same up to the watermark, and everywhere if that is `T`
module _ (a : InputFeed) (now : List Snapshot) (tail : List Snapshot) (t : IsTail a.edge tail) (is : now ≡ a.rows ++ tail) where
  tail-cell : (tick : ℤ) → tick ≤ℤ a.edge.watermark → cell_at (rows_now a) tick ≡ cell_at now tick
  tail-cell tick low =
      cells-behind a.rows (closed_at a.edge.watermark a.edge.open_row) tail tick
      (ended-cell a.edge.open_row a.edge.watermark t.end tick low t.on
      ∙ null-behind (closed_at t.end a.edge.open_row) t.more tick (t.null tick low)
      ∙ ap (λ (l : List Snapshot). cell_at l tick) (sym t.is))
      ∙ ap (λ (l : List Snapshot). cell_at l tick) (sym is)

  tail-mark : (tick : ℤ) → tick ≤ℤ a.edge.watermark → mark_at (rows_now a) tick ≡ mark_at now tick
  tail-mark tick low =
      marks-behind a.rows (closed_at a.edge.watermark a.edge.open_row) tail tick
      (ended-mark a.edge.open_row a.edge.watermark t.end tick low t.on
      ∙ clear-behind (closed_at t.end a.edge.open_row) t.more tick (t.clear tick low)
      ∙ ap (λ (l : List Snapshot). mark_at l tick) (sym t.is))
      ∙ ap (λ (l : List Snapshot). mark_at l tick) (sym is)

  tail-count : (tick : ℤ) → tick ≤ℤ a.edge.watermark → ended_below tick (rows_now a) ≡ ended_below tick now
  tail-count tick low =
      count-behind a.rows (closed_at a.edge.watermark a.edge.open_row) tail tick
      (ended-count a.edge.open_row a.edge.watermark t.end tick low t.on
      ∙ none-behind (closed_at t.end a.edge.open_row) t.more tick (t.late tick low)
      ∙ ap (ended_below tick) (sym t.is))
      ∙ ap (ended_below tick) (sym is)

  pub tail-whole : a.edge.watermark ≡ T → rows_now a ≡ now
  tail-whole last =
      let whole = t.whole last in
      let same : closed_at a.edge.watermark a.edge.open_row ≡ tail =
      sym (append-nil (closed_at a.edge.watermark a.edge.open_row))
      ∙ ap (λ (end : ℤ). closed_at end a.edge.open_row ++ []) (last ∙ sym whole.0)
      ∙ ap (λ (more : List Snapshot). closed_at t.end a.edge.open_row ++ more) (sym whole.1)
      ∙ sym t.is in
      ap (λ (l : List Snapshot). a.rows ++ l) same ∙ sym is

  tail-cell_by : (tick : ℤ) (last : Bool) → int_eq a.edge.watermark T ≡ last → IsKnownAt (if last then ForEver else Until a.edge.watermark) tick
      → cell_at (rows_now a) tick ≡ cell_at now tick
  tail-cell_by tick true last known =
      let at = (Decides-int_eq a.edge.watermark T).0 last in
      ap (λ (l : List Snapshot). cell_at l tick) (tail-whole at)
  tail-cell_by tick false last known = tail-cell tick known

  tail-mark_by : (tick : ℤ) (last : Bool) → int_eq a.edge.watermark T ≡ last → IsKnownAt (if last then ForEver else Until a.edge.watermark) tick
      → mark_at (rows_now a) tick ≡ mark_at now tick
  tail-mark_by tick true last known =
      let at = (Decides-int_eq a.edge.watermark T).0 last in
      ap (λ (l : List Snapshot). mark_at l tick) (tail-whole at)
  tail-mark_by tick false last known = tail-mark tick known

  tail-count_by : (tick : ℤ) (last : Bool) → int_eq a.edge.watermark T ≡ last → IsKnownAt (if last then ForEver else Until a.edge.watermark) tick
      → ended_below tick (rows_now a) ≡ ended_below tick now
  tail-count_by tick true last known =
      let at = (Decides-int_eq a.edge.watermark T).0 last in
      ap (ended_below tick) (tail-whole at)
  tail-count_by tick false last known = tail-count tick known

  pub tail-ended_same : (tick : ℤ) → IsKnownAt (input_horizon false a.edge) tick → ended_below tick (rows_now a) ≡ ended_below tick now
  tail-ended_same tick known = tail-count_by tick (int_eq a.edge.watermark T) refl known

  pub tail-same : AgreeUpTo (input_horizon false a.edge) (stream_of (rows_now a)) (stream_of now)
  tail-same = record {
    cells = λ tick known. tail-cell_by tick (int_eq a.edge.watermark T) refl known;
    marks = λ tick known. tail-mark_by tick (int_eq a.edge.watermark T) refl known;
  }

-- where a row ends, a mark follows
ends-mark : (w : ℤ) (rows : List Snapshot) → ends_at w rows ≡ true → mark_at rows (w +ℤ pos 1) ≡ true
ends-mark w [] is = absurd (cc is)
ends-mark w (s ∷ rows) is =
    elim (or_cases (int_eq s.end w) (ends_at w rows) is) [
      | inl here ↦ (let end : int_eq (w +ℤ pos 1) (s.end +ℤ pos 1) ≡ true = grind (arith, ints) in
          second_true (int_eq (w +ℤ pos 1) (s.start +ℤ pos 1)) (int_eq (w +ℤ pos 1) (s.end +ℤ pos 1)) (mark_at rows (w +ℤ pos 1)) end)
      | inr there ↦ third_true (int_eq (w +ℤ pos 1) (s.start +ℤ pos 1)) (int_eq (w +ℤ pos 1) (s.end +ℤ pos 1)) (mark_at rows (w +ℤ pos 1)) (ends-mark w rows there)
    ]

ends-front : (w : ℤ) (rows more : List Snapshot) → ends_at w rows ≡ true → ends_at w (rows ++ more) ≡ true
ends-front w [] more is = absurd (cc is)
ends-front w (s ∷ rows) more is =
    elim (or_cases (int_eq s.end w) (ends_at w rows) is) [
      | inl here ↦ rw here refl
      | inr there ↦ rw (ends-front w rows more there) (or-true (int_eq s.end w))
    ]

-- each tick up to the watermark is known
known-watermark_by : (w tick : ℤ) (whole : Bool) → tick ≤ℤ w → IsKnownAt (if whole then ForEver else Until w) tick
known-watermark_by w tick true low = tt
known-watermark_by w tick false low = low

pub known-watermark : (finished : Bool) (edge : Edge) (tick : ℤ) → tick ≤ℤ edge.watermark → IsKnownAt (input_horizon finished edge) tick
known-watermark finished edge tick low = known-watermark_by edge.watermark tick (finished || int_eq edge.watermark T) low

-- a sure mark of an input is one of its marks
pub sure-mark : (finished : Bool) (a : InputFeed) (tick : ℤ) → has_sure_mark finished a tick ≡ true → mark_at (rows_now a) tick ≡ true
sure-mark finished a tick is =
    let known = is_known_at (input_horizon finished a.edge) tick in
    let at = int_eq tick (a.edge.watermark +ℤ pos 1) in
    elim (or_cases (known && mark_at (rows_now a) tick) (at && ends_at a.edge.watermark a.rows) is) [
      | inl here ↦ (and_parts known (mark_at (rows_now a) tick) here).1
      | inr there ↦ (let both = and_parts at (ends_at a.edge.watermark a.rows) there in
          let same = (Decides-int_eq tick (a.edge.watermark +ℤ pos 1)).0 both.0 in
          ap (mark_at (rows_now a)) same
          ∙ mark-front a.rows (closed_at a.edge.watermark a.edge.open_row) (a.edge.watermark +ℤ pos 1) (ends-mark a.edge.watermark a.rows both.1))
    ]

-- and up to its horizon each of its marks is sure
pub known-sure : (finished : Bool) (a : InputFeed) (tick : ℤ) → IsKnownAt (input_horizon finished a.edge) tick → mark_at (rows_now a) tick ≡ true → has_sure_mark finished a tick ≡ true
known-sure finished a tick known is = rw (IsKnownAt-tested (input_horizon finished a.edge) tick known, is) refl

pub same_tests : (b c : Bool) → (b ≡ true → c ≡ true) → (c ≡ true → b ≡ true) → b ≡ c
same_tests true true there back = refl
same_tests true false there back = sym (there refl)
same_tests false true there back = back refl
same_tests false false there back = refl

pub sure-same : (finished : Bool) (a : InputFeed) → AgreeUpTo (input_horizon finished a.edge) (with_sure_marks finished a) (stream_of (rows_now a))
sure-same finished a = record {
  cells = λ tick known. refl;
  marks = λ tick known. same_tests (has_sure_mark finished a tick) (mark_at (rows_now a) tick) (sure-mark finished a tick) (known-sure finished a tick known);
}

-- a later state of an input: it is the same up to the horizon, each sure mark is sure still, and the horizon hasn't fallen
pub record Follows (finished later : Bool) (a b : InputFeed) : Type 0 where
  pub same : AgreeUpTo (input_horizon finished a.edge) (stream_of (rows_now a)) (stream_of (rows_now b))
  pub sure : HasMarksOf (with_sure_marks finished a) (with_sure_marks later b)
  pub rises : IsNotAbove (input_horizon finished a.edge) (input_horizon later b.edge)

pub follows-refl : (finished : Bool) (a : InputFeed) → Follows finished finished a a
follows-refl finished a = record {
  same = record { cells = λ tick known. refl; marks = λ tick known. refl };
  sure = marks-refl (with_sure_marks finished a);
  rises = above-refl (input_horizon finished a.edge);
}

pub follows-trans : (first second third : Bool) (a b c : InputFeed) → Follows first second a b → Follows second third b c → Follows first third a c
follows-trans first second third a b c f g = record {
  same = record {
    cells = λ tick known. f.same.cells tick known ∙ g.same.cells tick (f.rises.all tick known);
    marks = λ tick known. f.same.marks tick known ∙ g.same.marks tick (f.rises.all tick known);
  };
  sure = marks-trans (with_sure_marks first a) (with_sure_marks second b) (with_sure_marks third c) f.sure g.sure;
  rises = above-trans (input_horizon first a.edge) (input_horizon second b.edge) (input_horizon third c.edge) f.rises g.rises;
}

-- sure marks stay sure where rows are added and the watermark doesn't fall
module _ (finished later : Bool) (a b : InputFeed) (added : List Snapshot) (rows : b.rows ≡ a.rows ++ added) (low : a.edge.watermark ≤ℤ b.edge.watermark)
    (same : AgreeUpTo (input_horizon finished a.edge) (stream_of (rows_now a)) (stream_of (rows_now b)))
    (rises : IsNotAbove (input_horizon finished a.edge) (input_horizon later b.edge)) (tick : ℤ) where
  sure-known : IsKnownAt (input_horizon finished a.edge) tick → mark_at (rows_now a) tick ≡ true → has_sure_mark later b tick ≡ true
  sure-known known mark = known-sure later b tick (rises.all tick known) (sym (same.marks tick known) ∙ mark)

  sure-ended : tick ≡ a.edge.watermark +ℤ pos 1 → ends_at a.edge.watermark a.rows ≡ true → has_sure_mark later b tick ≡ true
  sure-ended at ends =
      let there : ends_at a.edge.watermark b.rows ≡ true = rw rows (ends-front a.edge.watermark a.rows added ends) in
      by_lt_z a.edge.watermark b.edge.watermark
      (λ passed.
      known-sure later b tick (known-watermark later b.edge tick (omega (arith, ints)))
      (ap (mark_at (rows_now b)) at
      ∙ mark-front b.rows (closed_at b.edge.watermark b.edge.open_row) (a.edge.watermark +ℤ pos 1) (ends-mark a.edge.watermark b.rows there)))
      (λ still.
      let kept : a.edge.watermark ≡ b.edge.watermark = omega (arith, ints) in
      let test = (Decides-int_eq tick (b.edge.watermark +ℤ pos 1)).1 (at ∙ ap (λ (w : ℤ). w +ℤ pos 1) kept) in
      let here : ends_at b.edge.watermark b.rows ≡ true = subst (λ (w : ℤ). ends_at w b.rows ≡ true) kept there in
      rw (test, here) (or-true (is_known_at (input_horizon later b.edge) tick && mark_at (rows_now b) tick)))

  sure-stays : has_sure_mark finished a tick ≡ true → has_sure_mark later b tick ≡ true
  sure-stays is =
      let known = is_known_at (input_horizon finished a.edge) tick in
      let at = int_eq tick (a.edge.watermark +ℤ pos 1) in
      elim (or_cases (known && mark_at (rows_now a) tick) (at && ends_at a.edge.watermark a.rows) is) [
        | inl here ↦ (let both = and_parts known (mark_at (rows_now a) tick) here in
            sure-known (tested-IsKnownAt (input_horizon finished a.edge) tick both.0) both.1)
        | inr there ↦ (let both = and_parts at (ends_at a.edge.watermark a.rows) there in
            sure-ended ((Decides-int_eq tick (a.edge.watermark +ℤ pos 1)).0 both.0) both.1)
      ]

-- the horizon of an input rises with its watermark, which is `T` at most
rises_by : (w v tick : ℤ) (whole more : Bool) → int_eq w T ≡ whole → int_eq v T ≡ more → w ≤ℤ v → v ≤ℤ T → IsKnownAt (if whole then ForEver else Until w) tick
    → IsKnownAt (if more then ForEver else Until v) tick
rises_by w v tick whole true is there low high known = tt
rises_by w v tick true false is there low high known = absurd (grind (arith, ints))
rises_by w v tick false false is there low high known = omega (arith, ints)

watermark-rises : (e f : Edge) → e.watermark ≤ℤ f.watermark → f.watermark ≤ℤ T → IsNotAbove (input_horizon false e) (input_horizon false f)
watermark-rises e f low high = record {
  all = λ tick known. rises_by e.watermark f.watermark tick (int_eq e.watermark T) (int_eq f.watermark T) refl refl low high known;
}

-- an update that is allowed
pub follows-update : (a : InputFeed) (update : Update) → IsAllowed a.edge update → Follows false false a (updated update a)
follows-update a update allowed =
    let b = updated update a in
    let step = step-of a.edge update allowed in
    let closed = closed_by a.edge update in
    let tail = closed ++ closed_at (watermark_after update) (opened_by a.edge update) in
    let same = tail-same a (rows_now b) tail step.tail (append_assoc a.rows closed (closed_at (watermark_after update) (opened_by a.edge update))) in
    let rises = watermark-rises a.edge b.edge step.low step.high in
    record {
      same = same;
      sure = record { all = λ tick is. sure-stays false false a b closed refl step.low same rises tick is };
      rises = rises;
    }

-- and the end
pub follows-finish : (a : InputFeed) → Follows false true a (finished_input a)
follows-finish a =
    let b = finished_input a in
    let kept : rows_now a ≡ rows_now b = sym (append-nil (rows_now a)) in
    let same : AgreeUpTo (input_horizon false a.edge) (stream_of (rows_now a)) (stream_of (rows_now b)) = record {
      cells = λ tick known. ap (λ (l : List Snapshot). cell_at l tick) kept;
      marks = λ tick known. ap (λ (l : List Snapshot). mark_at l tick) kept;
    } in
    let rises : IsNotAbove (input_horizon false a.edge) (input_horizon true b.edge) = record { all = λ tick known. tt } in
    record {
      same = same;
      sure = record { all = λ tick is. sure-stays false true a b (closed_at a.edge.watermark a.edge.open_row) refl (omega (arith, ints)) same rises tick is };
      rises = rises;
    }
