-- The rows of an input at rest: they are in order, and up to the horizon they are the same as the rows as they are now. Their marks are the
-- sure marks, and they go on after an event.
use Rattle.std.proofs.Common.{◌≡◌, ℤ, pos, neg_ℤ, ◌+ℤ◌, ◌≤ℤ◌, ◌<ℤ◌, Bool, true, false, ◌&&◌, ◌||◌, List, [], ◌∷◌, ◌++◌, Option, Some, None, int_le}
use Rattle.std.proofs.Common.{if◌then◌else◌, refl, ap, sym, ◌∙◌, append_assoc, append-nil, arith}
use Rattle.std.specs.Ordering.{int_eq}
use Rattle.std.proofs.lemmas.Bool.Decides.{Decides-int_eq}
use Rattle.std.proofs.lemmas.Int.{ints, by_lt_z}
use Rattle.tilt_base.proofs.Booleans.{first_true}
use Rattle.tilt_base.proofs.Comparisons.{lt_true}
use Rattle.tilt_base.specs.declared.limits.TheConstants.{T, WIDE}
use Rattle.tilt_feed.proofs.Ordered.{order-ended, order-raised}
use Rattle.tilt_feed.proofs.SureMarks.{either_true}
use Rattle.tilt_feed.proofs.Updates.{IsAllowed, IsTail, known-watermark, row-tail, step-of, sure-same, tail-ended, tail-ended_same, tail-piece, tail-rests, tail-same, tail-whole}
use Rattle.tilt_feed.proofs.Updates.{time-high}
use Rattle.tilt_feed.specs.Events.{closed_by, continues, finished_input, opened_by, updated, watermark_after}
use Rattle.tilt_feed.specs.Feed.{InputFeed, closed_at, rows_now}
use Rattle.tilt_feed.specs.Horizon.{Horizon, IsKnownAt, input_horizon}
use Rattle.tilt_feed.specs.Laws.{AgreeUpTo, IsInOrder}
use Rattle.tilt_feed.specs.Resting.{RestsOn, resting, resting_end}
use Rattle.tilt_feed.specs.Sure.{ends_at, has_sure_mark}
use Rattle.tilt_feed.specs.declared.edge.Edge.{Edge}
use Rattle.tilt_feed.specs.declared.open_row.OpenRow.{OpenRow}
use Rattle.tilt_feed.specs.declared.update.Update.{Update}
use Rattle.tilt_feed.specs.declared.update.Update.TheVariants.{Row, Value, NoValue, KnownUpTo}
use Rattle.tilt_stream.specs.Snap.{Snapshot, InOrder}
use Rattle.tilt_stream.specs.Stream.{mark_at, stream_of}

-- where the open row is taken to end: at the watermark or after it, at `T` if that is the watermark, and otherwise beyond all times
end-low_by : (w : ℤ) (last : Bool) → int_eq w T ≡ last → w ≤ℤ T → w ≤ℤ (if last then T else WIDE)
end-low_by w true is high = high
end-low_by w false is high = omega (arith, ints)

pub end-low : (edge : Edge) → edge.watermark ≤ℤ T → edge.watermark ≤ℤ resting_end edge
end-low edge high = end-low_by edge.watermark (int_eq edge.watermark T) refl high

end-high_by : (last : Bool) → (if last then T else WIDE) ≤ℤ WIDE
end-high_by true = omega (arith, ints)
end-high_by false = omega (arith, ints)

end-high : (edge : Edge) → resting_end edge ≤ℤ WIDE
end-high edge = end-high_by (int_eq edge.watermark T)

end-last : (edge : Edge) → edge.watermark ≡ T → resting_end edge ≡ T
end-last edge at = ap (λ (last : Bool). if last then T else WIDE) ((Decides-int_eq edge.watermark T).1 at)

end-wide : (edge : Edge) → int_eq edge.watermark T ≡ false → resting_end edge ≡ WIDE
end-wide edge before = ap (λ (last : Bool). if last then T else WIDE) before

-- what follows the closed rows at rest
own-tail : (edge : Edge) → edge.watermark ≤ℤ T → IsTail edge (closed_at (resting_end edge) edge.open_row)
own-tail edge high =
    tail-rests edge (resting_end edge) (closed_at (resting_end edge) edge.open_row) (sym (append-nil (closed_at (resting_end edge) edge.open_row)))
    (end-low edge high) (end-last edge)

-- and what follows them at rest after an update
abbrev edge_after : Edge → Update → Edge
edge_after edge update = record { open_row = opened_by edge update; watermark = watermark_after update }

resting-tail : (edge : Edge) (update : Update) → IsAllowed edge update
    → IsTail edge (closed_by edge update ++ closed_at (resting_end (edge_after edge update)) (opened_by edge update))
resting-tail edge (Row start end value) is =
    let step = step-of edge (Row start end value) is in
    row-tail edge start end value (continues edge.open_row start value) is.on (lt_true start end is.ticks) step.high
resting-tail edge (Value start value) is =
    let some = lt_true start T is.ticks in
    let on = is.on in
    let after = edge_after edge (Value start value) in
    let low = end-low after (omega (arith, ints)) in
    tail-piece edge start (record { start = start; end = resting_end after; value = Some value }) _ refl on (omega (arith, ints)) (omega (arith, ints)) some
resting-tail edge (NoValue start) is = tail-ended edge start _ refl is.on (time-high start is.range)
resting-tail edge (KnownUpTo watermark) is =
    let on = is.on in
    let high = time-high watermark is.range in
    let after = edge_after edge (KnownUpTo watermark) in
    let low = end-low after high in
    tail-rests edge (resting_end after) _ (sym (append-nil (closed_at (resting_end after) edge.open_row))) (omega (arith, ints)) (λ at. end-last after (omega (arith, ints)))

-- the marks of an open row stay, if it was taken to end beyond all times
only_first : (a b : Bool) → b ≡ false → (a || b || false) ≡ true → a ≡ true
only_first true b none is = refl
only_first false true none is = absurd (cc none)
only_first false false none is = absurd (cc is)

open-mark : (open_row : Option OpenRow) (end : ℤ) (more : List Snapshot) (tick : ℤ) → tick ≤ℤ WIDE → mark_at (closed_at WIDE open_row) tick ≡ true
    → mark_at (closed_at end open_row ++ more) tick ≡ true
open-mark None end more tick low mark = absurd (cc mark)
open-mark (Some row) end more tick low mark =
    let past : int_eq tick (WIDE +ℤ pos 1) ≡ false = grind (arith, ints) in
    let begins = int_eq tick (row.start +ℤ pos 1) in
    first_true begins (int_eq tick (end +ℤ pos 1)) (mark_at more tick) (only_first begins (int_eq tick (WIDE +ℤ pos 1)) past mark)

mark-behind : (rows t u : List Snapshot) (tick : ℤ) → (mark_at t tick ≡ true → mark_at u tick ≡ true) → mark_at (rows ++ t) tick ≡ true → mark_at (rows ++ u) tick ≡ true
mark-behind [] t u tick kept mark = kept mark
mark-behind (s ∷ rows) t u tick kept mark =
    let here = int_eq tick (s.start +ℤ pos 1) || int_eq tick (s.end +ℤ pos 1) in
    either_true here (mark_at (rows ++ t) tick) here (mark_at (rows ++ u) tick) (λ is. is) (mark-behind rows t u tick kept) mark

-- an input at rest goes on as one whose closed rows are followed by this tail
module _ (a : InputFeed) (high : a.edge.watermark ≤ℤ T) (next : List Snapshot) (tail : List Snapshot) (t : IsTail a.edge tail) (is : next ≡ a.rows ++ tail) where
  mark-stays_by : (last : Bool) → int_eq a.edge.watermark T ≡ last → (tick : ℤ) → tick ≤ℤ WIDE → mark_at (resting a) tick ≡ true → mark_at next tick ≡ true
  mark-stays_by true last tick low mark =
      let at = (Decides-int_eq a.edge.watermark T).0 last in
      let whole = sym (tail-whole a (resting a) (closed_at (resting_end a.edge) a.edge.open_row) (own-tail a.edge high) refl at) ∙ tail-whole a next tail t is at in
      ap (λ (l : List Snapshot). mark_at l tick) (sym whole) ∙ mark
  mark-stays_by false last tick low mark =
      let wide = ap (λ (end : ℤ). mark_at (a.rows ++ closed_at end a.edge.open_row) tick) (end-wide a.edge last) in
      ap (λ (l : List Snapshot). mark_at l tick) (is ∙ ap (λ (l : List Snapshot). a.rows ++ l) t.is)
      ∙ mark-behind a.rows (closed_at WIDE a.edge.open_row) (closed_at t.end a.edge.open_row ++ t.more) tick (open-mark a.edge.open_row t.end t.more tick low) (sym wide ∙ mark)

  pub rests-on_tail : RestsOn (input_horizon false a.edge) (resting a) next
  rests-on_tail =
      let own = own-tail a.edge high in
      let first = tail-same a (resting a) (closed_at (resting_end a.edge) a.edge.open_row) own refl in
      let second = tail-same a next tail t is in
      record {
        ended = λ tick known.
            sym (tail-ended_same a (resting a) (closed_at (resting_end a.edge) a.edge.open_row) own refl tick known) ∙ tail-ended_same a next tail t is tick known;
        cells = λ tick known. sym (first.cells tick known) ∙ second.cells tick known;
        marks = λ tick known. sym (first.marks tick known) ∙ second.marks tick known;
        kept = mark-stays_by (int_eq a.edge.watermark T) refl;
      }

pub rests-refl : (h : Horizon) (list : List Snapshot) → RestsOn h list list
rests-refl h list = record { ended = λ tick known. refl; cells = λ tick known. refl; marks = λ tick known. refl; kept = λ tick low mark. mark }

-- after an update that is allowed
pub rests-update : (a : InputFeed) (update : Update) → IsInOrder a → IsAllowed a.edge update → RestsOn (input_horizon false a.edge) (resting a) (resting (updated update a))
rests-update a update is allowed =
    let after = edge_after a.edge update in
    rests-on_tail a is.high (resting (updated update a)) (closed_by a.edge update ++ closed_at (resting_end after) (opened_by a.edge update))
    (resting-tail a.edge update allowed) (append_assoc a.rows (closed_by a.edge update) (closed_at (resting_end after) (opened_by a.edge update)))

-- and after the end
pub rests-finish : (a : InputFeed) → IsInOrder a → RestsOn (input_horizon false a.edge) (resting a) (resting (finished_input a))
rests-finish a is =
    let high = is.high in
    let w = a.edge.watermark in
    rests-on_tail a high (resting (finished_input a)) (closed_at w a.edge.open_row ++ []) (tail-ended a.edge w (closed_at w a.edge.open_row ++ []) refl (omega (arith, ints)) high)
    (append_assoc a.rows (closed_at w a.edge.open_row) [])

-- the rows at rest are in order
pub resting-order : (a : InputFeed) → IsInOrder a → InOrder (neg_ℤ T) WIDE (resting a)
resting-order a is =
    order-raised (neg_ℤ T) (resting_end a.edge) WIDE (resting a) (end-high a.edge)
    (order-ended (neg_ℤ T) a.edge.watermark (resting_end a.edge) a.rows a.edge.open_row (end-low a.edge is.high) is.rows)

-- an input of a feed: in order, and if the feed is finished, without an open row
pub record IsSettled (finished : Bool) (a : InputFeed) : Type 0 where
  pub order : IsInOrder a
  pub closed : finished ≡ true → a.edge.open_row ≡ None

closed-rests : (a : InputFeed) → a.edge.open_row ≡ None → rows_now a ≡ resting a
closed-rests a closed =
    ap (λ (o : Option OpenRow). a.rows ++ closed_at a.edge.watermark o) closed ∙ ap (λ (o : Option OpenRow). a.rows ++ closed_at (resting_end a.edge) o) (sym closed)

-- up to its horizon an input at rest is as it is now
pub resting-same : (finished : Bool) (a : InputFeed) → IsSettled finished a → AgreeUpTo (input_horizon finished a.edge) (stream_of (rows_now a)) (stream_of (resting a))
resting-same true a is = rw (closed-rests a (is.closed refl)) (record { cells = λ tick known. refl; marks = λ tick known. refl })
resting-same false a is =
    let order = is.order in
    tail-same a (resting a) (closed_at (resting_end a.edge) a.edge.open_row) (own-tail a.edge order.high) refl

-- above the watermark the marks of rows are those of a row that ends there
or_both : (e b c : Bool) → (e && (b || c)) ≡ ((e && b) || (e && c))
or_both true b c = refl
or_both false b c = refl

not_both : (e : Bool) → (e && false) ≡ false
not_both true = refl
not_both false = refl

end-mark : (end w tick : ℤ) → end ≤ℤ w → w <ℤ tick → int_eq tick (end +ℤ pos 1) ≡ (int_eq tick (w +ℤ pos 1) && int_eq end w)
end-mark end w tick low above = grind (arith, ints)

open-clear : (open_row : Option OpenRow) (from w tick : ℤ) → InOrder from w (closed_at w open_row) → w <ℤ tick → tick ≤ℤ WIDE → mark_at (closed_at WIDE open_row) tick ≡ false
open-clear None from w tick order above low = refl
open-clear (Some row) from w tick order above low =
    let begun = order.1 in
    let start : int_eq tick (row.start +ℤ pos 1) ≡ false = grind (arith, ints) in
    let past : int_eq tick (WIDE +ℤ pos 1) ≡ false = grind (arith, ints) in
    rw (start, past) refl

above-marks : (from w tick : ℤ) (rows : List Snapshot) (open_row : Option OpenRow) → InOrder from w (rows ++ closed_at w open_row) → w <ℤ tick → tick ≤ℤ WIDE
    → (int_eq tick (w +ℤ pos 1) && ends_at w rows) ≡ mark_at (rows ++ closed_at WIDE open_row) tick
above-marks from w tick [] open_row order above low = not_both (int_eq tick (w +ℤ pos 1)) ∙ sym (open-clear open_row from w tick order above low)
above-marks from w tick (s ∷ rows) open_row order above low =
    let some = order.1 in
    let ends = order.2 in
    let e = int_eq tick (w +ℤ pos 1) in
    let start : int_eq tick (s.start +ℤ pos 1) ≡ false = grind (arith, ints) in
    let rest = above-marks s.end w tick rows open_row order.3 above low in
    rw start
    (or_both e (int_eq s.end w) (ends_at w rows)
    ∙ ap (λ (b : Bool). b || (e && ends_at w rows)) (sym (end-mark s.end w tick ends above))
    ∙ ap (λ (b : Bool). int_eq tick (s.end +ℤ pos 1) || b) rest)

-- so up to all times of queries the marks of an input at rest are its sure marks
above-sure : (w tick : ℤ) (known mark ended : Bool) → int_le tick w ≡ known → w <ℤ tick → ((known && mark) || ended) ≡ ended
above-sure w tick true mark ended is above = absurd (grind (arith, ints))
above-sure w tick false mark ended is above = refl

sure-rests_by : (a : InputFeed) (last : Bool) → int_eq a.edge.watermark T ≡ last → IsInOrder a → (tick : ℤ) → tick ≤ℤ WIDE → has_sure_mark false a tick ≡ mark_at (resting a) tick
sure-rests_by a true last is tick low =
    let known : IsKnownAt (input_horizon false a.edge) tick = rw last tt in
    let at = (Decides-int_eq a.edge.watermark T).0 last in
    (sure-same false a).marks tick known
    ∙ ap (λ (l : List Snapshot). mark_at l tick) (tail-whole a (resting a) (closed_at (resting_end a.edge) a.edge.open_row) (own-tail a.edge is.high) refl at)
sure-rests_by a false last is tick low =
    let w = a.edge.watermark in
    by_lt_z w tick
    (λ above.
    rw last (above-sure w tick (int_le tick w) (mark_at (rows_now a) tick) (int_eq tick (w +ℤ pos 1) && ends_at w a.rows) refl above)
    ∙ above-marks (neg_ℤ T) w tick a.rows a.edge.open_row is.rows above low
    ∙ ap (λ (end : ℤ). mark_at (a.rows ++ closed_at end a.edge.open_row) tick) (sym (end-wide a.edge last)))
    (λ below.
    let known = known-watermark false a.edge tick below in
    (sure-same false a).marks tick known
    ∙ (tail-same a (resting a) (closed_at (resting_end a.edge) a.edge.open_row) (own-tail a.edge is.high) refl).marks tick known)

pub sure-rests : (finished : Bool) (a : InputFeed) → IsSettled finished a → (tick : ℤ) → tick ≤ℤ WIDE → has_sure_mark finished a tick ≡ mark_at (resting a) tick
sure-rests true a is tick low = (sure-same true a).marks tick tt ∙ ap (λ (l : List Snapshot). mark_at l tick) (closed-rests a (is.closed refl))
sure-rests false a is tick low = sure-rests_by a (int_eq a.edge.watermark T) refl is.order tick low
