-- What is known of inputs is in order.
use Rattle.std.proofs.Common.{◌≡◌, ℕ, zero, suc, ℤ, pos, neg_ℤ, ◌+ℤ◌, ◌≤ℤ◌, ◌<ℤ◌, Bool, true, false, List, [], ◌∷◌, ◌++◌, map, replicate, Option, Some, None, is_none}
use Rattle.std.proofs.Common.{if◌then◌else◌, refl, sym, subst, append_assoc, append-nil, IsSome, arith}
use Rattle.std.specs.Int.{int_min}
use Rattle.std.specs.List.{AllByRecursion}
use Rattle.std.proofs.lemmas.Int.{ints, clamps}
use Rattle.tilt_base.proofs.Comparisons.{lt_true}
use Rattle.tilt_base.specs.declared.limits.TheConstants.{T}
use Rattle.tilt_feed.proofs.Following.{none-is}
use Rattle.tilt_feed.proofs.Updates.{IsAllowed, allowed-of, step-of, time-high}
use Rattle.tilt_feed.specs.Events.{after, after_all, changed_by, closed_by, continues, edge_of, event_fault, finished_input, updated, updated_at}
use Rattle.tilt_feed.specs.Events.{watermark_after}
use Rattle.tilt_feed.specs.Feed.{InputFeed, Feed, empty_feed, closed_at, rows_now, unknown_input}
use Rattle.tilt_feed.specs.Laws.{IsInOrder}
use Rattle.tilt_feed.specs.declared.event.Event.{Event}
use Rattle.tilt_feed.specs.declared.event.Event.TheVariants.{Input, Finish}
use Rattle.tilt_feed.specs.declared.open_row.OpenRow.{OpenRow}
use Rattle.tilt_feed.specs.declared.update.Update.{Update}
use Rattle.tilt_feed.specs.declared.update.Update.TheVariants.{Row, Value, NoValue, KnownUpTo}
use Rattle.tilt_stream.specs.Snap.{Snapshot, InOrder}

-- rows in order stay so under a higher limit
pub order-raised : (from limit higher : ℤ) (rows : List Snapshot) → limit ≤ℤ higher → InOrder from limit rows → InOrder from higher rows
order-raised from limit higher [] on h = tt
order-raised from limit higher (s ∷ rows) on h = let end = h.2 in (h.0, h.1, omega (arith, ints), order-raised s.end limit higher rows on h.3)

-- where the open row ends later
pub order-ended : (from w end : ℤ) (rows : List Snapshot) (open_row : Option OpenRow) → w ≤ℤ end → InOrder from w (rows ++ closed_at w open_row)
    → InOrder from end (rows ++ closed_at end open_row)
order-ended from w end [] None on h = tt
order-ended from w end [] (Some row) on h = let some = h.1 in (h.0, omega (arith, ints), omega (arith, ints), tt)
order-ended from w end (s ∷ rows) open_row on h = let high = h.2 in (h.0, h.1, omega (arith, ints), order-ended s.end w end rows open_row on h.3)

-- and where a piece follows that starts at the limit or after it
order-piece : (from limit higher : ℤ) (rows : List Snapshot) (s : Snapshot) → from ≤ℤ limit → InOrder from limit rows → limit ≤ℤ s.start → s.start <ℤ s.end → s.end ≤ℤ higher
    → InOrder from higher (rows ++ s ∷ [])
order-piece from limit higher [] s low h on some high = (omega (arith, ints), some, high, tt)
order-piece from limit higher (r ∷ rows) s low h on some high =
    let end = h.2 in
    (h.0, h.1, omega (arith, ints), order-piece r.end limit higher rows s end h.3 on some high)

module _ (a : InputFeed) (is : IsInOrder a) where
  abbrev from : ℤ
  from = neg_ℤ T

  -- the rows up to a later end of the open row, and a piece after them
  ended-then : (end higher : ℤ) (s : Snapshot) → a.edge.watermark ≤ℤ end → end ≤ℤ s.start → s.start <ℤ s.end → s.end ≤ℤ higher
      → InOrder from higher (a.rows ++ (closed_at end a.edge.open_row ++ s ∷ []))
  ended-then end higher s on behind some high =
      let low = is.low in
      subst (InOrder from higher) (append_assoc a.rows (closed_at end a.edge.open_row) (s ∷ []))
      (order-piece from end higher (a.rows ++ closed_at end a.edge.open_row) s (omega (arith, ints))
      (order-ended from a.edge.watermark end a.rows a.edge.open_row on is.rows) behind some high)

  ended-only : (end higher : ℤ) → a.edge.watermark ≤ℤ end → end ≤ℤ higher → InOrder from higher (a.rows ++ closed_at end a.edge.open_row)
  ended-only end higher on high =
      order-raised from end higher (a.rows ++ closed_at end a.edge.open_row) high (order-ended from a.edge.watermark end a.rows a.edge.open_row on is.rows)

  row-order : (start end : ℤ) (value : Option ℤ) (joins : Bool) → a.edge.watermark ≤ℤ (if joins then end else start) → start <ℤ end
      → InOrder from end (a.rows ++ (if joins then closed_at end a.edge.open_row else closed_at start a.edge.open_row ++ record { start = start; end = end; value = value } ∷ []))
  row-order start end value true on some = ended-only end end on (omega (arith, ints))
  row-order start end value false on some =
      ended-then start end (record { start = start; end = end; value = value }) on (omega (arith, ints)) some (omega (arith, ints))

  update-rows : (update : Update) → IsAllowed a.edge update → InOrder from (watermark_after update) (rows_now (updated update a))
  update-rows (Row start end value) allowed =
      let some = lt_true start end allowed.ticks in
      subst (InOrder from end) (sym (append-nil (a.rows ++ closed_by a.edge (Row start end value))))
      (row-order start end value (continues a.edge.open_row start value) allowed.on some)
  update-rows (Value start value) allowed =
      let on = allowed.on in
      let s : Snapshot = record { start = start; end = start +ℤ pos 1; value = Some value } in
      subst (InOrder from (start +ℤ pos 1)) (sym (append_assoc a.rows (closed_at start a.edge.open_row) (s ∷ [])))
      (ended-then start (start +ℤ pos 1) s on (omega (arith, ints)) (omega (arith, ints)) (omega (arith, ints)))
  update-rows (NoValue start) allowed =
      let on = allowed.on in
      let high = time-high start allowed.range in
      subst (InOrder from (int_min (start +ℤ pos 1) T)) (sym (append-nil (a.rows ++ closed_at start a.edge.open_row)))
      (ended-only start (int_min (start +ℤ pos 1) T) on (omega (arith, ints, clamps)))
  update-rows (KnownUpTo watermark) allowed =
      subst (λ (l : List Snapshot). InOrder from watermark (l ++ closed_at watermark a.edge.open_row)) (sym (append-nil a.rows))
      (ended-only watermark watermark allowed.on (omega (arith, ints)))

  -- an input stays in order under an update that is allowed
  pub update-order : (update : Update) → IsAllowed a.edge update → IsInOrder (updated update a)
  update-order update allowed =
      let step = step-of a.edge update allowed in
      let before = is.low in
      let low = step.low in
      record { rows = update-rows update allowed; low = omega (arith, ints); high = step.high }

  -- and at the end
  pub finish-order : IsInOrder (finished_input a)
  finish-order = record { rows = subst (InOrder from a.edge.watermark) (sym (append-nil (rows_now a))) is.rows; low = is.low; high = is.high }

abbrev pub AreInOrder : List InputFeed → Type 0
AreInOrder inputs = AllByRecursion IsInOrder inputs

updated-order : (number : ℕ) (update : Update) (inputs : List InputFeed) → IsAllowed (edge_of inputs number) update → AreInOrder inputs → AreInOrder (updated_at number update inputs)
updated-order number update [] allowed all = tt
updated-order zero update (a ∷ inputs) allowed all = (update-order a all.0 update allowed, all.1)
updated-order (suc number) update (a ∷ inputs) allowed all = (all.0, updated-order number update inputs allowed all.1)

finished-order : (inputs : List InputFeed) → AreInOrder inputs → AreInOrder (map finished_input inputs)
finished-order [] all = tt
finished-order (a ∷ inputs) all = (finish-order a all.0, finished-order inputs all.1)

changed-order : (event : Event) (feed : Feed) → event_fault feed event ≡ None → AreInOrder feed.inputs → AreInOrder (changed_by event feed.inputs).inputs
changed-order (Input number update) feed is all = updated-order number update feed.inputs (allowed-of feed.finished (edge_of feed.inputs number) update is).1 all
changed-order Finish feed is all = finished-order feed.inputs all

after_by-order : (event : Event) (feed : Feed) (allowed : Bool) → is_none (event_fault feed event) ≡ allowed → AreInOrder feed.inputs
    → AreInOrder (if allowed then changed_by event feed.inputs else feed).inputs
after_by-order event feed true is all = changed-order event feed (none-is (event_fault feed event) is) all
after_by-order event feed false is all = all

pub after-order : (event : Event) (feed : Feed) → AreInOrder feed.inputs → AreInOrder (after event feed).inputs
after-order event feed all = after_by-order event feed (is_none (event_fault feed event)) refl all

after_all-order : (events : List Event) (feed : Feed) → AreInOrder feed.inputs → AreInOrder (after_all events feed).inputs
after_all-order [] feed all = all
after_all-order (event ∷ events) feed all = after_all-order events (after event feed) (after-order event feed all)

unknown-order : (inputs : ℕ) → AreInOrder (replicate inputs unknown_input)
unknown-order zero = tt
unknown-order (suc inputs) = (record { rows = tt; low = omega (arith, ints); high = omega (arith, ints) }, unknown-order inputs)

pub fed-order : (inputs : ℕ) (events : List Event) → AreInOrder (after_all events (empty_feed inputs)).inputs
fed-order inputs events = after_all-order events (empty_feed inputs) (unknown-order inputs)

-- an event that isn't allowed changes nothing
pub after-unchanged : (feed : Feed) (event : Event) → IsSome (event_fault feed event) → after event feed ≡ feed
after-unchanged feed event some = rw some refl
