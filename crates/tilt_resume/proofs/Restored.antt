-- The events that say what is known of inputs make these inputs of unknown ones.
use Rattle.std.proofs.Common.{◌≡◌, suc, ℤ, pos, neg_ℤ, ◌+ℤ◌, ◌≤ℤ◌, ◌<ℤ◌, true, false, List, [], ◌∷◌, ◌++◌, length, replicate, Option, Some, None, refl, sym, ap, ◌∙◌, arith, append_assoc, append-nil, length-append}
use Rattle.std.specs.List.{AllByRecursion}
use Rattle.std.specs.Prelude.{int_lt}
use Rattle.std.proofs.lemmas.Int.{ints}
use Rattle.tilt_base.specs.declared.limits.TheConstants.{T}
use Rattle.tilt_feed.specs.Events.{after, after_all, edge_of, event_fault, is_time, update_fault, updated, updated_at}
use Rattle.tilt_feed.specs.Feed.{Feed, InputFeed, closed_at, empty_feed, unknown_input}
use Rattle.tilt_feed.specs.Laws.{IsInOrder}
use Rattle.tilt_feed.specs.declared.edge.Edge.{Edge}
use Rattle.tilt_feed.specs.declared.event.Event.{Event}
use Rattle.tilt_feed.specs.declared.event.Event.TheVariants.{Input}
use Rattle.tilt_feed.specs.declared.open_row.OpenRow.{OpenRow}
use Rattle.tilt_feed.specs.declared.update.Update.{Update}
use Rattle.tilt_feed.specs.declared.update.Update.TheVariants.{Value, KnownUpTo}
use Rattle.tilt_resume.specs.Restoring.{all_events, edge_events, input_events, row_events, row_update}
use Rattle.tilt_stream.specs.Snap.{Snapshot, InOrder}

-- events in two parts
pub after_all-append : (one other : List Event) (feed : Feed) → after_all (one ++ other) feed ≡ after_all other (after_all one feed)
after_all-append [] other feed = refl
after_all-append (event ∷ one) other feed = after_all-append one other (after event feed)

-- a feed that isn't finished, of which one input is this
abbrev pub feed_with : List InputFeed → List InputFeed → InputFeed → Feed
feed_with front back a = record { inputs = front ++ a ∷ back; finished = false }

edge-there : (front back : List InputFeed) (a : InputFeed) → edge_of (front ++ a ∷ back) (length front) ≡ a.edge
edge-there [] back a = refl
edge-there (f ∷ front) back a = edge-there front back a

updated-there : (update : Update) (front back : List InputFeed) (a : InputFeed) → updated_at (length front) update (front ++ a ∷ back) ≡ front ++ updated update a ∷ back
updated-there update [] back a = refl
updated-there update (f ∷ front) back a = ap (λ (list : List InputFeed). f ∷ list) (updated-there update front back a)

module _ (front back : List InputFeed) where
  -- an update that is allowed
  update-there : (update : Update) (a : InputFeed) → update_fault false a.edge update ≡ None
      → after (Input (length front) update) (feed_with front back a) ≡ feed_with front back (updated update a)
  update-there update a allowed =
      let none : event_fault (feed_with front back a) (Input (length front) update) ≡ None =
      ap (λ (e : Edge). update_fault false e update) (edge-there front back a) ∙ allowed in
      rw none (ap (λ (list : List InputFeed). record { inputs = list; finished = false }) (updated-there update front back a))

  time-in : (tick : ℤ) → neg_ℤ T ≤ℤ tick → tick ≤ℤ T → is_time tick ≡ true
  time-in tick low high = grind (arith, ints)

  -- an input with closed rows up to a tick
  abbrev closed_to : List Snapshot → ℤ → InputFeed
  closed_to rows tick = record { rows = rows; edge = record { open_row = None; watermark = tick } }

  row-allowed : (done : List Snapshot) (s : Snapshot) (from : ℤ) → neg_ℤ T ≤ℤ from → from ≤ℤ s.start → s.start <ℤ s.end → s.end ≤ℤ T
      → update_fault false (closed_to done from).edge (row_update s) ≡ None
  row-allowed done s from low on some high =
      let a = time-in s.start (omega (arith, ints)) (omega (arith, ints)) in
      let b = time-in s.end (omega (arith, ints)) (omega (arith, ints)) in
      let late : int_lt s.start from ≡ false = grind (arith, ints) in
      let ticks : int_lt s.start s.end ≡ true = grind (arith, ints) in
      rw (a, b, late, ticks) refl

  value-allowed : (done : List Snapshot) (start value from : ℤ) → neg_ℤ T ≤ℤ from → from ≤ℤ start → start <ℤ T
      → update_fault false (closed_to done from).edge (Value start value) ≡ None
  value-allowed done start value from low on high =
      let a = time-in start (omega (arith, ints)) (omega (arith, ints)) in
      let late : int_lt start from ≡ false = grind (arith, ints) in
      let ticks : int_lt start T ≡ true = grind (arith, ints) in
      rw (a, late, ticks) refl

  known-allowed : (edge : Edge) (watermark : ℤ) → neg_ℤ T ≤ℤ watermark → watermark ≤ℤ T → edge.watermark ≤ℤ watermark → update_fault false edge (KnownUpTo watermark) ≡ None
  known-allowed edge watermark low high on =
      let a = time-in watermark low high in
      let late : int_lt watermark edge.watermark ≡ false = grind (arith, ints) in
      rw (a, late) refl

  -- closed rows, after others, and the edge after all of them
  rows-there : (w : ℤ) (opened : Option OpenRow) (done rows : List Snapshot) (from : ℤ) → InOrder from w (rows ++ closed_at w opened) → neg_ℤ T ≤ℤ from → from ≤ℤ w → w ≤ℤ T
      → after_all (row_events (length front) rows ++ edge_events (length front) (record { open_row = opened; watermark = w })) (feed_with front back (closed_to done from))
      ≡ feed_with front back (record { rows = done ++ rows; edge = record { open_row = opened; watermark = w } })
  rows-there w None done [] from order low on high =
      update-there (KnownUpTo w) (closed_to done from) (known-allowed (closed_to done from).edge w (omega (arith, ints)) high on)
  rows-there w (Some row) done [] from order low on high =
      let start = order.0 in
      let some = order.1 in
      let opened : InputFeed = record { rows = done ++ []; edge = record { open_row = Some row; watermark = row.start +ℤ pos 1 } } in
      let at = update-there (Value row.start row.value) (closed_to done from) (value-allowed done row.start row.value from low start (omega (arith, ints))) in
      ap (after (Input (length front) (KnownUpTo w))) at
      ∙ update-there (KnownUpTo w) opened (known-allowed opened.edge w (omega (arith, ints)) high (omega (arith, ints)))
      ∙ ap (λ (list : List Snapshot). feed_with front back (record { rows = list; edge = record { open_row = Some row; watermark = w } })) (append-nil (done ++ []))
  rows-there w opened done (s ∷ rows) from order low on high =
      let start = order.0 in
      let some = order.1 in
      let end = order.2 in
      let edge : Edge = record { open_row = opened; watermark = w } in
      ap (after_all (row_events (length front) rows ++ edge_events (length front) edge))
      (update-there (row_update s) (closed_to done from) (row-allowed done s from low start some (omega (arith, ints))))
      ∙ rows-there w opened (done ++ s ∷ []) rows s.end order.3 (omega (arith, ints)) end high
      ∙ ap (λ (list : List Snapshot). feed_with front back (record { rows = list; edge = edge })) (append_assoc done (s ∷ []) rows)

  -- one input
  input-there : (a : InputFeed) → IsInOrder a → after_all (input_events (length front) a) (feed_with front back unknown_input) ≡ feed_with front back a
  input-there a is = rows-there a.edge.watermark a.edge.open_row [] a.rows (neg_ℤ T) is.rows (omega (arith, ints)) is.low is.high

-- all inputs, after others
all-there : (front inputs : List InputFeed) → AllByRecursion IsInOrder inputs
    → after_all (all_events (length front) inputs) (record { inputs = front ++ replicate (length inputs) unknown_input; finished = false }) ≡ record { inputs = front ++ inputs; finished = false }
all-there front [] are = refl
all-there front (a ∷ inputs) are =
    let back = replicate (length inputs) unknown_input in
    let number : suc (length front) ≡ length (front ++ a ∷ []) = omega (arith, length-append front (a ∷ [])) in
    let as_feed = λ (list : List InputFeed). (let feed : Feed = record { inputs = list; finished = false } in feed) in
    after_all-append (input_events (length front) a) (all_events (suc (length front)) inputs) (feed_with front back unknown_input)
    ∙ ap (after_all (all_events (suc (length front)) inputs)) (input-there front back a are.0)
    ∙ (λ i. after_all (all_events (number i) inputs) (as_feed (sym (append_assoc front (a ∷ []) back) i)))
    ∙ all-there (front ++ a ∷ []) inputs are.1
    ∙ ap as_feed (append_assoc front (a ∷ []) inputs)

pub events-restore : (inputs : List InputFeed) → AllByRecursion IsInOrder inputs → after_all (all_events 0 inputs) (empty_feed (length inputs)) ≡ record { inputs = inputs; finished = false }
events-restore inputs are = all-there [] inputs are
