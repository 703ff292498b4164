-- What is known of an input, as loops read it.
use Rattle.std.proofs.Common.{◌≡◌, ℕ, ℤ, pos, neg_ℤ, ◌+ℤ◌, ◌≤ℤ◌, ◌<ℤ◌, ◌<◌, ◌^◌, Bool, true, false, List, [], ◌∷◌, ◌++◌, length, Option, Some, None}
use Rattle.std.proofs.Common.{slice_get, if◌then◌else◌, length-append, subst, sym, arith}
use Rattle.std.specs.Option.{ForSome}
use Rattle.std.specs.Ordering.{int_eq}
use Rattle.std.proofs.lemmas.Int.{ints}
use Rattle.std.proofs.lemmas.Option.{same_Some, slice_get_past}
use Rattle.tilt_base.specs.declared.limits.TheConstants.{T, WIDE}
use Rattle.tilt_engine.proofs.Closed.{last-of}
use Rattle.tilt_engine.specs.Stock.{InletParts, IsInlet, inlet_list, resting_inlet}
use Rattle.tilt_feed.proofs.Ordered.{order-ended, order-raised, update-order}
use Rattle.tilt_feed.proofs.Updates.{allowed-of}
use Rattle.tilt_feed.specs.Events.{update_fault, updated}
use Rattle.tilt_feed.specs.Feed.{InputFeed, closed_at}
use Rattle.tilt_feed.specs.Laws.{IsInOrder}
use Rattle.tilt_feed.specs.declared.open_row.OpenRow.{OpenRow}
use Rattle.tilt_feed.specs.declared.update.Update.{Update}
use Rattle.tilt_stream.proofs.Order.{InOrder-front}
use Rattle.tilt_stream.specs.Snap.{Snapshot, InOrder}

-- rows in order stay so from a lower bound on
order-lowered : (lower from limit : ℤ) (rows : List Snapshot) → lower ≤ℤ from → InOrder from limit rows → InOrder lower limit rows
order-lowered lower from limit [] on h = tt
order-lowered lower from limit (s ∷ rows) on h = (omega (arith, ints, h.0), h.1, h.2, h.3)

-- each row in order takes a tick at least
rows-few_by : (from limit : ℤ) (rows : List Snapshot) → from ≤ℤ limit → InOrder from limit rows → (from +ℤ pos (length rows)) ≤ℤ limit
rows-few_by from limit [] on h = omega (arith, ints)
rows-few_by from limit (s ∷ rows) on h = let rest = rows-few_by s.end limit rows h.2 h.3 in omega (arith, ints, h.0, h.1)

pub rows-few : (i : InletParts) → IsInlet i → length i.input.rows < 2 ^ 63
rows-few i is =
    let order = is.order in
    let low = order.low in
    let high = order.high in
    let front = InOrder-front (neg_ℤ T) i.input.edge.watermark i.input.rows (closed_at i.input.edge.watermark i.input.edge.open_row) order.rows in
    let few = rows-few_by (neg_ℤ T) i.input.edge.watermark i.input.rows low front in
    omega (arith, ints)

-- what loops read of it is in order
pub inlet-order : (i : InletParts) → IsInlet i → InOrder (neg_ℤ WIDE) WIDE (inlet_list i)
inlet-order i is =
    let w = i.input.edge.watermark in
    let ended = order-ended (neg_ℤ T) w i.end i.input.rows i.input.edge.open_row is.low is.order.rows in
    order-lowered (neg_ℤ WIDE) (neg_ℤ T) WIDE (inlet_list i) (omega (arith, ints)) (order-raised (neg_ℤ T) i.end WIDE (inlet_list i) is.high ended)

-- its open row starts below where it is taken to end
open-below_by : (rows : List Snapshot) (open_row : Option OpenRow) (w end : ℤ) → InOrder (neg_ℤ T) w (rows ++ closed_at w open_row) → w ≤ℤ end
    → ForSome open_row (λ row. row.start <ℤ end)
open-below_by rows None w end h on = λ row is. absurd (cc)
open-below_by rows (Some r) w end h on =
    let last = last-of (neg_ℤ T) w rows (record { start = r.start; end = w; value = Some r.value }) h in
    let below : r.start <ℤ end = omega (arith, ints, last.some) in
    λ row is. subst (λ (x : OpenRow). x.start <ℤ end) (same_Some r row is) below

pub open-below : (i : InletParts) → IsInlet i → ForSome i.input.edge.open_row (λ row. row.start <ℤ i.end)
open-below i is = open-below_by i.input.rows i.input.edge.open_row i.input.edge.watermark i.end is.order.rows is.low

-- nothing comes after the open row
past-open : (rows : List Snapshot) (open_row : Option OpenRow) (end : ℤ) (place : ℕ) → length rows < place → None ≡ slice_get (rows ++ closed_at end open_row) place
past-open rows None end place past = sym (slice_get_past (rows ++ []) place (omega (arith, length-append rows [])))
past-open rows (Some r) end place past =
    let s : Snapshot = record { start = r.start; end = end; value = Some r.value } in
    sym (slice_get_past (rows ++ s ∷ []) place (omega (arith, length-append rows (s ∷ []))))

pub inlet-past : (i : InletParts) (place : ℕ) → length i.input.rows < place → None ≡ slice_get (inlet_list i) place
inlet-past i place past = past-open i.input.rows i.input.edge.open_row i.end place past

-- where it is taken to end is a time
pub end-low : (i : InletParts) → IsInlet i → neg_ℤ WIDE ≤ℤ i.end
end-low i is =
    let low = is.order.low in
    let on = is.low in
    omega (arith, ints)

-- where the open row of an input that rests is taken to end
end-bounds : (w : ℤ) (whole : Bool) → w ≤ℤ T → (w ≤ℤ (if whole then T else WIDE)) × ((if whole then T else WIDE) ≤ℤ WIDE)
end-bounds w true high = (high, omega (arith, ints))
end-bounds w false high = (omega (arith, ints), omega (arith, ints))

-- an input in order, while more may come
pub resting : (input : InputFeed) → IsInOrder input → IsInlet (resting_inlet input)
resting input is =
    let end = end-bounds input.edge.watermark (int_eq input.edge.watermark T) is.high in
    record { order = is; low = end.0; high = end.1 }

-- it stays one under an update that is allowed
pub update-inlet : (update : Update) (input : InputFeed) → IsInOrder input → update_fault false input.edge update ≡ None → IsInlet (resting_inlet (updated update input))
update-inlet update input is allowed = resting (updated update input) (update-order input is update (allowed-of false input.edge update allowed).1)
