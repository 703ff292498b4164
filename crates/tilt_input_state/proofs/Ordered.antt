-- When rows and what follows them are in order.
use Rattle.std.proofs.Common.{◌≡◌, ℤ, neg_ℤ, ◌≤ℤ◌, ◌<ℤ◌, List, [], ◌∷◌, ◌++◌, Some, None, arith}
use Rattle.std.proofs.lemmas.Int.{ints}
use Rattle.tilt_base.specs.declared.limits.TheConstants.{T}
use Rattle.tilt_feed.specs.Laws.{IsInOrder}
use Rattle.tilt_feed.specs.declared.edge.Edge.{Edge}
use Rattle.tilt_feed.specs.declared.open_row.OpenRow.{OpenRow}
use Rattle.tilt_stream.specs.Snap.{Snapshot, InOrder, last_end}

-- rows in order whose last one ends at a tick or below it are in order up to that tick
pub ends-order : (from limit tick end : ℤ) (rows : List Snapshot) → InOrder from limit rows → last_end rows ≡ Some end → end ≤ℤ tick → InOrder from tick rows
ends-order from limit tick end [] h is low = tt
ends-order from limit tick end (s ∷ []) h is low = let e : s.end ≡ end = cc is in (h.0, h.1, omega (arith, ints), tt)
ends-order from limit tick end (s ∷ r ∷ rows) h is low =
    let rest = ends-order s.end limit tick end (r ∷ rows) h.3 is low in
    let up = rest.0 in
    let some = rest.1 in
    let high = rest.2 in
    (h.0, h.1, omega (arith, ints), rest)

-- rows without a last one are none
some-end : (s : Snapshot) (rows : List Snapshot) → last_end (s ∷ rows) ≡ None → ⊥
some-end s [] is = absurd (cc is)
some-end s (r ∷ rows) is = some-end r rows is

pub none-order : (from limit : ℤ) (rows : List Snapshot) → last_end rows ≡ None → InOrder from limit rows
none-order from limit [] is = tt
none-order from limit (s ∷ rows) is = absurd (some-end s rows is)

-- and the last one of rows in order ends there
pub order-ends : (from tick end : ℤ) (rows : List Snapshot) → InOrder from tick rows → last_end rows ≡ Some end → end ≤ℤ tick
order-ends from tick end [] h is = absurd (cc is)
order-ends from tick end (s ∷ []) h is = let e : s.end ≡ end = cc is in let high = h.2 in omega (arith, ints)
order-ends from tick end (s ∷ r ∷ rows) h is = order-ends s.end tick end (r ∷ rows) h.3 is

-- rows, and one more that starts where they end or above
pub order-more : (from limit : ℤ) (rows : List Snapshot) (s : Snapshot) → InOrder from s.start rows → from ≤ℤ s.start → s.start <ℤ s.end → s.end ≤ℤ limit
    → InOrder from limit (rows ++ s ∷ [])
order-more from limit [] s h low some high = (low, some, high, tt)
order-more from limit (r ∷ rows) s h low some high = let end = h.2 in (h.0, h.1, omega (arith, ints), order-more r.end limit rows s h.3 end some high)

-- what rows in order say of the last one
pub record IsLastInOrder (from limit : ℤ) (rows : List Snapshot) (s : Snapshot) : Type 0 where
  pub order : InOrder from s.start rows
  pub low : from ≤ℤ s.start
  pub some : s.start <ℤ s.end
  pub high : s.end ≤ℤ limit

pub more-order : (from limit : ℤ) (rows : List Snapshot) (s : Snapshot) → InOrder from limit (rows ++ s ∷ []) → IsLastInOrder from limit rows s
more-order from limit [] s h = record { order = tt; low = h.0; some = h.1; high = h.2 }
more-order from limit (r ∷ rows) s h =
    let rest = more-order r.end limit rows s h.3 in
    let low = rest.low in
    let start = h.0 in
    let width = h.1 in
    record { order = (h.0, h.1, rest.low, rest.order); low = omega (arith, ints); some = rest.some; high = rest.high }

-- the open row, ended at the watermark
abbrev pub ended_row : Edge → OpenRow → Snapshot
ended_row edge row = record { start = row.start; end = edge.watermark; value = Some row.value }

-- an input with an open row is in order
module _ (rows : List Snapshot) (edge : Edge) (row : OpenRow) (is : edge.open_row ≡ Some row) where
  pub opened-order : neg_ℤ T ≤ℤ edge.watermark → edge.watermark ≤ℤ T → neg_ℤ T ≤ℤ row.start → row.start <ℤ edge.watermark → InOrder (neg_ℤ T) row.start rows
      → IsInOrder (record { rows = rows; edge = edge })
  opened-order low high from some order = record {
    rows = rw is (order-more (neg_ℤ T) edge.watermark rows (ended_row edge row) order from some (omega (arith, ints)));
    low = low;
    high = high;
  }

  pub order-opened : IsInOrder (record { rows = rows; edge = edge }) → IsLastInOrder (neg_ℤ T) edge.watermark rows (ended_row edge row)
  order-opened h = more-order (neg_ℤ T) edge.watermark rows (ended_row edge row) (rw is at h.rows)
