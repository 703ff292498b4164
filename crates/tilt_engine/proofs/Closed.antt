-- What an update that is allowed may close, and how rows in order go on.
use Rattle.std.proofs.Common.{◌≡◌, ℤ, neg_ℤ, ◌≤ℤ◌, ◌<ℤ◌, Bool, true, false, List, [], ◌∷◌, ◌++◌, Option, Some, None, if◌then◌else◌, refl, subst, arith}
use Rattle.std.specs.Option.{ForSome}
use Rattle.std.proofs.lemmas.Bool.{and_parts}
use Rattle.std.proofs.lemmas.Int.{ints}
use Rattle.std.proofs.lemmas.Option.{same_Some}
use Rattle.tilt_base.specs.declared.limits.TheConstants.{T}
use Rattle.tilt_engine.specs.Stock.{MayClose, MayCloseOne}
use Rattle.tilt_feed.proofs.Updates.{allowed-of, time-high}
use Rattle.tilt_feed.specs.Events.{closed_by, continues, is_time, update_fault}
use Rattle.tilt_feed.specs.Feed.{closed_at}
use Rattle.tilt_feed.specs.Laws.{IsInOrder}
use Rattle.tilt_feed.specs.declared.edge.Edge.{Edge}
use Rattle.tilt_feed.specs.declared.open_row.OpenRow.{OpenRow}
use Rattle.tilt_feed.specs.declared.update.Update.TheVariants.{Row, Value, NoValue}
use Rattle.tilt_stream.proofs.Order.{InOrder-front}
use Rattle.tilt_stream.specs.Snap.{Snapshot, InOrder, last_end}

-- the last one of rows in order: it starts after the others and below its end
pub record IsLast (from : ℤ) (rows : List Snapshot) (s : Snapshot) : Type 0 where
  pub after : ForSome (last_end rows) (λ end. end ≤ℤ s.start)
  pub low : from ≤ℤ s.start
  pub some : s.start <ℤ s.end

pub last-of : (from limit : ℤ) (rows : List Snapshot) (s : Snapshot) → InOrder from limit (rows ++ s ∷ []) → IsLast from rows s
last-of from limit [] s h = record { after = λ end is. absurd (cc); low = h.0; some = h.1 }
last-of from limit (x ∷ []) s h = record { after = λ end is. let e : x.end ≡ end = cc in omega (arith, ints, h.3.0); low = omega (arith, ints, h.0, h.1, h.3.0); some = h.3.1 }
last-of from limit (x ∷ y ∷ ys) s h =
    let rest = last-of x.end limit (y ∷ ys) s h.3 in
    record { after = rest.after; low = omega (arith, ints, h.0, h.1, rest.low); some = rest.some }

-- rows in order end at the limit at the latest
pub last_end-high : (from limit : ℤ) (rows : List Snapshot) (end : ℤ) → InOrder from limit rows → last_end rows ≡ Some end → end ≤ℤ limit
last_end-high from limit [] end h is = absurd (cc)
last_end-high from limit (x ∷ []) end h is = let e : x.end ≡ end = cc in omega (arith, ints, h.2)
last_end-high from limit (x ∷ y ∷ ys) end h is = last_end-high x.end limit (y ∷ ys) end h.3 is

-- an open row may end at the watermark or after it
may-close_by : (rows : List Snapshot) (open_row : Option OpenRow) (w end : ℤ) → InOrder (neg_ℤ T) w (rows ++ closed_at w open_row) → w ≤ℤ end → end ≤ℤ T
    → MayClose rows open_row end
may-close_by rows None w end h on high = λ row is. absurd (cc)
may-close_by rows (Some r) w end h on high =
    let last = last-of (neg_ℤ T) w rows (record { start = r.start; end = w; value = Some r.value }) h in
    let one : MayCloseOne rows end r = record { after = last.after; low = last.low; some = omega (arith, ints, last.some); high = high } in
    λ row is. subst (MayCloseOne rows end) (same_Some r row is) one

pub may-close : (rows : List Snapshot) (edge : Edge) (end : ℤ) → IsInOrder (record { rows = rows; edge = edge }) → edge.watermark ≤ℤ end → end ≤ℤ T
    → MayClose rows edge.open_row end
may-close rows edge end is on high = may-close_by rows edge.open_row edge.watermark end is.rows on high

-- what starts at the watermark or after it starts after the closed rows
pub alone : (rows : List Snapshot) (edge : Edge) (start : ℤ) → IsInOrder (record { rows = rows; edge = edge }) → edge.watermark ≤ℤ start
    → ForSome (last_end rows) (λ last. last ≤ℤ start)
alone rows edge start is on = λ end last.
    let front = InOrder-front (neg_ℤ T) edge.watermark rows (closed_at edge.watermark edge.open_row) is.rows in
    let high = last_end-high (neg_ℤ T) edge.watermark rows end front last in
    omega (arith, ints)

-- a row that continues the open row ends at the watermark or after it
pub joined-on : (edge : Edge) (start end : ℤ) (value : Option ℤ) → update_fault false edge (Row start end value) ≡ None → continues edge.open_row start value ≡ true
    → (edge.watermark ≤ℤ end) × (end ≤ℤ T)
joined-on edge start end value is joins =
    let allowed = (allowed-of false edge (Row start end value) is).1 in
    (subst (λ (b : Bool). edge.watermark ≤ℤ (if b then end else start)) joins allowed.on, time-high end (and_parts (is_time start) (is_time end) allowed.range).1)

-- another row starts there or after it
pub record IsApart (edge : Edge) (start : ℤ) : Type 0 where
  pub on : edge.watermark ≤ℤ start
  pub high : start ≤ℤ T

pub apart-on : (edge : Edge) (start end : ℤ) (value : Option ℤ) → update_fault false edge (Row start end value) ≡ None → continues edge.open_row start value ≡ false
    → IsApart edge start
apart-on edge start end value is apart =
    let allowed = (allowed-of false edge (Row start end value) is).1 in
    record {
      on = subst (λ (b : Bool). edge.watermark ≤ℤ (if b then end else start)) apart allowed.on;
      high = time-high start (and_parts (is_time start) (is_time end) allowed.range).0;
    }

-- and so do a value, and the end of values
pub value-on : (edge : Edge) (start value : ℤ) → update_fault false edge (Value start value) ≡ None → (edge.watermark ≤ℤ start) × (start ≤ℤ T)
value-on edge start value is = let allowed = (allowed-of false edge (Value start value) is).1 in (allowed.on, time-high start allowed.range)

pub no_value-on : (edge : Edge) (start : ℤ) → update_fault false edge (NoValue start) ≡ None → (edge.watermark ≤ℤ start) × (start ≤ℤ T)
no_value-on edge start is = let allowed = (allowed-of false edge (NoValue start) is).1 in (allowed.on, time-high start allowed.range)

-- what a row closes that doesn't continue the open row
pub closed-apart : (edge : Edge) (start end : ℤ) (value : Option ℤ) → continues edge.open_row start value ≡ false
    → closed_by edge (Row start end value) ≡ closed_at start edge.open_row ++ record { start = start; end = end; value = value } ∷ []
closed-apart edge start end value apart = rw apart refl
