-- What the laws of feeds say.
use Rattle.std.specs.Prelude.{◌≡◌, ℕ, ℤ, ◌≤ℤ◌, neg_ℤ, true, List, [], ◌∷◌, ◌++◌, length, Option, Some, None, ⊤}
use Rattle.tilt_base.specs.declared.limits.TheConstants.{T}
use Rattle.tilt_core.specs.Core.{CoreParts}
use Rattle.tilt_core.specs.Meaning.{output_of}
use Rattle.tilt_feed.specs.Events.{after_all}
use Rattle.tilt_feed.specs.Feed.{InputFeed, Feed, empty_feed, all_rows_now, rows_now}
use Rattle.tilt_feed.specs.Horizon.{Horizon, IsKnownAt, horizon_of, horizons}
use Rattle.tilt_feed.specs.Printed.{Begun, begun, meaning_now, printed}
use Rattle.tilt_feed.specs.Sure.{is_sure}
use Rattle.tilt_feed.specs.declared.event.Event.{Event}
use Rattle.tilt_stream.specs.Snap.{Snapshot, InOrder}
use Rattle.tilt_stream.specs.Stream.{Stream}

-- the feed of a query after events
abbrev pub fed : CoreParts → List Event → Feed
fed core events = after_all events (empty_feed (length core.inputs))

-- what is known of an input is in order. No row starts before the end of the one before it, the last one ends at the watermark at the
-- latest, and an open row starts below it
pub record IsInOrder (input : InputFeed) : Type 0 where
  pub rows : InOrder (neg_ℤ T) input.edge.watermark (rows_now input)
  pub low : neg_ℤ T ≤ℤ input.edge.watermark
  pub high : input.edge.watermark ≤ℤ T

-- the same cells and the same marks up to a horizon
pub record AgreeUpTo (h : Horizon) (x y : Stream) : Type 0 where
  pub cells : (tick : ℤ) → IsKnownAt h tick → x.cell tick ≡ y.cell tick
  pub marks : (tick : ℤ) → IsKnownAt h tick → x.mark tick ≡ y.mark tick

-- of a feed and a later one: each source stays as it is up to its horizon, and has each mark that was sure
pub record IsFinal (core : CoreParts) (feed later : Feed) : Type 0 where
  pub same : (source : ℕ)
      → AgreeUpTo (horizon_of (horizons core feed) source) (meaning_now core feed source) (meaning_now core later source)
  pub sure : (source : ℕ) (tick : ℤ) → is_sure core feed source tick ≡ true → (meaning_now core later source).mark tick ≡ true

-- up to the horizon of a source its sure marks are its marks
abbrev pub AreSureWhereKnown : CoreParts → Feed → Type 0
AreSureWhereKnown core feed = (source : ℕ) (tick : ℤ) → IsKnownAt (horizon_of (horizons core feed) source) tick
    → is_sure core feed source tick ≡ (meaning_now core feed source).mark tick

-- a list goes on from another one
pub record ListGoesOn (front list : List Snapshot) : Type 0 where
  pub rest : List Snapshot
  pub is : list ≡ front ++ rest

-- what has begun, if something has, is the first one of snapshots
abbrev pub ComesFirst : Option Begun → List Snapshot → Type 0
ComesFirst None list = ⊤
ComesFirst (Some b) [] = ⊥
ComesFirst (Some b) (s ∷ ss) = (s.start ≡ b.start) × (s.value ≡ b.value)

-- what a query gives on the rows of a later feed starts with what was printed, and what had begun comes next
pub record OutputGoesOn (core : CoreParts) (feed later : Feed) : Type 0 where
  pub output : List Snapshot
  pub given : output_of core (all_rows_now later) ≡ Some output
  pub rest : List Snapshot
  pub is : output ≡ printed core feed ++ rest
  pub next : ComesFirst (begun core feed) rest
