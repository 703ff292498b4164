-- Which states of live runs are valid (our own rule).
use Rattle.std.specs.Prelude.{◌≡◌, ◌<◌, ◌^◌, ℕ, ℤ, ◌≤ℤ◌, Bool, ◌&&◌, int_le, List, length, Option, FitsSigned}
use Rattle.std.specs.Int.{w64}
use Rattle.std.specs.List.{AllByRecursion}
use Rattle.std.specs.Option.{ForSome}
use Rattle.tilt_checkpoint.specs.Valid.{IsAccepted, IsCell}
use Rattle.tilt_core.specs.Core.{CoreParts}
use Rattle.tilt_feed.specs.Horizon.{output_domain}
use Rattle.tilt_feed.specs.Laws.{IsInOrder}
use Rattle.tilt_feed.specs.declared.edge.Edge.{Edge}
use Rattle.tilt_feed.specs.declared.open_row.OpenRow.{OpenRow}
use Rattle.tilt_feed.specs.declared.update.Update.{Update}
use Rattle.tilt_feed.specs.declared.update.Update.TheVariants.{Row, Value, NoValue, KnownUpTo}
use Rattle.tilt_live_state.specs.State.{InputParts, LiveStateParts, feed_of, waiting_of}
use Rattle.tilt_live_state.specs.declared.progress.Progress.{Progress}
use Rattle.tilt_stream.specs.Snap.{Snapshot}
use Rattle.tilt_types.specs.Checked.{core_of}
use Rattle.tilt_watermarks.specs.Laws.{IsFit}

-- what is kept of an input is in order, and what is held of it is allowed after its watermark; without lateness nothing is held
pub record IsInput (lateness : Option ℕ) (input : InputParts) : Type 0 where
  pub in_order : IsInOrder (feed_of input)
  pub fit : IsFit lateness (waiting_of input)

-- the output goes on within its domain, and something valid is kept of each input of a core
pub record IsStateOf (core : CoreParts) (s : LiveStateParts) : Type 0 where
  pub low : (output_domain core).start ≤ℤ s.progress.from
  pub high : s.progress.from ≤ℤ (output_domain core).end
  pub counted : length s.inputs ≡ length core.inputs
  pub inputs : AllByRecursion (IsInput s.progress.options.lateness) s.inputs

-- a state is valid: its query is accepted, and the rest is that of a run of it
pub record IsState (s : LiveStateParts) : Type 0 where
  pub query : IsAccepted s.query
  pub run : IsStateOf (core_of s.query) s

-- a count is below 2 ^ 63
abbrev pub IsCount : ℕ → Type 0
IsCount n = n < 2 ^ 63

-- the numbers of what is known of a run's progress fit 64 bits, and its counts and ticks are below 2 ^ 63
pub record IsProgress (p : Progress) : Type 0 where
  pub lateness : ForSome p.options.lateness IsCount
  pub idle : ForSome p.options.idle IsCount
  pub ahead : ForSome p.options.ahead IsCount
  pub bytes : IsCount p.bytes
  pub lines : IsCount p.lines
  pub written : IsCount p.written
  pub from : FitsSigned w64 p.from
  pub shown : IsCell p.shown
  pub greatest : IsCell p.greatest
  pub latest : IsCell p.latest

-- the numbers of an open row are those of 64 bits
pub record IsOpenRow (row : OpenRow) : Type 0 where
  pub start : FitsSigned w64 row.start
  pub value : FitsSigned w64 row.value

-- those of an edge are
pub record IsEdge (edge : Edge) : Type 0 where
  pub watermark : FitsSigned w64 edge.watermark
  pub open_row : ForSome edge.open_row IsOpenRow

-- those of an update are
abbrev pub IsUpdate : Update → Type 0
IsUpdate (Row start end value) = FitsSigned w64 start × FitsSigned w64 end × IsCell value
IsUpdate (Value start value) = FitsSigned w64 start × FitsSigned w64 value
IsUpdate (NoValue start) = FitsSigned w64 start
IsUpdate (KnownUpTo watermark) = FitsSigned w64 watermark

-- those of what is kept of an input are
pub record HasNumbers (input : InputParts) : Type 0 where
  pub rows : AllByRecursion (λ row. IsCell row.value) input.rows
  pub edge : IsEdge input.edge
  pub held : AllByRecursion IsUpdate input.held

-- the numbers of a state are those of 64 bits, and its counts are below 2 ^ 63
pub record IsInRange (s : LiveStateParts) : Type 0 where
  pub progress : IsProgress s.progress
  pub inputs : AllByRecursion HasNumbers s.inputs
