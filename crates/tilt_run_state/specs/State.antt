-- The state of a live run over a feed in either form, as plain data (our own rule).
use Rattle.std.specs.Prelude.{Option}
use Rattle.tilt_live_state.specs.State.{LiveStateParts}
use Rattle.tilt_reading_text.specs.Kept.{BareText}

-- the state of the run, and what is kept of the text of its feed, if that has readings
pub record RunStateParts : Type 0 where
  pub state : LiveStateParts
  pub kept : Option BareText
