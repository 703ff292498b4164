-- Which states are valid for a run over a feed (our own rule).
use Rattle.std.specs.Prelude.{◌≡◌, ⊤, List, [], length, Option, None, Some}
use Rattle.std.specs.List.{AllByRecursion}
use Rattle.std.specs.Option.{ForSome}
use Rattle.tilt_feed_form.specs.Setup.{SetupParts}
use Rattle.tilt_feed_form.specs.declared.feed_form.FeedForm.{FeedForm}
use Rattle.tilt_feed_form.specs.declared.feed_form.FeedForm.TheVariants.{Rows, Readings}
use Rattle.tilt_live_state.specs.State.{LiveStateParts}
use Rattle.tilt_live_state.specs.Valid as live
use Rattle.tilt_reading_state.specs.Valid as readings
use Rattle.tilt_reading_text.specs.Kept.{BareText}
use Rattle.tilt_run_state.specs.State.{RunStateParts}
use Rattle.tilt_watermarks.specs.Laws.{no_options}

-- a text of readings with this setup can go on from what is kept: it has as many inputs. Nothing is asked of watermarks, and none holds an
-- update
pub record IsKeptOf (setup : SetupParts) (kept : BareText) (s : LiveStateParts) : Type 0 where
  pub resumable : readings.IsResumable kept
  pub counted : length kept.readings.inputs ≡ length setup.options
  pub options : s.progress.options ≡ no_options
  pub none_held : AllByRecursion (λ input. input.held ≡ []) s.inputs

-- the same, if something is kept
abbrev pub KeepsReadings : SetupParts → Option BareText → LiveStateParts → Type 0
KeepsReadings setup None s = ⊥
KeepsReadings setup (Some kept) s = IsKeptOf setup kept s

-- what is kept is that of a feed in this form, whatever the options of its watermarks
abbrev pub FitsForm : FeedForm → RunStateParts → Type 0
FitsForm (Rows options) s = s.kept ≡ None
FitsForm (Readings setup) s = KeepsReadings setup s.kept s.state

-- the watermarks of a feed of rows have its options
abbrev pub HasOptions : FeedForm → RunStateParts → Type 0
HasOptions (Rows options) s = s.state.progress.options ≡ options
HasOptions (Readings setup) s = ⊤

-- a valid state of a run over a feed in this form, whatever the options of its watermarks
pub record IsStateIn (form : FeedForm) (s : RunStateParts) : Type 0 where
  pub state : live.IsState s.state
  pub kept : FitsForm form s

-- a valid state of a run over a feed in this form
pub record IsRunState (form : FeedForm) (s : RunStateParts) : Type 0 where
  pub state : live.IsState s.state
  pub kept : FitsForm form s
  pub options : HasOptions form s

-- the numbers of a state are those of 64 bits, and its counts and places are below 2 ^ 63
pub record IsInRange (s : RunStateParts) : Type 0 where
  pub state : live.IsInRange s.state
  pub kept : ForSome s.kept readings.IsInRange
