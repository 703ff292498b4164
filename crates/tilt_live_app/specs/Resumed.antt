-- Where a run starts, and what it leaves for the next one (our own rule).
use Rattle.std.specs.Prelude.{◌≡◌, ◌-◌, ⊤, ℕ, List, length, Option, None, Some}
use Rattle.tilt_core.specs.Core.{CoreParts}
use Rattle.tilt_feed_form.specs.declared.feed_form.FeedForm.{FeedForm}
use Rattle.tilt_feed_text.specs.Split.{ended}
use Rattle.tilt_live_app.specs.StateFile.{TakesState}
use Rattle.tilt_live_run.specs.Left.{state_left}
use Rattle.tilt_live_run.specs.Output.{first_news}
use Rattle.tilt_live_run.specs.declared.run_options.RunOptions.{RunOptions}
use Rattle.tilt_live_state.specs.Valid.{IsStateOf}
use Rattle.tilt_outside.specs.Counts.{added_count}
use Rattle.tilt_port.specs.Transcript.{Transcript}
use Rattle.tilt_run_state.specs.Spelling.{spelled}
use Rattle.tilt_run_state.specs.State.{RunStateParts}
use Rattle.tilt_run_state.specs.Valid.{FitsForm, HasOptions, IsRunState}
use Rattle.tilt_serving.specs.Served.{Start, first_byte, start_at}
use Rattle.tilt_syntax.specs.Tree.{StatementTree}

-- the state that a command goes on from is the one in its file; a command without such a file goes on from none
abbrev pub GoesOnFrom : Type 0 → (List ℕ → List ℕ) → List StatementTree → FeedForm → Option (List ℕ) → Option RunStateParts → Type 0
GoesOnFrom tells files query form None None = ⊤
GoesOnFrom tells files query form None (Some s) = ⊥
GoesOnFrom tells files query form (Some file) None = ⊥
GoesOnFrom tells files query form (Some file) (Some s) = tells → TakesState query form (files file) s

-- a run of a query with this core over a feed of this form can go on from the state
abbrev pub IsFitFor : CoreParts → FeedForm → Option RunStateParts → Type 0
IsFitFor core form None = ⊤
IsFitFor core form (Some s) = IsStateOf core s.state × FitsForm form s × HasOptions form s

-- how many bytes of output were written before it
abbrev pub written_before : Option RunStateParts → ℕ
written_before None = 0
written_before (Some s) = s.state.progress.written

-- the first byte of its feed: no earlier run took any
abbrev pub first_start : CoreParts → RunOptions → Start
first_start core options = first_byte (first_news options.display core)

module _ (options : RunOptions) (core : CoreParts) where
  -- A run starts there. Without a state that is the first byte of its feed. With a state it is a place that the state may be of. An
  -- earlier run took bytes, and the state is what it has left after their last LF
  abbrev pub StartsAt : Option RunStateParts → Start → Type 0
  StartsAt None start = start ≡ first_start core options
  StartsAt (Some s) start = (query : List StatementTree) × (bytes : List ℕ) × (written : ℕ)
      × (s ≡ state_left options core query (ended bytes) written) × (start ≡ start_at (ended bytes))

  -- The port before and after, the query and the state that the run went on from.
  module _ (tells : Type 0) (old new : Transcript) (query : List StatementTree) (from : Option RunStateParts) where
    -- the text is that of the state after these bytes of the feed: after their last LF. The state counts the bytes of output
    pub record IsTextAfter (text bytes : List ℕ) : Type 0 where
      pub written : ℕ
      pub counted : tells
          → written ≡ added_count (written_before from) (added_count 0 (length new.written) - added_count 0 (length old.written))
      pub is_text : text ≡ spelled options.form (state_left options core query (ended bytes) written)
      pub valid : IsRunState options.form (state_left options core query (ended bytes) written)
