-- A query whose feed is served into a folder.
use Rattle.std.specs.Prelude.{◌≡◌, ◌||◌, ◌&&◌, ℕ, true, false, List, [], length}
use Rattle.tilt_compiler.specs.Accepted.{AcceptedParts}
use Rattle.tilt_exactly_once.specs.declared.refusal.Refusal.{Refusal}
use Rattle.tilt_exactly_once.specs.declared.refusal.Refusal.TheVariants as refusal
use Rattle.tilt_feed_text.specs.Split.{ended, whole_lines}
use Rattle.tilt_live_folder.specs.Committed.{IsCommitOf}
use Rattle.tilt_live_run.specs.declared.run_options.RunOptions.{RunOptions}
use Rattle.tilt_live_run.specs.Left.{state_left}
use Rattle.tilt_live_run.specs.Output.{output}
use Rattle.tilt_live_run.specs.Runs.{is_stopped, is_unfinished}
use Rattle.tilt_outside.specs.Counts.{added_count}
use Rattle.tilt_run_state.specs.Rejection as state
use Rattle.tilt_run_state.specs.Spelling.{spelled}
use Rattle.tilt_run_state.specs.State.{RunStateParts}
use Rattle.tilt_run_state.specs.Valid.{IsInRange, IsRunState}
use Rattle.tilt_run_state.specs.declared.rejection.StateRejection.{StateRejection}
use Rattle.tilt_run_state.specs.declared.rejection.StateRejection.TheVariants as rejection
use Rattle.tilt_store.specs.Commit.{Commit}
use Rattle.tilt_syntax.specs.Tree.{StatementTree}

-- a query that was accepted, and what is asked of its run
pub record LiveFeed : Type 0 where
  pub query : List StatementTree
  pub accepted : AcceptedParts
  pub options : RunOptions

-- the output for the lines of these bytes
abbrev pub output_for : LiveFeed → List ℕ → List ℕ
output_for feed bytes = output feed.options feed.accepted.core (whole_lines bytes)

-- whether it is the commit of these bytes
abbrev pub Commits : LiveFeed → List ℕ → Commit → Type 0
Commits feed bytes commit = IsCommitOf feed.options feed.accepted.core feed.query bytes commit

-- whether they end badly: a line stops the run, or the last one has no end and bad lines stop the run
abbrev pub EndsBadly : LiveFeed → List ℕ → Type 0
EndsBadly feed bytes =
    (is_stopped feed.options feed.accepted.core [] bytes || (feed.options.strict && is_unfinished bytes)) ≡ true

-- the state after the lines of these bytes, when so many bytes of output were written
abbrev pub state_of : LiveFeed → List ℕ → ℕ → RunStateParts
state_of feed bytes written = state_left feed.options feed.accepted.core feed.query (ended bytes) written

-- whether the numbers of their state fit
abbrev pub Fits : LiveFeed → List ℕ → Type 0
Fits feed bytes = IsInRange (state_of feed bytes (added_count 0 (length (output_for feed bytes))))

-- a text spells the state after the lines of these bytes, and a run can go on from it
pub record IsLeft (feed : LiveFeed) (bytes : List ℕ) (written : ℕ) (text : List ℕ) : Type 0 where
  pub spelled : text ≡ spelled feed.options.form (state_of feed bytes written)
  pub no_stop : is_stopped feed.options feed.accepted.core [] bytes ≡ false
  pub valid : IsRunState feed.options.form (state_of feed bytes written)
  pub in_range : IsInRange (state_of feed bytes written)

-- why a text is rejected, as a state of the query and of the form of its feed is
abbrev pub rejection_of : Refusal → StateRejection
rejection_of refusal.NotAState = rejection.NotAState
rejection_of refusal.OtherQuery = rejection.OtherQuery
rejection_of refusal.OtherOptions = rejection.OtherOptions
rejection_of refusal.OutOfMemory = rejection.OutOfMemory

abbrev pub RejectsState : LiveFeed → List ℕ → Refusal → Type 0
RejectsState feed text why = state.RejectsState feed.query feed.options.form text (rejection_of why)

-- the same of a text with the bytes of a line behind its last LF
abbrev pub Rejects : LiveFeed → List ℕ → Refusal → Type 0
Rejects feed text why = RejectsState feed (ended text) why
