-- What the file of a state gives a run of a query: the state that it goes on from, or the reason why it gives none.
use Rattle.std.specs.Prelude.{◌≡◌, ◌<◌, ◌≤◌, List, ℕ, length}
use Rattle.tilt_base.specs.declared.limits.TheConstants.{FILE}
use Rattle.tilt_feed_form.specs.declared.feed_form.FeedForm.{FeedForm}
use Rattle.tilt_report.specs.Report.{Reason, bad_state, file_too_long, other_options, other_query}
use Rattle.tilt_run_state.specs.Rejection.{RejectsState}
use Rattle.tilt_run_state.specs.Rejection as state
use Rattle.tilt_run_state.specs.Spelling.{spelled}
use Rattle.tilt_run_state.specs.State.{RunStateParts}
use Rattle.tilt_run_state.specs.Valid.{IsInRange, IsRunState}
use Rattle.tilt_run_state.specs.declared.rejection.StateRejection.TheVariants.{NotAState, OtherOptions, OtherQuery}
use Rattle.tilt_syntax.specs.Tree.{StatementTree}

-- the text is no longer than a file may be, and it spells this valid state of this query over a feed of this form: the only one in range
pub record TakesState (query : List StatementTree) (form : FeedForm) (bytes : List ℕ) (s : RunStateParts) : Type 0 where
  pub short : length bytes ≤ FILE
  pub takes : state.TakesState query form bytes s
  pub only : (other : RunStateParts) → IsRunState form other → IsInRange other → bytes ≡ spelled form other → other.state.query ≡ query → s ≡ other

-- why the file of a name is rejected: it is too long, or it spells no valid state in range. Or its state is one of another query or of other
-- options
pub data RefusesState (query : List StatementTree) (form : FeedForm) (name bytes : List ℕ) : Reason → Type 0 where
  long : FILE < length bytes → RefusesState query form name bytes (file_too_long name)
  of_none : length bytes ≤ FILE → RejectsState query form bytes NotAState → RefusesState query form name bytes bad_state
  of_other_query : length bytes ≤ FILE → RejectsState query form bytes OtherQuery → RefusesState query form name bytes other_query
  of_other_options : length bytes ≤ FILE → RejectsState query form bytes OtherOptions → RefusesState query form name bytes other_options
