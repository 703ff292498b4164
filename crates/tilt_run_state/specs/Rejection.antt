-- What a text gives a run of a query over a feed in a form: the state that it goes on from, or why it gives none.
use Rattle.std.specs.Prelude.{◌≡◌, ◌≢◌, ◌⊎◌, ⊤, ℕ, List, ◌++◌}
use Rattle.tilt_feed_form.specs.declared.feed_form.FeedForm.{FeedForm}
use Rattle.tilt_feed_form.specs.declared.feed_form.FeedForm.TheVariants.{Rows, Readings}
use Rattle.tilt_live_state.specs.declared.fault.StateFault.{StateFault}
use Rattle.tilt_live_state.specs.declared.fault.StateFault.TheVariants as fault
use Rattle.tilt_run_state.specs.Spelling.{opening, readings_line, rows_line, spelled}
use Rattle.tilt_run_state.specs.State.{RunStateParts}
use Rattle.tilt_run_state.specs.Valid.{HasOptions, IsInRange, IsRunState, IsStateIn}
use Rattle.tilt_run_state.specs.declared.rejection.StateRejection.{StateRejection}
use Rattle.tilt_run_state.specs.declared.rejection.StateRejection.TheVariants.{NotAState, OtherQuery, OtherOptions, OutOfMemory}
use Rattle.tilt_syntax.specs.Tree.{StatementTree}

-- a text begins with these bytes
abbrev pub Begins : List ℕ → List ℕ → Type 0
Begins front text = (rest : List ℕ) × (text ≡ front ++ rest)

-- a text begins as a state of a run over rows, or of one over readings, which begins otherwise
abbrev pub BeginsBeside : List ℕ → List ℕ → Type 0
BeginsBeside front text = Begins rows_line text ⊎ (Begins readings_line text × ¬ (Begins front text))

-- a text begins as a state of a run over a feed in the other form, or over readings with another setup
abbrev pub BeginsOtherwise : FeedForm → List ℕ → Type 0
BeginsOtherwise (Rows options) text = Begins readings_line text
BeginsOtherwise (Readings setup) text = BeginsBeside (opening (Readings setup)) text

-- a text spells this state, which is valid for a run of this query over a feed in this form
pub record TakesState (query : List StatementTree) (form : FeedForm) (text : List ℕ) (s : RunStateParts) : Type 0 where
  pub valid : IsRunState form s
  pub query_is : s.state.query ≡ query
  pub is_spelled : text ≡ spelled form s

-- a text spells a valid state of a run over a feed in this form, perhaps of another query or other options of watermarks
pub record Spells (form : FeedForm) (text : List ℕ) (s : RunStateParts) : Type 0 where
  pub valid : IsStateIn form s
  pub is_spelled : text ≡ spelled form s

-- why no state was read of a text: it spells no valid one in range of a run over a feed in this form
abbrev pub SpellsNone : FeedForm → List ℕ → StateFault → Type 0
SpellsNone form text fault.NotAState = (s : RunStateParts) → IsStateIn form s → IsInRange s → ¬ (text ≡ spelled form s)
SpellsNone form text fault.OutOfMemory = ⊤

-- why a text is rejected. It spells no valid state in range, or one of another query. Or it begins otherwise, or spells a state of other
-- options of watermarks
abbrev pub RejectsState : List StatementTree → FeedForm → List ℕ → StateRejection → Type 0
RejectsState query form text NotAState =
    ¬ (BeginsOtherwise form text) × SpellsNone form text fault.NotAState
RejectsState query form text OtherQuery = (s : RunStateParts) × Spells form text s × (s.state.query ≢ query)
RejectsState query form text OtherOptions =
    BeginsOtherwise form text
    ⊎ ((s : RunStateParts) × Spells form text s × (s.state.query ≡ query) × ¬ (HasOptions form s))
RejectsState query form text OutOfMemory = ⊤
