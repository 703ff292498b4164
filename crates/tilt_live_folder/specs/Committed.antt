-- Which commits of a folder are those of bytes of a query's feed (our own rule).
use Rattle.std.specs.Prelude.{◌≡◌, ℕ, false, List, [], ◌++◌, length}
use Rattle.tilt_core.specs.Core.{CoreParts}
use Rattle.tilt_feed_text.specs.Split.{ended, unfinished, whole_lines}
use Rattle.tilt_live_run.specs.Left.{state_left}
use Rattle.tilt_live_run.specs.Output.{output}
use Rattle.tilt_live_run.specs.Runs.{is_stopped}
use Rattle.tilt_live_run.specs.declared.run_options.RunOptions.{RunOptions}
use Rattle.tilt_run_state.specs.Spelling.{spelled}
use Rattle.tilt_run_state.specs.Valid.{IsInRange, IsRunState}
use Rattle.tilt_store.specs.Commit.{Commit}
use Rattle.tilt_syntax.specs.Tree.{StatementTree}

-- it is the commit of these bytes: the output of their lines, with the state after these lines. Behind the state are the bytes of the line
-- that has begun
pub record IsCommitOf (options : RunOptions) (core : CoreParts) (query : List StatementTree) (bytes : List ℕ) (commit : Commit) : Type 0 where
  pub output : commit.output ≡ output options core (whole_lines bytes)
  pub state : commit.state ≡ spelled options.form (state_left options core query (ended bytes) (length commit.output)) ++ unfinished bytes
  -- no line of them stops the run, and the state can be read back
  pub no_stop : is_stopped options core [] bytes ≡ false
  pub valid : IsRunState options.form (state_left options core query (ended bytes) (length commit.output))
  pub in_range : IsInRange (state_left options core query (ended bytes) (length commit.output))
