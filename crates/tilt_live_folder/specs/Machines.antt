-- The run of a query, as a machine whose output goes into a folder.
use Rattle.std.specs.Prelude.{◌≡◌, ℕ, false, List, [], length}
use Rattle.tilt_checkpoint.specs.Valid.{IsAccepted}
use Rattle.tilt_feed_text.specs.Split.{unfinished}
use Rattle.tilt_live_folder.specs.Feeds.{LiveFeed}
use Rattle.tilt_live_folder.specs.declared.machine.LiveMachine.{LiveMachine}
use Rattle.tilt_live_run.specs.Left.{KeepsState}
use Rattle.tilt_live_run.specs.Runs.{IsPlaced, IsRunOf, IsSound, is_stopped}
use Rattle.tilt_outside.specs.Counts.{added_count}
use Rattle.tilt_run_state.specs.Spelling.{opening}
use Rattle.tilt_types.specs.Checked.{core_of}

-- the machine runs this query after these bytes of its feed, of which no line stops it
pub record IsRunning (machine : LiveMachine) (feed : LiveFeed) (bytes : List ℕ) : Type 0 where
  pub is : IsRunOf machine.run feed.accepted feed.options bytes
  pub placed : IsPlaced machine.run bytes
  pub no_stop : is_stopped feed.options feed.accepted.core [] bytes ≡ false
  pub tail : machine.tail.items ≡ unfinished bytes
  pub taken : machine.taken ≡ added_count 0 (length bytes)
  pub opening : machine.opening.items ≡ opening feed.options.form
  pub query : machine.query ≡ feed.query
  pub accepted : IsAccepted feed.query
  pub core : core_of feed.query ≡ feed.accepted.core

-- it can go on, and keeps what its state needs
pub record CanRun (machine : LiveMachine) : Type 0 where
  pub sound : IsSound machine.run
  pub keeps : KeepsState machine.run
