-- What the program does if its feed has keys (our own rule).
use Rattle.std.specs.Prelude.{◌≡◌, ℕ, not, List, codes, Result, Ok, Err, true}
use Rattle.tilt_compiler.specs.Accepted.{AcceptedParts}
use Rattle.tilt_live_app.specs.BeginReport.{BeginReport, line_of_begin, status_of_begin}
use Rattle.tilt_live_app.specs.Begun.{IsBegun, IsUnbegun}
use Rattle.tilt_live_app.specs.Change.{ShelfChange}
use Rattle.tilt_live_app.specs.Counting.{note_of}
use Rattle.tilt_live_app.specs.Done.{line_of_halt, status_of_halt}
use Rattle.tilt_live_cli.specs.Arguments.{CommandValue}
use Rattle.tilt_live_keys.specs.Runs.{keyed_meaning}
use Rattle.tilt_live_keys.specs.declared.key_recipe.KeyRecipe.{KeyRecipe}
use Rattle.tilt_live_run.specs.declared.display.Display.{Display}
use Rattle.tilt_port.specs.Transcript.{Transcript}
use Rattle.tilt_serving.specs.Reported.{Reported}
use Rattle.tilt_serving.specs.Served.{HasServed, first_byte}
use Rattle.tilt_serving.specs.Stops.{is_whole}
use Rattle.tilt_serving.specs.declared.halt.Halt.{Halt}

-- what the runs of the keys are made from, if a command asks for them
abbrev pub recipe_for : AcceptedParts → Display → CommandValue → ℕ → KeyRecipe
recipe_for accepted display command most = record {
  accepted = accepted;
  fuse = not command.plain;
  display = display;
  options = command.asked.watermarks;
  strict = command.asked.strict;
  max_keys = most;
}

-- The shelf and the port before and after, and what a sink of reports says. A command, and how many keys there may be.
module _ {K : Type 0} (shelf : ShelfChange) (tells : Type 0) (old new : Transcript) (err_tells : Type 0) (err_written : K → List ℕ) (err_faults : K → ℕ)
    (command : CommandValue) (most : ℕ) where
  -- the feed was served to this end, each key by a run of the query that was taken
  pub record IsServedByKeys (end : Result (Unit {0}) Halt) (err err_then : K) : Type 0 where
    pub begun : IsBegun shelf command
    pub accepted : AcceptedParts
    pub same : accepted.core ≡ begun.core
    -- what is reported before the feed
    pub noted : K
    pub note : Reported err_tells err_written err_faults err noted (note_of begun.counting)
    pub served : HasServed (keyed_meaning (recipe_for accepted begun.options.display command most)) (first_byte (codes "key,start,end,value\n")) tells old new
        err_tells err_written err_faults noted err_then end
    -- if it ended by itself or by a line, all of the output was handed on
    pub handed_on : is_whole end ≡ true → new.held_back ≡ 0

  -- It reports why it doesn't start the feed, and nothing is read or written. Or it serves the feed to its end, or it reports what halted it
  pub data HasDoneByKeys (err err_then : K) : ℕ → Type 0 where
    unbegun : {report : BeginReport} → IsUnbegun shelf command report → new ≡ old
        → Reported err_tells err_written err_faults err err_then (line_of_begin report) → HasDoneByKeys err err_then (status_of_begin report)
    whole : IsServedByKeys (Ok tt) err err_then → HasDoneByKeys err err_then 0
    halted : (why : Halt) (between : K) → IsServedByKeys (Err why) err between
        → Reported err_tells err_written err_faults between err_then (line_of_halt why) → HasDoneByKeys err err_then (status_of_halt why)
