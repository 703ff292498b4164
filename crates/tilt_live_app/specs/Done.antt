-- What the program does if no folder is chosen (our own rule).
use Rattle.std.specs.Prelude.{◌≡◌, ⊤, ℕ, List, [], codes, None, Some, Result, Ok, Err, true}
use Rattle.tilt_live_cli.specs.Arguments.{CommandValue, IsLiveCommand}
use Rattle.tilt_live_app.specs.BeginReport.{BeginReport, begin_report, line_of_begin, status_of_begin}
use Rattle.tilt_live_app.specs.Begun.{IsBegun, IsUnbegun}
use Rattle.tilt_live_app.specs.Change.{IsSaved, IsUnsaved, ShelfChange}
use Rattle.tilt_live_app.specs.Counting.{meaning_with, note_of}
use Rattle.tilt_live_app.specs.Resumed.{IsTextAfter, StartsAt}
use Rattle.tilt_live_app.specs.declared.failure.Failure.{Failure}
use Rattle.tilt_live_app.specs.declared.failure.Failure.TheVariants.{Halted, Unbegun, Unmade, Unsaved}
use Rattle.tilt_serving.specs.Reported.{Reported}
use Rattle.tilt_serving.specs.Served.{HasEnded, Start}
use Rattle.tilt_serving.specs.Stops.{is_whole}
use Rattle.tilt_serving.specs.declared.halt.Halt.{Halt}
use Rattle.tilt_serving.specs.declared.halt.Halt.TheVariants as halt
use Rattle.tilt_port.specs.Transcript.{Transcript}
use Rattle.tilt_report.specs.Report.{line_of, out_of_memory, read_fault, save_fault, write_fault}

-- the status if something halted the feed
abbrev pub status_of_halt : Halt → ℕ
status_of_halt halt.BadLine = 1
status_of_halt halt.TooManyKeys = 1
status_of_halt halt.ReadFault = 3
status_of_halt halt.WriteFault = 4
status_of_halt halt.OutOfMemory = 5

-- the line that reports it, after the reports of bad lines
abbrev pub line_of_halt : Halt → List ℕ
line_of_halt halt.BadLine = []
line_of_halt halt.TooManyKeys = codes "tilt: 88 too many keys\n"
line_of_halt halt.ReadFault = line_of (read_fault (codes "-"))
line_of_halt halt.WriteFault = line_of write_fault
line_of_halt halt.OutOfMemory = line_of out_of_memory

-- the arguments are a command that saves a state
abbrev pub IsSaving : List (List ℕ) → Type 0
IsSaving words = (command : CommandValue) × IsLiveCommand words command × ((name : List ℕ) × (command.save ≡ Some name))

-- The shelf and the port before and after, and what a sink of reports says.
module _ {K : Type 0} (shelf : ShelfChange) (tells : Type 0) (old new : Transcript) (err_tells : Type 0) (err_written : K → List ℕ) (err_faults : K → ℕ) where
  -- of a command
  module _ (command : CommandValue) where
    -- The feed was served to this end, from wherever the run may start. If it ended by itself, this is so of its query, its core and its
    -- state, and of all bytes of the feed
    pub record IsServed (Is : IsBegun shelf command → List ℕ → Type 0) (end : Result (Unit {0}) Halt) (err err_then : K) : Type 0 where
      pub begun : IsBegun shelf command
      -- what is reported before the feed
      pub noted : K
      pub note : Reported err_tells err_written err_faults err noted (note_of begun.counting)
      pub served : (start : Start) → StartsAt begun.options begun.core begun.from start
          → HasEnded (meaning_with begun.core begun.options begun.counting) start tells old new err_tells err_written err_faults noted err_then (Is begun) end
      -- if it ended by itself or by a line, all of the output was handed on
      pub handed_on : is_whole end ≡ true → new.held_back ≡ 0

    -- the text is that of the state after all bytes of the feed
    abbrev pub IsTextOf : List ℕ → IsBegun shelf command → List ℕ → Type 0
    IsTextOf text begun bytes = IsTextAfter begun.options begun.core tells old new begun.query begun.from text bytes

    -- the feed ended by itself, and its state, of which this is the text, was to be saved under a name
    pub record IsToSave (text name : List ℕ) (err err_then : K) : Type 0 where
      pub save : command.save ≡ Some name
      pub served : IsServed (IsTextOf text) (Ok tt) err err_then

    -- the feed ended by itself, and its state was saved if it was to be
    pub data IsDone (err err_then : K) : Type 0 where
      not_kept : command.save ≡ None → IsServed (λ _ _. ⊤) (Ok tt) err err_then → IsDone err err_then
      with_state : (text name : List ℕ) → IsToSave text name err err_then → IsSaved shelf name text → IsDone err err_then

    -- what the program does if this is its command, a case for each end. It reports why it doesn't start the feed, and nothing is read or
    -- written. Or it serves the feed, and all is done, or it reports what halted the feed. If the feed ended by itself and its state is to
    -- be saved, the save can fail, or there can be no memory for the state
    pub data HasDone (err err_then : K) : ℕ → Type 0 where
      unbegun : {report : BeginReport} → IsUnbegun shelf command report → new ≡ old
          → Reported err_tells err_written err_faults err err_then (line_of_begin report) → HasDone err err_then (status_of_begin report)
      whole : IsDone err err_then → HasDone err err_then 0
      halted : (why : Halt) (between : K) → IsServed (λ _ _. ⊤) (Err why) err between
          → Reported err_tells err_written err_faults between err_then (line_of_halt why) → HasDone err err_then (status_of_halt why)
      unsaved : (text name : List ℕ) (between : K) → IsToSave text name err between → IsUnsaved shelf name text
          → Reported err_tells err_written err_faults between err_then (line_of (save_fault name)) → HasDone err err_then 6
      unmade : (name : List ℕ) (between : K) → command.save ≡ Some name → IsServed (λ _ _. ⊤) (Ok tt) err between
          → Reported err_tells err_written err_faults between err_then (line_of out_of_memory) → HasDone err err_then 5

    -- the same before the end is reported
    abbrev pub HasRun : K → K → Result (Unit {0}) Failure → Type 0
    HasRun err err_then (Ok _) = IsDone err err_then
    HasRun err err_then (Err (Halted why)) = IsServed (λ _ _. ⊤) (Err why) err err_then
    HasRun err err_then (Err (Unbegun why)) = IsUnbegun shelf command (begin_report why) × (new ≡ old) × (err_then ≡ err)
    HasRun err err_then (Err (Unsaved name)) =
        (text : List ℕ) × IsToSave text name.now err err_then × IsUnsaved shelf name.now text
    HasRun err err_then (Err Unmade) =
        (name : List ℕ) × (command.save ≡ Some name) × IsServed (λ _ _. ⊤) (Ok tt) err err_then
