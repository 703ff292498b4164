-- What serving a feed leaves of the port and of the reports (our own rule).
use Rattle.std.specs.Prelude.{◌≡◌, ◌≤◌, ℕ, true, false, if◌then◌else◌, List, [], ◌++◌, Option, None, is_some, Result, OnOk, IfErr}
use Rattle.std.specs.List.{AllByRecursion}
use Rattle.std.specs.Option.{option_or}
use Rattle.tilt_outside.specs.Faults.{Rose}
use Rattle.tilt_outside.specs.Written.{AppendsFront}
use Rattle.tilt_port.specs.Transcript.{Moment, Transcript}
use Rattle.tilt_serving.specs.Meaning.{FeedMeaning}
use Rattle.tilt_serving.specs.Reported.{Reported, ReportedFront}
use Rattle.tilt_serving.specs.Stops.{is_cut, is_whole, line_stop_of}
use Rattle.tilt_serving.specs.declared.halt.Halt.{Halt}
use Rattle.tilt_serving.specs.declared.halt.Halt.TheVariants.{ReadFault, WriteFault}
use Rattle.tilt_serving.specs.declared.stop.Stop.{Stop}

-- where a feed starts to be served: what is written before anything is read, and the bytes of the feed that an earlier run took
pub record Start : Type 0 where
  pub head : List ℕ
  pub before : List ℕ

-- its first byte: no earlier run took any
abbrev pub first_byte : List ℕ → Start
first_byte head = record { head = head; before = [] }

-- the byte after these, which an earlier run took: nothing is written before more is read
abbrev pub start_at : List ℕ → Start
start_at bytes = record { head = []; before = bytes }

-- the place after bytes that were served from there
abbrev pub start_after : Start → List ℕ → Start
start_after start bytes = start_at (start.before ++ bytes)

module _ (means : FeedMeaning) (start : Start) where
  -- what is written for bytes of a feed that come then
  abbrev pub output_for : List ℕ → List ℕ
  output_for bytes = start.head ++ means.added start.before bytes

  -- why one of the lines that end in them stops the run, if one does
  abbrev pub stop_for : List ℕ → Option Stop
  stop_for bytes = means.stop start.before bytes

  -- the reports of these lines
  abbrev pub line_reports : List ℕ → List ℕ
  line_reports bytes = means.reported start.before bytes

  -- all reports, if the feed ends with them: what is reported of its end too, unless a line stops the run before
  abbrev pub all_reports : List ℕ → List ℕ
  all_reports bytes = line_reports bytes ++ (if is_some (stop_for bytes) then [] else means.end_report (start.before ++ bytes))

  -- why the run stops if the feed ends with them, if it does: at one of the lines or at the end
  abbrev pub end_for : List ℕ → Option Stop
  end_for bytes = option_or (stop_for bytes) (means.end_stop (start.before ++ bytes))

  -- at a moment at which more was read, exactly the output for what had been read was written, and all of it was handed on
  pub record IsPunctual (old : Transcript) (moment : Moment) : Type 0 where
    pub bytes : List ℕ
    pub read : moment.read ≡ old.read ++ bytes
    pub written : moment.written ≡ old.written ++ output_for bytes
    pub handed_on : moment.held_back ≡ 0

  -- The port and the sink of reports, before the feed was served and now.
  module _ {K : Type 0} (tells : Type 0) (old new : Transcript) (err_tells : Type 0) (err_written : K → List ℕ) (err_faults : K → ℕ) (err err_then : K) where
    -- bytes of a feed were served, at these moments
    pub record IsServing (bytes : List ℕ) (moments : List Moment) : Type 0 where
      pub read : tells → new.read ≡ old.read ++ bytes
      pub written : tells → new.written ≡ old.written ++ output_for bytes
      pub asked : tells → new.asked ≡ old.asked ++ moments
      pub punctual : tells → AllByRecursion (IsPunctual old) moments
      pub reported : Reported err_tells err_written err_faults err err_then (line_reports bytes)
      pub no_stop : stop_for bytes ≡ None
      pub reads_kept : old.read_faults ≤ new.read_faults
      pub writes_kept : old.write_faults ≤ new.write_faults

    -- a feed was served, up to its end or until something halted it
    pub record HasServed (result : Result (Unit {0}) Halt) : Type 0 where
      -- the bytes that were read, and the moments at which they were
      pub bytes : List ℕ
      pub moments : List Moment
      pub read : tells → new.read ≡ old.read ++ bytes
      pub asked : tells → new.asked ≡ old.asked ++ moments
      pub punctual : tells → AllByRecursion (IsPunctual old) moments
      -- the output for these bytes was written; a prefix of it, if a write fault or refused memory halted it
      pub whole : tells → is_cut result ≡ false → new.written ≡ old.written ++ output_for bytes
      pub front : tells → is_cut result ≡ true → AppendsFront old.written new.written (output_for bytes)
      -- the reports as well: those of the lines, if a read fault halted it
      pub reported : is_whole result ≡ true → Reported err_tells err_written err_faults err err_then (all_reports bytes)
      pub reported_unread : IfErr result (λ why. why ≡ ReadFault → Reported err_tells err_written err_faults err err_then (line_reports bytes))
      pub reported_front : is_cut result ≡ true → ReportedFront err_tells err_written err_faults err err_then (all_reports bytes)
      -- each end has its cause
      pub ended : tells → OnOk result (new.ended ≡ true)
      pub stops : is_whole result ≡ true → line_stop_of result ≡ end_for bytes
      pub read_fault : IfErr result (λ why. why ≡ ReadFault → Rose old.read_faults new.read_faults)
      pub write_fault : IfErr result (λ why. why ≡ WriteFault → Rose old.write_faults new.write_faults)
      -- counts of faults don't fall
      pub reads_kept : old.read_faults ≤ new.read_faults
      pub writes_kept : old.write_faults ≤ new.write_faults

    -- the same; and if the feed ended by itself, this is so of all its bytes
    pub record HasEnded (Is : List ℕ → Type 0) (result : Result (Unit {0}) Halt) : Type 0 where
      pub served : HasServed result
      pub is : OnOk result (Is (start.before ++ served.bytes))
