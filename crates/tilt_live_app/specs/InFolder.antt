-- What the program does with a folder (our own rule).
use Rattle.std.specs.Prelude.{◌≡◌, ℕ, List, [], ◌++◌, codes, length, Option, None, Some, Result, Ok, Err, IfErr, IsErrOf, OnOk, OnErr}
use Rattle.std.specs.Fmt.{decimal}
use Rattle.tilt_exactly_once.specs.Committed.{Holds}
use Rattle.tilt_exactly_once.specs.Feeding.{HasServedFeed, IsFailureCause, IsFailureFault}
use Rattle.tilt_exactly_once.specs.Framed.{IsFramed, KeepsLast, frames, rejects_framed}
use Rattle.tilt_exactly_once.specs.Opening.{IsCause, IsFault, IsPassing}
use Rattle.tilt_exactly_once.specs.declared.failure.Failure.{Failure}
use Rattle.tilt_exactly_once.specs.declared.failure.Failure.TheVariants.{Halted, Unstarted}
use Rattle.tilt_exactly_once.specs.declared.halt.Halt.TheVariants.{ReadFault}
use Rattle.tilt_exactly_once.specs.declared.plan.Plan.{Plan}
use Rattle.tilt_exactly_once.specs.declared.refusal.StartError.{StartError}
use Rattle.tilt_live_cli.specs.Arguments.{CommandValue, FolderValue}
use Rattle.tilt_live_app.specs.BeginReport.{BeginReport, line_of_begin, status_of_begin}
use Rattle.tilt_live_app.specs.Begun.{IsBegun, IsUnbegun}
use Rattle.tilt_live_app.specs.Change.{ShelfChange}
use Rattle.tilt_live_app.specs.Counting.{note_of}
use Rattle.tilt_live_app.specs.FolderReport.{end_of, end_of_entering, line_of_end, status_of_end}
use Rattle.tilt_live_cli.specs.declared.arguments.Task.TheVariants.{Position, Serve}
use Rattle.tilt_live_folder.specs.Feeds.{Commits, EndsBadly, Fits, LiveFeed, Rejects, output_for}
use Rattle.tilt_live_folder.specs.Machines.{IsRunning}
use Rattle.tilt_serving.specs.Reported.{Reported}
use Rattle.tilt_outside.specs.Counts.{added_count}
use Rattle.tilt_outside.specs.Faults.{Rose}
use Rattle.tilt_outside.specs.Written.{AppendsFront}
use Rattle.tilt_outside.specs.declared.failed.Failed.{Failed as PortFailed}
use Rattle.tilt_port.specs.Transcript.{Transcript}
use Rattle.tilt_report.specs.Report.{line_of, out_of_memory, write_fault}
use Rattle.tilt_store.specs.Crash.{LeavesOnly}
use Rattle.tilt_store.specs.Kept.{Kept}
use Rattle.tilt_store.specs.Open.{OpensSame}
use Rattle.tilt_store.specs.declared.enter_error.EnterError.{EnterError}
use Rattle.tilt_store.specs.declared.enter_error.EnterError.TheVariants.{Failed}

-- the meanings of a kind of folder: whether it says what is in it, what is seen of it, and what a crash can leave now and since a moment
pub record FolderMeaning (F : Type 0) : Type 1 where
  pub tells : Type 0
  pub seen : F → Kept
  pub may_leave : F → Kept → Type 0
  pub moment : F → ℕ
  pub left_since : F → ℕ → Kept → Type 0
  pub faults : F → ℕ

abbrev pub folder_meaning : {F : Type 0} → Type 0 → (F → Kept) → (F → Kept → Type 0) → (F → ℕ) → (F → ℕ → Kept → Type 0) → (F → ℕ)
    → FolderMeaning F
folder_meaning tells seen may_leave moment left_since faults = record {
  tells = tells;
  seen = seen;
  may_leave = may_leave;
  moment = moment;
  left_since = left_since;
  faults = faults;
}

-- where folders are, before and after a call: which folder has a name, and the counts of calls that failed
pub record FoldersChange (F : Type 0) : Type 1 where
  pub gives : List ℕ → F → Type 0
  pub faults_before : ℕ
  pub faults_after : ℕ

abbrev pub folders_change : {D F : Type 0} → (D → List ℕ → F → Type 0) → (D → ℕ) → D → D → FoldersChange F
folders_change gives faults old new = record { gives = gives old; faults_before = faults old; faults_after = faults new }

-- how a feed ended in a folder of that name: the line that reports it, and the status
abbrev pub line_of_served : List ℕ → Result (Unit {0}) Failure → List ℕ
line_of_served name (Ok _) = []
line_of_served name (Err failure) = line_of_end name (end_of name failure)

abbrev pub status_of_served : List ℕ → Result (Unit {0}) Failure → ℕ
status_of_served name (Ok _) = 0
status_of_served name (Err failure) = status_of_end (end_of name failure)

-- the text of a position
abbrev pub position_text : ℕ → List ℕ
position_text count = decimal count ++ codes "\n"

-- a text was written and handed on, or a write or the flush failed
pub record IsPrinted (tells : Type 0) (old new : Transcript) (text : List ℕ) (result : Result (Unit {0}) PortFailed) : Type 0 where
  pub whole : tells → OnOk result (new.written ≡ old.written ++ text)
  pub handed_on : OnOk result (new.held_back ≡ 0)
  pub front : tells → OnErr result (AppendsFront old.written new.written text)
  pub rose : OnErr result (Rose old.write_faults new.write_faults)

-- a number of bytes was printed, or that it can't be was reported
pub data HasPrinted {K : Type 0} (tells : Type 0) (old new : Transcript) (err_tells : Type 0) (err_written : K → List ℕ) (err_faults : K → ℕ)
    (count : ℕ) (err err_then : K) : ℕ → Type 0 where
  printed : (tells → new.written ≡ old.written ++ position_text count) → new.held_back ≡ 0 → err_then ≡ err
      → HasPrinted tells old new err_tells err_written err_faults count err err_then 0
  unwritten : (tells → AppendsFront old.written new.written (position_text count)) → Rose old.write_faults new.write_faults
      → Reported err_tells err_written err_faults err err_then (line_of write_fault)
      → HasPrinted tells old new err_tells err_written err_faults count err err_then 4
  no_memory : new ≡ old → Reported err_tells err_written err_faults err err_then (line_of out_of_memory)
      → HasPrinted tells old new err_tells err_written err_faults count err err_then 5

-- The port before and after, what a sink of reports says, the meanings of folders, and the query whose feed it is.
module _ {K : Type 0} (tells : Type 0) (old new : Transcript) (err_tells : Type 0) (err_written : K → List ℕ) (err_faults : K → ℕ) {F : Type 0}
    (means : FolderMeaning F) (feed : LiveFeed) where
  -- The feed was served into the folder that was given, which is this one now. If it held the commit of bytes of the feed, then this is
  -- so of what was read, and of what each crash leaves. If nothing was read, that has its cause, and each crash leaves what was there
  pub record IsServedInto (plan : Plan) (given folder : F) (end : Result (Unit {0}) Failure) : Type 0 where
    pub served : means.tells → (bytes : List ℕ) → Holds (IsFramed (Commits feed)) bytes (means.seen given)
        → HasServedFeed means.seen means.may_leave (KeepsLast IsRunning) output_for feed (frames Commits) EndsBadly Fits means.moment means.left_since tells
        plan.from bytes given old folder new end
    pub cause : means.tells → IfErr end (IsFailureCause (rejects_framed (Rejects feed)) (means.seen given))
    pub kept : means.tells → IfErr end (λ failure. (error : StartError) → failure ≡ Unstarted error
        → LeavesOnly means.moment means.left_since given folder (OpensSame [] (means.seen given)))
    pub failed : IfErr end (λ failure. IsFailureFault failure → Rose (means.faults given) (means.faults folder))
    pub read_fault : IsErrOf end (Halted ReadFault) → Rose old.read_faults new.read_faults

  -- the same, and the end was reported after the bad lines
  pub record HasServedIn (plan : Plan) (name : List ℕ) (given : F) (err_then : K) (status : ℕ) (found : Option F) : Type 0 where
    pub folder : F
    pub end : Result (Unit {0}) Failure
    pub between : K
    pub served : IsServedInto plan given folder end
    pub reported : Reported err_tells err_written err_faults between err_then (line_of_served name end)
    pub found_is : found ≡ Some folder
    pub status_is : status ≡ status_of_served name end

  -- so many bytes are committed, if the folder holds the commit of bytes of the feed; and each crash leaves it
  pub record IsCounted (count : ℕ) (given folder : F) : Type 0 where
    pub count_is : means.tells → (bytes : List ℕ) → Holds (IsFramed (Commits feed)) bytes (means.seen given) → count ≡ added_count 0 (length bytes)
    pub any_moment : means.tells → (bytes : List ℕ) → Holds (IsFramed (Commits feed)) bytes (means.seen given)
        → LeavesOnly means.moment means.left_since given folder (Holds (IsFramed (Commits feed)) bytes)

  -- why that isn't known
  pub record IsUncounted (error : StartError) (given folder : F) : Type 0 where
    pub kept : means.tells → LeavesOnly means.moment means.left_since given folder (OpensSame [] (means.seen given))
    pub passing : means.tells → (bytes : List ℕ) → Holds (IsFramed (Commits feed)) bytes (means.seen given) → IsPassing error
    pub cause : means.tells → IsCause (rejects_framed (Rejects feed)) (means.seen given) error
    pub failed : IsFault error → Rose (means.faults given) (means.faults folder)

  -- the position was counted, and printed; or it can't be counted
  pub data HasCounted (name : List ℕ) (given : F) (err err_then : K) : ℕ → Option F → Type 0 where
    counted : {folder : F} {status : ℕ} (count : ℕ) → IsCounted count given folder
        → HasPrinted tells old new err_tells err_written err_faults count err err_then status → HasCounted name given err err_then status (Some folder)
    uncounted : {folder : F} (error : StartError) → IsUncounted error given folder → new ≡ old
        → Reported err_tells err_written err_faults err err_then (line_of_served name (Err (Unstarted error)))
        → HasCounted name given err err_then (status_of_served name (Err (Unstarted error))) (Some folder)

-- a feed is the one of the query that was taken, with the options of the run that the command asks for
pub record IsFeedOf (shelf : ShelfChange) (command : CommandValue) (begun : IsBegun shelf command) (feed : LiveFeed) : Type 0 where
  pub query : feed.query ≡ begun.query
  pub core : feed.accepted.core ≡ begun.core
  pub options : feed.options ≡ begun.options

-- The shelf and the port before and after, what a sink of reports says, and the command.
module _ {K : Type 0} (shelf : ShelfChange) (tells : Type 0) (old new : Transcript) (err_tells : Type 0) (err_written : K → List ℕ) (err_faults : K → ℕ)
    (command : CommandValue) {F : Type 0} (means : FolderMeaning F) (folders : FoldersChange F) where
  -- What the program does with the folder that the command chooses, a case for each end. It reports why it doesn't start. Or another
  -- program has the folder, or it can't be made. Or the position is counted, or the feed is served
  pub data HasDoneIn (choice : FolderValue) (err err_then : K) : ℕ → Option F → Type 0 where
    unbegun : {report : BeginReport} → IsUnbegun shelf command report → new ≡ old
        → Reported err_tells err_written err_faults err err_then (line_of_begin report) → HasDoneIn choice err err_then (status_of_begin report) None
    unentered : (error : EnterError) → IsBegun shelf command → new ≡ old → (error ≡ Failed → Rose folders.faults_before folders.faults_after)
        → Reported err_tells err_written err_faults err err_then (line_of_end choice.name (end_of_entering choice.name error))
        → HasDoneIn choice err err_then (status_of_end (end_of_entering choice.name error)) None
    in_position : {status : ℕ} {found : Option F} (begun : IsBegun shelf command) (feed : LiveFeed) (given : F) → IsFeedOf shelf command begun feed
        → folders.gives choice.name given → choice.task ≡ Position
        → HasCounted tells old new err_tells err_written err_faults means feed choice.name given err err_then status found
        → HasDoneIn choice err err_then status found
    in_feed : {status : ℕ} {found : Option F} (begun : IsBegun shelf command) (feed : LiveFeed) (given : F) (plan : Plan) (noted : K)
        → IsFeedOf shelf command begun feed → folders.gives choice.name given → choice.task ≡ Serve plan
        → Reported err_tells err_written err_faults err noted (note_of begun.counting)
        → HasServedIn tells old new err_tells err_written err_faults means feed plan choice.name given err_then status found
        → HasDoneIn choice err err_then status found
