-- What the watchers are shown, and their state after it.
use Rattle.std.specs.Prelude.{◌≡◌, ◌++◌, List, Option, None, Some, Result, MatchResult}
use Rattle.tilt_code.specs.Run.{run_of}
use Rattle.tilt_outside.specs.Written.{AppendsFront}
use Rattle.tilt_printed.specs.Figures.{watched_text}
use Rattle.tilt_printed.specs.Left.{Left}
use Rattle.tilt_printed.specs.Stopped.{StandsInLines, StandsWhereStopped}
use Rattle.tilt_printed.specs.declared.printed.Printed.{Printed}
use Rattle.tilt_printed.specs.declared.printed.Printed.TheVariants.{Whole, Run, Rings, Watched}
use Rattle.tilt_printed.specs.declared.unput.Unput.{Unput}
use Rattle.tilt_stream.specs.Snap.{Snapshot}
use Rattle.tilt_watch.specs.Places.{left_after}
use Rattle.tilt_watch.specs.Watch.{rows_of}

-- the snapshots that the watchers are shown of what is printed, if any
abbrev pub shown_of : Printed → Option (List Snapshot)
shown_of (Whole text) = None
shown_of (Run pipe) = None
shown_of (Rings pipe) = None
shown_of (Watched pipe) = Some (run_of pipe.code pipe.inputs)

-- they saw all rows of these snapshots, and the text and the figures were written
pub record HaveSeen (left : Left) (list : List Snapshot) : Type 0 where
  pub saw : left.now ≡ left_after left.before (rows_of list)
  pub written : left.tells → left.new ≡ left.old ++ watched_text left.before list

-- for this reason not all was written: they saw the first rows of these snapshots, and a prefix of the text and the figures was written. It
-- ends at a place where it may end once these rows were seen
pub record HaveSeenInPart (why : Unput) (left : Left) (list : List Snapshot) : Type 0 where
  pub seen : List Snapshot
  pub others : List Snapshot
  pub rows : rows_of list ≡ seen ++ others
  pub saw : left.now ≡ left_after left.before seen
  pub front : left.tells → AppendsFront left.old left.new (watched_text left.before list)
  pub stopped : left.tells → StandsWhereStopped why seen others left.old left.new

-- the same of the lines alone
pub record HaveSeenLines (why : Unput) (left : Left) (list : List Snapshot) : Type 0 where
  pub seen : List Snapshot
  pub others : List Snapshot
  pub rows : rows_of list ≡ seen ++ others
  pub saw : left.now ≡ left_after left.before seen
  pub stopped : left.tells → StandsInLines seen others left.old left.new why

-- all was written: they saw what they were shown
abbrev pub SeeAll : Left → Option (List Snapshot) → Type 0
SeeAll left None = left.kept
SeeAll left (Some list) = HaveSeen left list

-- for this reason not all was written
abbrev pub SeePart : Unput → Left → Option (List Snapshot) → Type 0
SeePart why left None = left.kept
SeePart why left (Some list) = HaveSeenInPart why left list

-- all was written, or not
abbrev pub SeeWhatIsPut : {T : Type 0} → Left → Option (List Snapshot) → Result T Unput → Type 0
SeeWhatIsPut left shown result = MatchResult result (λ _. SeeAll left shown) (λ why. SeePart why left shown)
