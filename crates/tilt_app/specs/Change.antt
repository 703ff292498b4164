-- What a call leaves of a shelf, and of a sink.
use Rattle.std.specs.Prelude.{◌≡◌, ℕ, List}
use Rattle.tilt_outside.specs.Reads.{OnlyReads}
use Rattle.tilt_outside.specs.declared.shelf.Shelf as shelf
use Rattle.tilt_outside.specs.declared.sink.Sink as sink

-- a shelf before a call and after it: whether it reports what it holds, what each name held and holds, and its counts of reads and saves
-- that failed. Also how many bytes its reads had given and have given now, and how many bytes each name took and takes
pub record ShelfChange : Type 1 where
  pub tells : Type 0
  pub held : List ℕ → List ℕ
  pub holds : List ℕ → List ℕ
  pub reads_before : ℕ
  pub reads_after : ℕ
  pub saves_before : ℕ
  pub saves_after : ℕ
  pub given_before : ℕ
  pub given_after : ℕ
  pub took : List ℕ → ℕ → Type 0
  pub takes : List ℕ → ℕ → Type 0
  -- only reads have changed it
  pub only_read : Type 0

-- a sink before a call and after it: whether it reports what was written, and what was written before and by now; its count of faults.
-- Also how many bytes it took and takes, and how many it holds back now
pub record SinkChange : Type 1 where
  pub tells : Type 0
  pub old : List ℕ
  pub new : List ℕ
  pub before : ℕ
  pub after : ℕ
  pub took : ℕ → Type 0
  pub takes : ℕ → Type 0
  pub held_back : ℕ
  -- nothing has changed it
  pub kept : Type 0

-- the change of a shelf of this meaning from one state to another
abbrev pub shelf_change : {S : Type 0} → shelf.Ghosts S → S → S → ShelfChange
shelf_change means old new =
    record {
      tells = means.tells;
      held = means.files old;
      holds = means.files new;
      reads_before = means.read_faults old;
      reads_after = means.read_faults new;
      saves_before = means.save_faults old;
      saves_after = means.save_faults new;
      given_before = means.given old;
      given_after = means.given new;
      took = means.takes old;
      takes = means.takes new;
      only_read = OnlyReads means.files means.read_faults means.save_faults means.takes old new;
    }

-- the change of a sink of this meaning from one state to another
abbrev pub sink_change : {K : Type 0} → sink.Ghosts K → K → K → SinkChange
sink_change means old new =
    record {
      tells = means.tells;
      old = means.written old;
      new = means.written new;
      before = means.faults old;
      after = means.faults new;
      took = means.takes old;
      takes = means.takes new;
      held_back = means.held_back new;
      kept = new ≡ old;
    }
