-- Commands on the query in a file.
use Rattle.std.specs.Prelude.{◌≡◌, List, [], ℕ, Some}
use Rattle.tilt_core.specs.Core.{CoreParts}
use Rattle.tilt_core.specs.Meaning.{output_of}
use Rattle.tilt_load.specs.FileCommand.{FileCommand}
use Rattle.tilt_load.specs.QueryFile.{TakesQuery, RefusesQuery}
use Rattle.tilt_load.specs.SeriesFiles.{no_bounds}
use Rattle.tilt_report.specs.Report.{Outcome}
use Rattle.tilt_stream.specs.Snap.{Snapshot}

-- a command on the query in the file of a name and on the rows of its inputs, which has such an outcome of them
abbrev pub query_row : List ℕ → (CoreParts → List (List Snapshot) → Outcome → Type 0) → FileCommand
query_row query gives = record {
  Says = CoreParts;
  takes = TakesQuery;
  refuses = RefusesQuery query;
  inputs = λ core. core.inputs;
  within = λ core place. no_bounds;
  gives = gives;
}

-- a command on the query in the file of a name alone
abbrev pub lone_row : List ℕ → (CoreParts → Outcome → Type 0) → FileCommand
lone_row query gives = record {
  Says = CoreParts;
  takes = TakesQuery;
  refuses = RefusesQuery query;
  inputs = λ core. [];
  within = λ core place. no_bounds;
  gives = λ core rows. gives core;
}

-- the outcome is what is made of the snapshots of the query's meaning on its output domain
abbrev pub IsMadeOfQuery : (List Snapshot → Outcome) → CoreParts → List (List Snapshot) → Outcome → Type 0
IsMadeOfQuery makes core rows outcome = (list : List Snapshot) × (output_of core rows ≡ Some list) × (outcome ≡ makes list)
