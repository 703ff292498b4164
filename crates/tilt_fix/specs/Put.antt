-- What replaces a part of the output (for the crate's own functions).
use Rattle.std.specs.Prelude.{◌≡◌, ℕ, ◌≤◌, List, length, Some}
use Rattle.std.specs.List.{splice}
use Rattle.tilt_compiler.specs.Accepted.{AcceptedParts}
use Rattle.tilt_core.specs.Meaning.{output_of}
use Rattle.tilt_stream.specs.Snap.{Snapshot, AreSnapshots}

-- snapshots that replace those of an output from one place to before another make it what a query gives on rows
pub record IsPut (query : AcceptedParts) (rows : List (List Snapshot)) (output : List Snapshot) (from to : ℕ)
    (list : List Snapshot) : Type 0 where
  pub order : from ≤ to
  pub upto : to ≤ length output
  pub no_gaps : AreSnapshots (splice output from to list)
  pub gives : output_of query.core rows ≡ Some (splice output from to list)
