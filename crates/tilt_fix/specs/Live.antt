-- Rows, and what a query gives on them.
use Rattle.std.specs.Prelude.{◌≡◌, List, length, Some, refl}
use Rattle.std.specs.Coded.{Coded, code_by, coded×, coded_list}
use Rattle.tilt_compiler.specs.Accepted.{AcceptedParts, IsAccepted, coded_accepted}
use Rattle.tilt_core.specs.Meaning.{output_of}
use Rattle.tilt_stream.specs.Snap.{Snapshot}
use Rattle.tilt_stream.specs.Stored.{coded_snapshots}

pub record LiveParts : Type 0 where
  pub query : AcceptedParts
  pub rows : List (List Snapshot)
  pub output : List Snapshot

-- there is one list of rows for each input, and the output is what the query gives on them
pub record IsLive (live : LiveParts) : Type 0 where
  pub accepted : IsAccepted live.query
  pub many : length live.rows ≡ length live.query.core.inputs
  pub gives : output_of live.query.core live.rows ≡ Some live.output

-- they are distinguished part by part
abbrev pub coded_live : Coded LiveParts
coded_live =
    code_by (AcceptedParts × (List (List Snapshot) × List Snapshot))
    (coded× coded_accepted (coded× (coded_list coded_snapshots) coded_snapshots))
    (λ l. (l.query, (l.rows, l.output)))
    (λ p. record { query = p.0; rows = p.1.0; output = p.1.1 })
    (λ _. refl)
