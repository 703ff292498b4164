-- What is known of an input, in memory.
use Rattle.std.specs.Prelude.{List, refl}
use Rattle.std.specs.Coded.{Coded, code_by, coded×}
use Rattle.tilt_feed.specs.Feed.{InputFeed}
use Rattle.tilt_feed.specs.contracts.edge.Edge as edge
use Rattle.tilt_feed.specs.declared.edge.Edge.{Edge}
use Rattle.tilt_stream.specs.Snap.{Snapshot}
use Rattle.tilt_stream.specs.Stored.{coded_snapshots}

-- inputs are distinguished part by part
abbrev pub coded_input : Coded InputFeed
coded_input =
    code_by (List Snapshot × Edge) (coded× coded_snapshots edge.the_row.coded)
    (λ i. (i.rows, i.edge)) (λ p. record { rows = p.0; edge = p.1 }) (λ _. refl)
