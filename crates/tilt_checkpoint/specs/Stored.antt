-- How checkpoints are distinguished, which a type that contracts see as plain data needs.
use Rattle.std.specs.Prelude.{ℤ, List, Option, refl}
use Rattle.std.specs.Coded.{Coded, code_by, coded×, coded_ℤ, coded_list, coded_option}
use Rattle.tilt_stream.specs.Snap.{Snapshot}
use Rattle.tilt_stream.specs.Stored.{coded_snapshots}
use Rattle.tilt_syntax.specs.Stored.{coded_query}
use Rattle.tilt_syntax.specs.Tree.{StatementTree}
use Rattle.tilt_checkpoint.specs.Checkpoint.{KeptParts, BodyParts, CheckpointParts}

abbrev pub coded_kept : Coded KeptParts
coded_kept =
    code_by (ℤ × (Option ℤ × List Snapshot)) (coded× coded_ℤ (coded× (coded_option coded_ℤ) coded_snapshots))
    (λ k. (k.cut, (k.last_end, k.rows)))
    (λ p. record { cut = p.0; last_end = p.1.0; rows = p.1.1 })
    (λ _. refl)

abbrev pub coded_body : Coded BodyParts
coded_body =
    code_by (ℤ × (Option ℤ × List KeptParts)) (coded× coded_ℤ (coded× (coded_option coded_ℤ) (coded_list coded_kept)))
    (λ b. (b.cut, (b.open_start, b.series)))
    (λ p. record { cut = p.0; open_start = p.1.0; series = p.1.1 })
    (λ _. refl)

abbrev pub coded_checkpoint : Coded CheckpointParts
coded_checkpoint =
    code_by (List StatementTree × (ℤ × (Option ℤ × List KeptParts)))
    (coded× coded_query (coded× coded_ℤ (coded× (coded_option coded_ℤ) (coded_list coded_kept))))
    (λ c. (c.query, (c.cut, (c.open_start, c.series))))
    (λ p. record { query = p.0; cut = p.1.0; open_start = p.1.1.0; series = p.1.1.1 })
    (λ _. refl)
