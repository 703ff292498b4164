-- How snapshots are distinguished, which a type that contracts see as plain data needs.
use Rattle.std.specs.Prelude.{ℤ, List, Option, refl}
use Rattle.std.specs.Coded.{Coded, code_by, coded×, coded_list, coded_option, coded_ℤ}
use Rattle.tilt_stream.specs.Snap.{Snapshot}

-- part by part
abbrev pub coded_snapshot : Coded Snapshot
coded_snapshot =
    code_by (ℤ × (ℤ × Option ℤ)) (coded× coded_ℤ (coded× coded_ℤ (coded_option coded_ℤ))) (λ s. (s.start, (s.end, s.value)))
    (λ p. record { start = p.0; end = p.1.0; value = p.1.1 }) (λ _. refl)

-- lists of them
abbrev pub coded_snapshots : Coded (List Snapshot)
coded_snapshots = coded_list coded_snapshot
