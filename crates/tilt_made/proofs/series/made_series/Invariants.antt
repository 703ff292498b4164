use Rattle.std.proofs.Common.{◌≡◌, ◌≤◌, ◌*◌, ◌-◌, ◌++◌, pos}
use Rattle.std.specs.Option.{ForSome}
use Rattle.tilt_stream.specs.Snap.{last_end}
use Rattle.tilt_made.specs.Generator.{after_rows, series}
use Rattle.tilt_made.proofs.series.made_series.Given as goal

abbrev pub invariant-loop : goal.invariant-loop
invariant-loop l =
    (l.rows ++ series (l.count - l.counter) l.generator.state l.position ≡ series l.count l.initial.generator.state 0)
    × (after_rows (l.count - l.counter) l.generator.state ≡ after_rows l.count l.initial.generator.state)
    × ForSome (last_end l.rows) (λ end. end ≡ pos l.position)
    × (l.position ≤ 11 * l.counter)
