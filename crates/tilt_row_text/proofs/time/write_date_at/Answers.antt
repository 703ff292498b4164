use Rattle.std.proofs.Common.{◌≡◌, to_z, of_z, arith, take, ◌∙◌}
use Rattle.std.proofs.lemmas.Int.{ints}
use Rattle.std.specs.Int.{w64, w128}
use Rattle.tilt_readings.specs.Tick.{moment_at}
use Rattle.tilt_row_text.proofs.Within.{dated}
use Rattle.tilt_row_text.proofs.time.write_date_at.Goals as goal
use Rattle.tilt_row_text.specs.Decimals.{second_decimals}

pub returns-in-Some : goal.returns-in-Some
returns-in-Some c =
    let moment = to_z w128 (of_z w128 c.in_ok-moment.moment) in
    let same : moment ≡ c.in_ok-moment.moment = omega (arith, ints) in
    let tick : to_z w64 (of_z w64 c.args.tick) ≡ c.args.tick = omega (arith, ints) in
    let at : moment ≡ moment_at c.args.clock c.args.tick = same ∙ c.in_ok-moment.ensures ∙ (λ i. moment_at c.args.clock (tick i)) in
    let parts = rw c.in-Some.is at c.write_date.ensures in
    let is = dated (second_decimals c.args.clock) c.second_decimals.result moment (moment_at c.args.clock c.args.tick) (take c.in-Some.end c.write_date.new.room)
    c.second_decimals.ensures.value at parts.0 parts.2 in
    (parts.1, is.0, is.1)
