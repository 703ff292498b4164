use Rattle.std.proofs.Common.{w64}
use Rattle.std.proofs.lemmas.Int.{to_z-of_z}
use Rattle.tilt_engine.specs.FedRows.{KeepsRowsOf}
use Rattle.tilt_engine.specs.declared.fed_rows.FedRows.{FedRows}
use Rattle.tilt_live_run.proofs.KeepingRows.{some-given}
use Rattle.tilt_live_run.proofs.state_rows.StateRows.forget.Goals as goal

pub returns-in-Some-clause-rows : goal.returns-in-Some-clause-rows
returns-in-Some-clause-rows c = λ lower feed on keeps.
    let kept = rw (to_z-of_z w64 c.args.first c.ranges.first) at c.forget.ensures.keeps in
    some-given feed.finished (λ (f : FedRows). KeepsRowsOf f c.args.first feed) c.forget.new.self c.forget.result
    (λ going. kept lower feed on (keeps going c.in-Some.fed c.in-Some.is))
