use Rattle.std.proofs.Common.{◌<◌, ◌≡◌, length, slice_get, Some, arith, refl}
use Rattle.std.proofs.lemmas.Option.{slice_get_read, slice_get_within}
use Rattle.tilt_engine.proofs.Again.{one-looked}
use Rattle.tilt_engine.proofs.advancing.look_again_all.Goals as goal

pub loop-state-preserved : goal.loop-state-preserved
loop-state-preserved c =
    let old = c.args.states.now in
    let now = c.loop-state.states in
    let index = c.loop-state.state-index in
    let many = c.loop-state.invariant.many in
    let below = c.loop-state-test.true in
    let within : index < length now = omega (arith, many) in
    let at : slice_get now index ≡ Some c.state-item.result = slice_get_read now (length now) index c.state-item.result refl within c.state-item.is in
    one-looked index old now c.state-item.result c.look_again.new.self c.loop-state.invariant within at (rw (← c.state-item.is) at c.look_again.ensures)

pub returns-clause-each : goal.returns-clause-each
returns-clause-each c = λ k state after is at.
    let within = slice_get_within c.args.states.now k state is in
    let last = c.loop-state-test.false in
    c.loop-state.invariant.first k state after (omega arith) is at
