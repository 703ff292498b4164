use Rattle.std.proofs.Common.{◌≡◌, [], drop, map, ap, sym, ◌∙◌}
use Rattle.std.proofs.lemmas.List.{drop_all}
use Rattle.tilt_base.proofs.Lists.{all-at, all-push}
use Rattle.tilt_engine.proofs.BufferHorizons.{loops-next}
use Rattle.tilt_engine.specs.CodeHorizon.{IsTimeOrNever, horizon_by, with_loop_horizons}
use Rattle.tilt_turn.specs.Ready.{IsReady}
use Rattle.tilt_engine.proofs.horizon.add_loops.Goals as goal

pub loop_horizon-horizon-requires-clause-ready : goal.loop_horizon-horizon-requires-clause-ready
loop_horizon-horizon-requires-clause-ready c =
    let buffers = c.requires.loops.0 in
    (buffers, all-at (IsReady buffers) c.args.loops.now c.loop-each.each-index c.each-item.result c.requires.loops.1 c.loop-each-test.true c.each-item.is)

pub loop_horizon-horizon-requires-clause-times : goal.loop_horizon-horizon-requires-clause-times
loop_horizon-horizon-requires-clause-times c = rw c.deref.ensures.value c.loop-each.invariant.times

pub loop-each-preserved : goal.loop-each-preserved
loop-each-preserved c =
    let hs = c.loop-each.horizons.items in
    let h = c.loop_horizon-horizon.result in
    let value = rw c.deref.ensures.value at c.loop_horizon-horizon.ensures.value in
    let next = loops-next hs c.args.loops.now c.loop-each.each-index c.each-item.result h c.loop-each-test.true c.each-item.is value in
    rw c.in_ok-push.ensures.items (record {
      value = next ∙ c.loop-each.invariant.value;
      times = all-push IsTimeOrNever hs h c.loop-each.invariant.times c.loop_horizon-horizon.ensures.time;
    })

pub returns : goal.returns
returns c =
    let hs = map horizon_by c.loop-each.horizons.items in
    let rest : drop c.loop-each.each-index c.args.loops.now ≡ [] = drop_all c.loop-each.each-index c.args.loops.now c.loop-each-test.false in
    record { value = sym (ap (with_loop_horizons hs) rest) ∙ c.loop-each.invariant.value; times = c.loop-each.invariant.times }
