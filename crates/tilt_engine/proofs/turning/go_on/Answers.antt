-- When no turn is to be made any more, the loop has made all that is known.
use Rattle.std.proofs.Common.{◌∙◌, ap, map, subst}
use Rattle.tilt_engine.proofs.Turned.{done-next}
use Rattle.tilt_engine.specs.CodeHorizon.{horizon_by}
use Rattle.tilt_engine.specs.Standing.{MayTurn}
use Rattle.tilt_engine.specs.Stock.{inlet_list}
use Rattle.tilt_feed.specs.Horizon.{Horizon}
use Rattle.tilt_engine.proofs.turning.go_on.Goals as goal

pub loop-horizon-preserved : goal.loop-horizon-preserved
loop-horizon-preserved c = record {
  inputs = c.in_ok-turn.ensures.inputs ∙ c.loop-horizon.invariant.inputs;
  loops = λ rows gone hs stock is.
      c.in_ok-turn.ensures.loops rows gone hs (record {
        left = ap (map inlet_list) c.loop-horizon.invariant.inputs ∙ stock.left;
        are = c.loop-horizon.invariant.loops rows gone hs stock is;
      }) is;
}

pub returns-clause-loops : goal.returns-clause-loops
returns-clause-loops c = λ rows gone hs stock is.
    let last = c.loop-horizon.invariant.loops rows gone hs stock is in
    let may : ¬ (MayTurn (horizon_by c.args.horizon) c.index.result.now) = λ yes. (let test = c.may_turn.ensures.1 yes in let no = c.loop-horizon-test.false in cc) in
    done-next c.args.code.now rows gone hs c.loop-horizon.stock.loops.items c.loop-horizon.states c.args.place last c.requires.there c.index.result.now
    c.index.ensures (subst (λ (h : Horizon). ¬ (MayTurn h c.index.result.now)) is may)
