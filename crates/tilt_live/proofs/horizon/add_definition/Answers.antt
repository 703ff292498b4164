use Rattle.tilt_live.proofs.Ticks.{grown-near}
use Rattle.tilt_live.proofs.horizon.add_definition.Goals as goal

pub returns-clause-still_near : goal.returns-clause-still_near
returns-clause-still_near c =
    grown-near c.args.horizons.now.items c.deref.result.now c.push.new.self.items c.definition_horizon-horizon.result c.deref.ensures.value c.in_ok-push.ensures.items c.requires.near
    c.definition_horizon-horizon.ensures.near
