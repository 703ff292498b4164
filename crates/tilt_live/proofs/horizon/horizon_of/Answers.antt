use Rattle.tilt_engine.proofs.BufferHorizons.{horizon-there, horizon-past}
use Rattle.tilt_live.proofs.horizon.horizon_of.Goals as goal

pub returns-in-Some-clause-value : goal.returns-in-Some-clause-value
returns-in-Some-clause-value c =
    let found = c.in-Some.ensures.lookup in
    horizon-there c.args.horizons.now c.args.source c.in-Some.horizon.now found.3.0 found.1

pub returns-in-None-clause-value : goal.returns-in-None-clause-value
returns-in-None-clause-value c = horizon-past c.args.horizons.now c.args.source c.in-None.ensures.lookup.3
