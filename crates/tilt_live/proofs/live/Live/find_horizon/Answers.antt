use Rattle.tilt_live.proofs.Lives.{live-horizon, live-many}
use Rattle.tilt_live.proofs.live.Live.find_horizon.Goals as goal

pub query_horizon-requires : goal.query_horizon-requires
query_horizon-requires c = record {
  each = live-many c.args.self.now c.core.result.now c.core.ensures.value c.deref.result.now c.in_ok-inputs.inputs.items c.deref.ensures.value c.in_ok-inputs.ensures
      c.requires.0 c.requires.1 c.requires.2 c.requires.3 c.requires.4;
}

pub returns : goal.returns
returns c =
    live-horizon c.args.self.now c.core.result.now c.core.ensures.value c.deref.result.now c.in_ok-inputs.inputs.items c.deref.ensures.value c.in_ok-inputs.ensures
    c.query_horizon.result c.query_horizon.ensures.value
