use Rattle.std.proofs.Common.{◌≡◌, map, take, option_map}
use Rattle.tilt_keyed_run.specs.Resumed.{AreResumedOf}
use Rattle.tilt_keyed_run.proofs.resumed_keys.resume_state.Given as goal

abbrev pub invariant-loop-one : goal.invariant-loop-one
invariant-loop-one g l = record {
  resumed : AreResumedOf g.R.KeyRun.is (g.R.KeptRun.state l.fn.recipe) l.fn.recipe l.run.keys.items (take l.one-index l.fn.state.keys);
  places : l.run.places ≡ map (λ k. k.key) (take l.one-index l.fn.state.keys);
  shared : option_map (λ line. line.items) l.run.shared ≡ l.fn.state.shared;
  max : l.run.max_keys ≡ l.fn.max_keys;
}
