use Rattle.std.proofs.Common.{◌≡◌, List, length}
use Rattle.tilt_keyed_line.specs.Feeds.{KeyFeed}
use Rattle.tilt_keyed_run.proofs.Puttings.{IsPutting}
use Rattle.tilt_keyed_run.specs.Runs.{AreKeysOf}
use Rattle.tilt_keyed_run.proofs.kept_keys.put_keys.Given as goal

abbrev pub invariant-loop-place : goal.invariant-loop-place
invariant-loop-place g l = record {
  putting : (feeds : List KeyFeed) → AreKeysOf g.R.KeyRun.is l.fn.keys l.fn.recipe feeds
      → IsPutting g.R.KeyRun.is l.fn.recipe (g.R.KeptRun.state l.fn.recipe) feeds l.fn.text.items l.place l.keys l.text.items;
  many : length l.keys ≡ length l.fn.keys;
}
