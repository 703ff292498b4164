use Rattle.std.proofs.Common.{◌≡◌, List, length}
use Rattle.tilt_keyed_line.specs.Feeds.{KeyFeed}
use Rattle.tilt_keyed_run.proofs.Alongs.{IsAlong}
use Rattle.tilt_keyed_run.specs.Runs.{AreKeysOf}
use Rattle.tilt_keyed_run.proofs.keyed_run.take_all.Given as goal

abbrev pub invariant-loop-place : goal.invariant-loop-place
invariant-loop-place g l = record {
  along : (recipe : g.row.R-Recipe.Denot) (feeds : List KeyFeed) → AreKeysOf g.R.KeyRun.is l.fn.keys recipe feeds
      → IsAlong g.R.KeyRun.is recipe (g.R.KeyRun.first recipe) (g.R.KeyRun.added recipe) (g.R.KeyRun.fault recipe) l.fn.line feeds l.fn.output.items l.place l.keys l.output.items l.first;
  many : length l.keys ≡ length l.fn.keys;
}
