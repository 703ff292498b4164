use Rattle.std.proofs.Common.{ℕ, List, length}
use Rattle.tilt_keyed_line.specs.Feeds.{KeyedFeed}
use Rattle.tilt_live_keys.proofs.Underway.{IsUnderway}
use Rattle.tilt_live_keys.specs.Runs.{IsRunAfter}
use Rattle.tilt_live_keys.specs.declared.key_recipe.KeyRecipe.{KeyRecipe}
use Rattle.tilt_live_keys.proofs.keyed_live.KeyedLive.take_piece.Given as goal

abbrev pub invariant-loop-line : goal.invariant-loop-line
invariant-loop-line g l = record {
  takes : (n : ℕ) → g.E.Sink.takes l.err n;
  of : (recipe : KeyRecipe) (number : ℕ) (feed : KeyedFeed) (front : List ℕ) → IsRunAfter l.fn.self recipe number feed front
      → IsUnderway g.E.Sink.tells g.E.Sink.written g.E.Sink.faults recipe l.fn.err l.fn.self number feed front l.fn.piece l.self l.err l.rest;
}

abbrev pub decreases-loop-line : goal.decreases-loop-line
decreases-loop-line g l = length l.rest
