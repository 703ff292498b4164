use Rattle.std.proofs.Common.{[]}
use Rattle.tilt_tests_keys.proofs.feeds.take_pieces.Goals as goal

pub feed-requires-clause-sound : goal.feed-requires-clause-sound
feed-requires-clause-sound c = (c.args.recipe, [], c.in_ok-run.ensures.is)
