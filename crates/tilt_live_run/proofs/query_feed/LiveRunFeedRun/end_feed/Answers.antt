use Rattle.std.proofs.Common.{◌∙◌}
use Rattle.tilt_live_run.proofs.Feeding.{feed-ends, feed-unlost}
use Rattle.tilt_live_run.proofs.query_feed.LiveRunFeedRun.end_feed.Goals as goal

pub returns-clause-stops : goal.returns-clause-stops
returns-clause-stops g c = λ of bytes is. rw c.feed_result.ensures (feed-ends _ c.end.result (c.end.ensures.stops of.accepted of.options bytes is.is))

pub returns-clause-unlost : goal.returns-clause-unlost
returns-clause-unlost g c = rw c.feed_result.ensures (feed-unlost c.end.result c.end.ensures.only)
