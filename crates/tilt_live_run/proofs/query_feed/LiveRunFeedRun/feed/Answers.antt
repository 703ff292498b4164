use Rattle.std.proofs.Common.{◌∙◌, ◌++◌}
use Rattle.tilt_live_run.proofs.Feeding.{feed-adds, feed-always, feed-ok, feed-reports, feed-stops}
use Rattle.tilt_live_run.proofs.query_feed.LiveRunFeedRun.feed.Goals as goal

pub take-requires-clause-sound : goal.take-requires-clause-sound
take-requires-clause-sound g c = c.requires.sound

pub returns-clause-adds : goal.returns-clause-adds
returns-clause-adds g c = λ of bytes is. rw c.feed_result.ensures (feed-adds _ _ _ _ c.take.result (c.take.ensures.adds of.accepted of.options bytes is.is))

pub returns-clause-reports : goal.returns-clause-reports
returns-clause-reports g c = λ of bytes is. rw c.feed_result.ensures (feed-reports _ _ _ _ _ _ c.take.result (c.take.ensures.reports of.accepted of.options bytes is.is))

pub returns-clause-goes_on : goal.returns-clause-goes_on
returns-clause-goes_on g c = λ of bytes is.
    rw c.feed_result.ensures (feed-ok c.take.result _ _ _ (c.take.ensures.goes_on of.accepted of.options bytes is.is) (c.take.ensures.placed bytes is.placed)
    (λ on placed. record { is = on; placed = placed }))

pub returns-clause-stops : goal.returns-clause-stops
returns-clause-stops g c = λ of bytes is. rw c.feed_result.ensures (feed-stops _ c.take.result (c.take.ensures.stops of.accepted of.options bytes is.is))

pub returns-clause-sound : goal.returns-clause-sound
returns-clause-sound g c = rw c.feed_result.ensures (feed-always c.take.result _ c.take.ensures.sound)
