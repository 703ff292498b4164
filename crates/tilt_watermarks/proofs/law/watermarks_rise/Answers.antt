use Rattle.std.proofs.Common.{◌∙◌}
use Rattle.std.proofs.lemmas.List.{length-replicate}
use Rattle.tilt_feed.specs.Feed.{empty_feed}
use Rattle.tilt_watermarks.proofs.Near.{all-near, length-all, near-first}
use Rattle.tilt_watermarks.proofs.Stepping.{all-steps, keeps-first}
use Rattle.tilt_watermarks.specs.Laws.{watermarked}
use Rattle.tilt_watermarks.specs.Steps.{nothing_kept, unknown}
use Rattle.tilt_watermarks.proofs.law.watermarks_rise.Goals as goal

pub returns-clause-rising : goal.returns-clause-rising
returns-clause-rising c options inputs lines more =
    let first = all-steps options lines (nothing_kept inputs) (empty_feed inputs) (keeps-first options.lateness inputs) in
    (all-steps options more (watermarked options inputs lines).kept first.later first.keeps).rises

pub returns-clause-near : goal.returns-clause-near
returns-clause-near c options ticks inputs lines is = all-near options ticks lines (nothing_kept inputs) is (near-first ticks inputs)

pub returns-clause-inputs : goal.returns-clause-inputs
returns-clause-inputs c options inputs lines = length-all options lines (nothing_kept inputs) ∙ length-replicate inputs unknown
