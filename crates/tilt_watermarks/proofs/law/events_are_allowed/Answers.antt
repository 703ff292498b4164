use Rattle.std.proofs.Common.{sym, subst}
use Rattle.tilt_feed.specs.Feed.{Feed, empty_feed}
use Rattle.tilt_watermarks.proofs.Stepping.{all-steps, keeps-first, kept-of}
use Rattle.tilt_watermarks.specs.Laws.{IsKeptOf, watermarked}
use Rattle.tilt_watermarks.specs.Steps.{nothing_kept}
use Rattle.tilt_watermarks.proofs.law.events_are_allowed.Goals as goal

pub returns-clause-allowed : goal.returns-clause-allowed
returns-clause-allowed c options inputs lines = (all-steps options lines (nothing_kept inputs) (empty_feed inputs) (keeps-first options.lateness inputs)).goes.allowed

pub returns-clause-kept : goal.returns-clause-kept
returns-clause-kept c options inputs lines =
    let steps = all-steps options lines (nothing_kept inputs) (empty_feed inputs) (keeps-first options.lateness inputs) in
    let kept = (watermarked options inputs lines).kept in
    subst (λ (f : Feed). IsKeptOf options.lateness kept f) (sym steps.goes.is) (kept-of options.lateness kept steps.later steps.keeps)
