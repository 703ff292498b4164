use Rattle.std.proofs.Common.{◌≡◌, ◌<◌, ◌++◌, [], Option, Some, ℕ, sym, ap, subst}
use Rattle.std.proofs.lemmas.List.{length-replicate}
use Rattle.tilt_feed.specs.Feed.{empty_feed}
use Rattle.tilt_watermarks.proofs.Gathered.{all-ended, all-sorted, sorted-first, unknown-at}
use Rattle.tilt_watermarks.proofs.Sorted.{swap-updates}
use Rattle.tilt_watermarks.proofs.Stepping.{keeps-first}
use Rattle.tilt_watermarks.specs.Held.{Waiting}
use Rattle.tilt_watermarks.specs.Laws.{gathered, pieces, updates_of, watermarked}
use Rattle.tilt_watermarks.specs.Steps.{input_at, nothing_kept, unknown}
use Rattle.tilt_watermarks.specs.declared.options.Options.{Options}
use Rattle.tilt_watermarks.proofs.law.lines_are_sorted.Goals as goal

pub returns-clause-sorted : goal.returns-clause-sorted
returns-clause-sorted c options ticks inputs number lines is within =
    let same = ap (λ (late : Option ℕ). let o : Options = record { idle = options.idle; ahead = options.ahead; lateness = late } in o) is in
    let many = subst (λ (n : ℕ). number < n) (sym (length-replicate inputs unknown)) within in
    let sorted = all-sorted options.idle options.ahead ticks number lines [] (nothing_kept inputs) (empty_feed inputs) [] (keeps-first (Some ticks) inputs) many (sorted-first number inputs) in
    subst (λ (o : Options). pieces (updates_of number (watermarked o inputs lines).events) ++ (input_at (watermarked o inputs lines).kept.inputs number).held
    ≡ gathered o number lines (nothing_kept inputs) []) (sym same) sorted.is

pub returns-clause-last : goal.returns-clause-last
returns-clause-last c options inputs number lines = all-ended options lines (nothing_kept inputs) (λ n yes. ap (λ (i : Waiting). i.held) (unknown-at n inputs)) number

pub returns-clause-either : goal.returns-clause-either
returns-clause-either c one two updates not-same = swap-updates one two updates not-same
