use Rattle.std.proofs.Common.{◌++◌, ℕ, List, length, ◌∙◌, ap, subst, sym}
use Rattle.std.proofs.lemmas.Result.{err_from_is_err_and}
use Rattle.tilt_feed_text.proofs.Splitting.{are-ended}
use Rattle.tilt_feed_text.specs.Split.{ended}
use Rattle.tilt_live_folder.proofs.Commits.{counted, left-of, tail-of}
use Rattle.tilt_live_folder.specs.Feeds.{IsLeft}
use Rattle.tilt_live_folder.specs.Machines.{IsRunning}
use Rattle.tilt_live_folder.proofs.machine.LiveMachineMachine.resume.Goals as goal

pub returns-in_err-resumed-clause-taken : goal.returns-in_err-resumed-clause-taken
returns-in_err-resumed-clause-taken c = λ bytes commit is same.
    let p = err_from_is_err_and c.from_residual.result c.from_residual.ensures.1 in
    let recipe = c.args.recipe in
    let left = subst (IsLeft recipe bytes (length commit.output)) (sym c.split_lines.ensures.lines) (left-of recipe bytes commit c.args.text.now is same) in
    rw (p.1, p.2) (c.in_err-resumed.ensures.taken bytes (length commit.output) left)

pub returns-in-Ok-clause-is : goal.returns-in-Ok-clause-is
returns-in-Ok-clause-is c = λ bytes commit is same.
    let recipe = c.args.recipe in
    let left = subst (IsLeft recipe bytes (length commit.output)) (sym c.split_lines.ensures.lines) (left-of recipe bytes commit c.args.text.now is same) in
    let start = c.in_ok-resumed.ensures.is bytes (length commit.output) left in
    let tail = c.split_lines.ensures.tail ∙ tail-of recipe bytes commit c.args.text.now is same in
    subst (λ (b : List ℕ). IsRunning c.take.new.self recipe b) (ap (λ (t : List ℕ). ended bytes ++ t) tail ∙ (are-ended bytes).parts)
    (c.in-Ok.ensures.is recipe (ended bytes) start)

pub returns-in-Ok-clause-written : goal.returns-in-Ok-clause-written
returns-in-Ok-clause-written c = λ bytes commit is same.
    let recipe = c.args.recipe in
    let left = subst (IsLeft recipe bytes (length commit.output)) (sym c.split_lines.ensures.lines) (left-of recipe bytes commit c.args.text.now is same) in
    c.in_ok-resumed.ensures.written bytes (length commit.output) left ∙ counted (length commit.output) is.in_range.state.progress.written
