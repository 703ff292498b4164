use Rattle.std.proofs.Common.{◌++◌, ℕ, List, ◌∙◌, ap}
use Rattle.tilt_live_folder.proofs.Commits.{commit-of}
use Rattle.tilt_live_state.specs.Spelling as live
use Rattle.tilt_run_state.specs.Spelling.{kept_lines}
use Rattle.tilt_live_folder.proofs.machine.LiveMachineMachine.state.Goals as goal

pub returns-in-Ok-spell-clause-commits : goal.returns-in-Ok-spell-clause-commits
returns-in-Ok-spell-clause-commits c = λ of bytes is count.
    let opened = c.deref.ensures.value ∙ c.in-Ok.ensures.opening ∙ is.opening in
    let tail = c.deref-2.ensures.value ∙ c.in-Ok.ensures.tail ∙ is.tail in
    commit-of of bytes c.args.written c.in-Ok.state c.in-Ok-spell.text.items is.no_stop count (c.in-Ok.ensures.is of bytes is)
    (c.in-Ok.ensures.valid of bytes is) (c.is_in_range.ensures.0 c.if-not-is_in_range.false)
    (c.in-Ok-spell.ensures
    ∙ (λ k. (opened k ++ (kept_lines c.in-Ok.state.kept ++ live.spelled c.in-Ok.state.state)) ++ tail k))
