use Rattle.std.proofs.Common.{◌≡◌, ◌∙◌, List, Some, rules, subst, sym}
use Rattle.std.proofs.lemmas.Result.{err_from_is_err_and}
use Rattle.std.specs.Prelude.{is_err}
use Rattle.tilt_live_app.proofs.Watching.{no_check-miscounted}
use Rattle.tilt_live_app.specs.Counting.{counted, unasked, unwatchable, unwatched, whole, within}
use Rattle.tilt_live_cli.specs.Arguments.{command_value}
use Rattle.tilt_core.specs.Core.{CoreParts}
use Rattle.tilt_unit_report.specs.IllScaled.{magnitudes_of}
use Rattle.tilt_unit_report.specs.declared.bound.InputBound.{InputBound}
use Rattle.tilt_live_app.proofs.counting.choose_counting.Goals as goal

pub returns-in_default-clause-counts : goal.returns-in_default-clause-counts
returns-in_default-clause-counts c = whole (search rules)

pub returns-in_default-bounds-clause-counts : goal.returns-in_default-bounds-clause-counts
returns-in_default-bounds-clause-counts c = unasked (search rules)

pub returns-in_err-check_bounds-clause-fault : goal.returns-in_err-check_bounds-clause-fault
returns-in_err-check_bounds-clause-fault c =
    let command = command_value c.args.command.now in
    let p = err_from_is_err_and c.from_residual.result c.from_residual.ensures.1 in
    let units : command.units ≡ Some c.in-Some.scales = search rules in
    let known : command.bounds ≡ Some c.in-Some-bounds.bounds.items = search rules in
    rw (p.1, p.2) (no_check-miscounted command c.in-Some.scales c.in-Some-bounds.bounds.items c.args.accepted.now.core.inputs c.in_err-check_bounds.field-0.0 units known
    (rw (c.core.ensures.value, c.deref.ensures.value) at c.in_err-check_bounds.ensures.fault))

pub returns-then-not-branch-clause-counts : goal.returns-then-not-branch-clause-counts
returns-then-not-branch-clause-counts c =
    let known : (command_value c.args.command.now).bounds ≡ Some c.in-Some-bounds.bounds.items = search rules in
    let can = subst (λ (k : CoreParts). c.in_ok-check_bounds.field-0 ≡ is_err (magnitudes_of k c.in-Some-bounds.bounds.items)) c.core.ensures.value
    (subst (λ (b : List InputBound). c.in_ok-check_bounds.field-0 ≡ is_err (magnitudes_of c.core.result.now b)) c.deref.ensures.value c.in_ok-check_bounds.ensures.can) in
    let leaves = sym can ∙ c.if-not-branch.true in
    within c.in-Some-bounds.bounds.items known leaves

pub returns-then-not-is_watchable-clause-counts : goal.returns-then-not-is_watchable-clause-counts
returns-then-not-is_watchable-clause-counts c =
    let known : (command_value c.args.command.now).bounds ≡ Some c.in-Some-bounds.bounds.items = search rules in
    let can = subst (λ (k : CoreParts). c.in_ok-check_bounds.field-0 ≡ is_err (magnitudes_of k c.in-Some-bounds.bounds.items)) c.core.ensures.value
    (subst (λ (b : List InputBound). c.in_ok-check_bounds.field-0 ≡ is_err (magnitudes_of c.core.result.now b)) c.deref.ensures.value c.in_ok-check_bounds.ensures.can) in
    let leaves = sym can ∙ c.if-not-branch.false in
    unwatchable c.in-Some-bounds.bounds.items known leaves (sym c.is_watchable.ensures ∙ c.if-not-is_watchable.true)

pub returns-in-Some-2-clause-counts : goal.returns-in-Some-2-clause-counts
returns-in-Some-2-clause-counts c =
    let known : (command_value c.args.command.now).bounds ≡ Some c.in-Some-bounds.bounds.items = search rules in
    let can = subst (λ (k : CoreParts). c.in_ok-check_bounds.field-0 ≡ is_err (magnitudes_of k c.in-Some-bounds.bounds.items)) c.core.ensures.value
    (subst (λ (b : List InputBound). c.in_ok-check_bounds.field-0 ≡ is_err (magnitudes_of c.core.result.now b)) c.deref.ensures.value c.in_ok-check_bounds.ensures.can) in
    let leaves = sym can ∙ c.if-not-branch.false in
    counted c.in-Some-bounds.bounds.items _ known leaves (sym c.is_watchable.ensures ∙ c.if-not-is_watchable.false) (rw c.in-Some-2.is at c.in_ok-watch.ensures)

pub returns-in-None-clause-counts : goal.returns-in-None-clause-counts
returns-in-None-clause-counts c =
    let known : (command_value c.args.command.now).bounds ≡ Some c.in-Some-bounds.bounds.items = search rules in
    let can = subst (λ (k : CoreParts). c.in_ok-check_bounds.field-0 ≡ is_err (magnitudes_of k c.in-Some-bounds.bounds.items)) c.core.ensures.value
    (subst (λ (b : List InputBound). c.in_ok-check_bounds.field-0 ≡ is_err (magnitudes_of c.core.result.now b)) c.deref.ensures.value c.in_ok-check_bounds.ensures.can) in
    let leaves = sym can ∙ c.if-not-branch.false in
    unwatched c.in-Some-bounds.bounds.items known leaves (sym c.is_watchable.ensures ∙ c.if-not-is_watchable.false) (rw c.in-None.is at c.in_ok-watch.ensures)
