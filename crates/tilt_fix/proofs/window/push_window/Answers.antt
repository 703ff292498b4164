use Rattle.std.proofs.Common.{neg_ℤ, FitsSigned, rules, w64}
use Rattle.std.proofs.lemmas.Int.{to_z-of_z}
use Rattle.tilt_base.specs.declared.limits.TheConstants.{T}
use Rattle.tilt_fix.proofs.Searched.{behind-last}
use Rattle.tilt_fix.specs.Window.{window}
use Rattle.tilt_fix.proofs.window.push_window.Goals as goal

pub append-requires-clause-behind : goal.append-requires-clause-behind
append-requires-clause-behind c =
    let lo : FitsSigned w64 c.args.on.start = search rules in
    let hi : FitsSigned w64 c.args.on.end = search rules in
    rw (c.early.ensures, c.late.ensures.rows, to_z-of_z w64 c.args.on.start lo, to_z-of_z w64 c.args.on.end hi)
    (behind-last (neg_ℤ T) T c.args.rows.now (window c.args.on.start c.args.on.end c.args.more.now) c.requires.behind).0

pub append-requires-clause-rows : goal.append-requires-clause-rows
append-requires-clause-rows c =
    let lo : FitsSigned w64 c.args.on.start = search rules in
    let hi : FitsSigned w64 c.args.on.end = search rules in
    rw (c.early.ensures, c.late.ensures.rows, to_z-of_z w64 c.args.on.start lo, to_z-of_z w64 c.args.on.end hi)
    (behind-last (neg_ℤ T) T c.args.rows.now (window c.args.on.start c.args.on.end c.args.more.now) c.requires.behind).1
