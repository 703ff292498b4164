use Rattle.std.proofs.Common.{◌≡◌, FitsSigned, to_z-of_z, w64, neg_ℤ, ◌<ℤ◌, ◌≤ℤ◌, rules}
use Rattle.tilt_base.specs.declared.limits.TheConstants.{T}
use Rattle.tilt_fix.proofs.Changing.{removal_is, revaluation_is}
use Rattle.tilt_stream.specs.Snap.{Snapshot}
use Rattle.tilt_fix.proofs.change.change_of.Goals as goal

pub returns-in_ok-place_of-in-Remove-clause-change : goal.returns-in_ok-place_of-in-Remove-clause-change
returns-in_ok-place_of-in-Remove-clause-change c =
    let low : neg_ℤ T ≤ℤ c.in-Remove.start = rw c.in-Remove.is at c.requires.low in
    let some : c.in-Remove.start <ℤ c.in-Remove.end = rw c.in-Remove.is at c.requires.some in
    let high : c.in-Remove.end ≤ℤ T = rw c.in-Remove.is at c.requires.high in
    let start_fits : FitsSigned w64 c.in-Remove.start = search rules in
    let end_fits : FitsSigned w64 c.in-Remove.end = search rules in
    rw c.in-Remove.is (removal_is c.in-Remove.input c.in-Remove.start c.in-Remove.end c.args.rows.now c.in_ok-place_of-in-Remove.field-0 c.requires.rows
    (rw (to_z-of_z start_fits, to_z-of_z end_fits) at c.in_ok-place_of-in-Remove.ensures.found))

pub returns-in_ok-place_of-in-Set-clause-change : goal.returns-in_ok-place_of-in-Set-clause-change
returns-in_ok-place_of-in-Set-clause-change c =
    let own : Snapshot = record { start = c.row.inside.start; end = c.row.inside.end; value = c.row.inside.value } in
    let is : own ≡ c.in-Set.row = c.row.view_is in
    let low : neg_ℤ T ≤ℤ own.start = rw (← is) at (rw c.in-Set.is at c.requires.low) in
    let some : own.start <ℤ own.end = rw (← is) at (rw c.in-Set.is at c.requires.some) in
    let high : own.end ≤ℤ T = rw (← is) at (rw c.in-Set.is at c.requires.high) in
    let start_fits : FitsSigned w64 c.row.inside.start = search rules in
    let end_fits : FitsSigned w64 c.row.inside.end = search rules in
    let found = rw (to_z-of_z start_fits, to_z-of_z end_fits) at c.in_ok-place_of-in-Set.ensures.found in
    rw (c.in-Set.is, ← is) (revaluation_is c.in-Set.input own c.args.rows.now c.in_ok-place_of-in-Set.field-0 c.requires.rows found)
