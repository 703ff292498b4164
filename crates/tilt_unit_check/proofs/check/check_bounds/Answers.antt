use Rattle.tilt_unit_check.proofs.Unknown.{unknown-below, unknown-fault}
use Rattle.tilt_unit_check.proofs.check.check_bounds.Goals as goal

pub unknown_at-requires : goal.unknown_at-requires
unknown_at-requires c =
    let is = rw c.in-Err-UnknownInput.field-0-is at c.in-Err-UnknownInput.ensures.fault in
    rw c.in-Err-UnknownInput.bound-is (unknown-below c.args.core.now.inputs c.args.bounds.now c.in-Err-UnknownInput.bound is)

pub returns-in-Err-UnknownInput-clause-fault : goal.returns-in-Err-UnknownInput-clause-fault
returns-in-Err-UnknownInput-clause-fault c =
    let is = rw c.in-Err-UnknownInput.field-0-is at c.in-Err-UnknownInput.ensures.fault in
    unknown-fault c.args.core.now.inputs c.args.bounds.now c.in-Err-UnknownInput.bound is c.args.scales.now c.unknown_at.result
    (rw (c.named-named.ensures.value, c.inputs.ensures.names) at c.in_ok-check_names.ensures) (rw c.in-Err-UnknownInput.bound-is at c.unknown_at.ensures)
