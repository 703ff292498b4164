use Rattle.std.proofs.Common.{refl}
use Rattle.tilt_live_app.specs.Done.{halted, unbegun, unmade, unsaved, whole}
use Rattle.tilt_live_app.proofs.command.obey.Goals as goal

pub returns-in-Ok-clause-is : goal.returns-in-Ok-clause-is
returns-in-Ok-clause-is g c = whole c.in-Ok.ensures.is

pub returns-in-Ok-clause-rest : goal.returns-in-Ok-clause-rest
returns-in-Ok-clause-rest g c = λ other. absurd (other refl)

pub returns-in-Err-Halted-clause-is : goal.returns-in-Err-Halted-clause-is
returns-in-Err-Halted-clause-is g c =
    rw c.report_halt.ensures.status (halted c.in-Err-Halted.halt c.run.new.err
    (rw (c.in-Err-Halted.field-0-is, c.in-Err-Halted.halt-is) at c.in-Err-Halted.ensures.is) c.report_halt.ensures.line)

pub returns-in-Err-Halted-clause-rest : goal.returns-in-Err-Halted-clause-rest
returns-in-Err-Halted-clause-rest g c = λ _ _. (rw c.in-Err-Halted.field-0-is at c.in-Err-Halted.ensures.rest) (λ e. e)

pub returns-in-Err-Unbegun-clause-is : goal.returns-in-Err-Unbegun-clause-is
returns-in-Err-Unbegun-clause-is g c =
    let ran = rw (c.in-Err-Unbegun.field-0-is, c.in-Err-Unbegun.why-is) at c.in-Err-Unbegun.ensures.is in
    rw c.report_unbegun.ensures.status (unbegun ran.0 ran.1 (rw ran.2 at c.report_unbegun.ensures.line))

pub returns-in-Err-Unbegun-clause-rest : goal.returns-in-Err-Unbegun-clause-rest
returns-in-Err-Unbegun-clause-rest g c = λ _ _. (rw c.in-Err-Unbegun.field-0-is at c.in-Err-Unbegun.ensures.rest) (λ e. e)

pub returns-in-Err-Unsaved-clause-is : goal.returns-in-Err-Unsaved-clause-is
returns-in-Err-Unsaved-clause-is g c =
    let ran = rw c.in-Err-Unsaved.field-0-is at c.in-Err-Unsaved.ensures.is in
    rw c.report_fault.ensures.status (unsaved ran.0 _ c.run.new.err ran.1 ran.2 c.report_fault.ensures.line)

pub returns-in-Err-Unsaved-clause-rest : goal.returns-in-Err-Unsaved-clause-rest
returns-in-Err-Unsaved-clause-rest g c = λ _ other. absurd (other c.report_fault.ensures.status)

pub returns-in-Err-Unmade-clause-is : goal.returns-in-Err-Unmade-clause-is
returns-in-Err-Unmade-clause-is g c =
    let ran = rw c.in-Err-Unmade.field-0-is at c.in-Err-Unmade.ensures.is in
    rw c.report_fault-in-Err-Unmade.ensures.status (unmade ran.0 c.run.new.err ran.1 ran.2 c.report_fault-in-Err-Unmade.ensures.line)

pub returns-in-Err-Unmade-clause-rest : goal.returns-in-Err-Unmade-clause-rest
returns-in-Err-Unmade-clause-rest g c = λ _ _. (rw c.in-Err-Unmade.field-0-is at c.in-Err-Unmade.ensures.rest) (λ e. e)
