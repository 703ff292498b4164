use Rattle.std.proofs.Common.{◌∙◌, ◌++◌, ℕ, List, ap, refl}
use Rattle.tilt_live_app.specs.Checking.{safe, unsafe_at, unwritten}
use Rattle.tilt_live_app.proofs.checking.print_check.Goals as goal

pub returns-in-None : goal.returns-in-None
returns-in-None g c =
    let old = (g.P.Port.transcript c.args.port.now).written in
    record {
      printed =
          safe c.in-None.is
          (record { written = λ t. c.in-Ok.ensures.whole t ∙ ap (λ (l : List ℕ). old ++ l) c.deref.ensures.value; handed_on = c.in-Ok.ensures.handed_on }) refl;
    }

pub returns-in-Some : goal.returns-in-Some
returns-in-Some g c =
    let old = (g.P.Port.transcript c.args.port.now).written in
    record {
      printed = rw c.report_unsafe.ensures.status
          (unsafe_at c.in-Some.definition c.in-Some.is
          (record { written = λ t. c.in-Ok.ensures.whole t ∙ ap (λ (l : List ℕ). old ++ l) c.deref.ensures.value; handed_on = c.in-Ok.ensures.handed_on })
          (rw c.deref-in-Some.ensures.value at c.report_unsafe.ensures.line));
    }

pub returns-in-Err : goal.returns-in-Err
returns-in-Err g c = record {
  printed = rw c.report_fault.ensures.status
      (unwritten (λ t. rw c.deref.ensures.value at (c.in-Err.ensures.front t)) c.in-Err.ensures.rose c.report_fault.ensures.line);
}
