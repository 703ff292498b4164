use Rattle.std.proofs.Common.{◌∙◌, ◌++◌, ℕ, List, ap, refl}
use Rattle.tilt_live_app.specs.InFolder.{no_memory, printed, unwritten}
use Rattle.tilt_live_app.proofs.in_folder.print_count.Goals as goal

pub returns-in_default : goal.returns-in_default
returns-in_default g c = record { printed = rw c.report_fault.ensures.status (no_memory refl c.report_fault.ensures.line) }

pub returns-in-Ok-print : goal.returns-in-Ok-print
returns-in-Ok-print g c =
    let text = c.deref.ensures.value ∙ c.in-Ok.ensures in
    let old = (g.P.Port.transcript c.args.port.now).written in
    record {
      printed = printed (λ t. c.in-Ok-print.ensures.whole t ∙ ap (λ (l : List ℕ). old ++ l) text) c.in-Ok-print.ensures.handed_on refl;
    }

pub returns : goal.returns
returns g c =
    let text = c.deref.ensures.value ∙ c.in-Ok.ensures in
    record {
      printed = rw c.report_fault-in-Err.ensures.status
          (unwritten (λ t. rw text at (c.in-Err.ensures.front t)) c.in-Err.ensures.rose c.report_fault-in-Err.ensures.line);
    }
