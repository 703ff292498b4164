use Rattle.tilt_live_run.proofs.KeepingRows.{unfinished-before}
use Rattle.tilt_live_run.proofs.state_rows.take_event.Goals as goal

pub returns-in-Ok : goal.returns-in-Ok
returns-in-Ok c = λ first feed keeps later. (c.in-Ok.ensures.taken first feed (keeps (unfinished-before c.args.event feed later))).1

pub returns-in-Err-Fault : goal.returns-in-Err-Fault
returns-in-Err-Fault c = λ first feed keeps later.
    let taken = rw c.in-Err-Fault.field-0-is at (c.in-Err-Fault.ensures.taken first feed (keeps (unfinished-before c.args.event feed later))) in
    rw taken.0 taken.1
