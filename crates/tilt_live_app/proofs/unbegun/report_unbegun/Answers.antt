use Rattle.tilt_serving.proofs.Reporting.{reported-put}
use Rattle.tilt_live_app.proofs.unbegun.report_unbegun.Goals as goal

pub returns-in-NoInput-clause-line : goal.returns-in-NoInput-clause-line
returns-in-NoInput-clause-line g c =
    rw (c.in-NoInput.is, ← c.bytes.ensures.value) (reported-put _ _ _ g.E.Sink.takes _ _ _ c.put_line.result c.put_line.ensures)

pub returns-in-NoZone-clause-line : goal.returns-in-NoZone-clause-line
returns-in-NoZone-clause-line g c =
    rw (c.in-NoZone.is, ← c.as_bytes.ensures.value) (reported-put _ _ _ g.E.Sink.takes _ _ _ c.put_line-in-NoZone.result c.put_line-in-NoZone.ensures)
