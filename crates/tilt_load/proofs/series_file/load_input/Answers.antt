use Rattle.tilt_load.proofs.Within.{series_within}
use Rattle.tilt_load.proofs.series_file.load_input.Goals as goal

pub returns-in-Ok-clause-within : goal.returns-in-Ok-clause-within
returns-in-Ok-clause-within g c =
    let bounds = c.bounds.inside in
    rw (← c.bounds.view_is) (series_within (record { last_end = bounds.last_end; from = bounds.from; upto = bounds.upto }) c.deref.result.now c.in-Ok.rows c.in-Ok.ensures)
