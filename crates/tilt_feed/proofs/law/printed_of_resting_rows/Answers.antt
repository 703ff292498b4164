use Rattle.tilt_feed.proofs.AllAtRest.{fed-begun_at_rest, fed-printed_at_rest}
use Rattle.tilt_feed.proofs.law.printed_of_resting_rows.Goals as goal

pub returns-clause-printed : goal.returns-clause-printed
returns-clause-printed c = fed-printed_at_rest

pub returns-clause-begun : goal.returns-clause-begun
returns-clause-begun c = fed-begun_at_rest
