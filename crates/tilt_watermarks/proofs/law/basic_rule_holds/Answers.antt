use Rattle.tilt_watermarks.proofs.BasicRule.{basic-edges, basic-events, fault-same}
use Rattle.tilt_watermarks.proofs.law.basic_rule_holds.Goals as goal

pub returns-clause-edges : goal.returns-clause-edges
returns-clause-edges c = basic-edges

pub returns-clause-events : goal.returns-clause-events
returns-clause-events c = basic-events

pub returns-clause-fault : goal.returns-clause-fault
returns-clause-fault c = fault-same
