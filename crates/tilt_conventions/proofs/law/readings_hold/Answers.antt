use Rattle.tilt_conventions.proofs.Converting.{cells-of, kept-of}
use Rattle.tilt_conventions.proofs.Telling.{never-ages}
use Rattle.tilt_conventions.proofs.law.readings_hold.Goals as goal

pub returns-clause-cells : goal.returns-clause-cells
returns-clause-cells c = cells-of

pub returns-clause-apart : goal.returns-clause-apart
returns-clause-apart c options turns holds = (kept-of options turns holds).apart

pub returns-clause-young : goal.returns-clause-young
returns-clause-young c = never-ages
