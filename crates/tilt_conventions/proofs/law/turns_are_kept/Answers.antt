use Rattle.tilt_conventions.proofs.Converting.{kept-of}
use Rattle.tilt_conventions.proofs.law.turns_are_kept.Goals as goal

pub returns-clause-mark : goal.returns-clause-mark
returns-clause-mark c options turns holds = (kept-of options turns holds).mark

pub returns-clause-latest : goal.returns-clause-latest
returns-clause-latest c options turns holds = (kept-of options turns holds).latest

pub returns-clause-skipped : goal.returns-clause-skipped
returns-clause-skipped c options turns holds = (kept-of options turns holds).counts.is
