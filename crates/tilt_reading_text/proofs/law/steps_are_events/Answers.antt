use Rattle.tilt_reading_text.proofs.Saying.{says-alike}
use Rattle.tilt_reading_text.specs.Said.{first_state}
use Rattle.tilt_reading_text.proofs.law.steps_are_events.Goals as goal

pub returns-clause-feed : goal.returns-clause-feed
returns-clause-feed c = λ form options lines. (says-alike form lines (first_state options)).feed

pub returns-clause-kept : goal.returns-clause-kept
returns-clause-kept c = λ form options lines. (says-alike form lines (first_state options)).kept
