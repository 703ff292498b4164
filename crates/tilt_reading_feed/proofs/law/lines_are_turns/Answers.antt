use Rattle.tilt_reading_feed.proofs.Lines.{read-has}
use Rattle.tilt_reading_feed.proofs.Whole.{all-taken}
use Rattle.tilt_reading_feed.proofs.law.lines_are_turns.Goals as goal

pub returns-clause-kept : goal.returns-clause-kept
returns-clause-kept c options lines input o at = (read-has options lines input o at).input

pub returns-clause-updates : goal.returns-clause-updates
returns-clause-updates c options lines input o at = (read-has options lines input o at).updates

pub returns-clause-readings : goal.returns-clause-readings
returns-clause-readings c options lines input o at = all-taken options lines input o at
