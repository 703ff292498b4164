use Rattle.tilt_reading_feed.proofs.Reading.{all-events, cut-now, rows-last, rows-now}
use Rattle.tilt_reading_feed.proofs.law.rows_are_those_of_lines.Goals as goal

pub returns-clause-allowed : goal.returns-clause-allowed
returns-clause-allowed c = all-events

pub returns-clause-rows : goal.returns-clause-rows
returns-clause-rows c = rows-now

pub returns-clause-cut : goal.returns-clause-cut
returns-clause-cut c = cut-now

pub returns-clause-end : goal.returns-clause-end
returns-clause-end c = rows-last
