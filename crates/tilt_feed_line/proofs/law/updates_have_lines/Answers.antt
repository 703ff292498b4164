use Rattle.tilt_feed_line.proofs.Spelled.{all_known_read, finish_read, update_read}
use Rattle.tilt_feed_line.proofs.law.updates_have_lines.Goals as goal

pub returns-clause-update : goal.returns-clause-update
returns-clause-update c = update_read

pub returns-clause-all_known : goal.returns-clause-all_known
returns-clause-all_known c = all_known_read

pub returns-clause-finish : goal.returns-clause-finish
returns-clause-finish c = finish_read
