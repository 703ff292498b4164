use Rattle.tilt_feed_line.proofs.Keyed.{key_before_line}
use Rattle.tilt_feed_line.proofs.law.keys_go_before_lines.Goals as goal

pub returns : goal.returns
returns c = key_before_line
