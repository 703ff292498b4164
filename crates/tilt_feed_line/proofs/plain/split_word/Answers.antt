use Rattle.tilt_feed_line.proofs.Words.{split_at_comma}
use Rattle.tilt_feed_line.proofs.plain.split_word.Goals as goal

pub returns : goal.returns
returns c = split_at_comma c.args.bytes.now c.until.result c.until.ensures
