-- What is left has the same bytes after its last LF.
use Rattle.std.proofs.Common.{◌≡◌, length}
use Rattle.tilt_feed_text.specs.Split.{unfinished}
use Rattle.tilt_live_folder.proofs.tail.after_lines.Given as goal

abbrev pub invariant-loop-after : goal.invariant-loop-after
invariant-loop-after l = unfinished l.fn.bytes ≡ unfinished l.rest

abbrev pub decreases-loop-after : goal.decreases-loop-after
decreases-loop-after l = length l.rest
