use Rattle.std.proofs.Common.{ap, length, length-append, arith}
use Rattle.tilt_feed_text.proofs.Splitting.{are-ended}
use Rattle.tilt_feed_text.specs.Split.{ended, unfinished}
use Rattle.tilt_live_folder.proofs.tail.split_lines.Goals as goal

pub slice_bounds-result-count : goal.slice_bounds-result-count
slice_bounds-result-count c =
    let bytes = c.args.bytes.now in
    let all = ap length (are-ended bytes).parts in
    let both = length-append (ended bytes) (unfinished bytes) in
    rw c.after_lines-tail.ensures (omega (arith, all, both))
