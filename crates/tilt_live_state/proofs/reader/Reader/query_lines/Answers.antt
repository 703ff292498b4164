use Rattle.tilt_checkpoint.proofs.Lines.{left_shorter}
use Rattle.tilt_live_state.proofs.reader.Reader.query_lines.Goals as goal

pub slice_bounds-text-count : goal.slice_bounds-text-count
slice_bounds-text-count c =
    rw (c.self-2.view_is, c.self.view_is) (left_shorter c.in_ok-count.count c.count.new.self c.pass_lines.new.self c.in_ok-pass_lines.ensures)
