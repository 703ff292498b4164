use Rattle.std.specs.List.{flat_map}
use Rattle.tilt_outside.proofs.Puts.{puts-then, puts-short}
use Rattle.tilt_printed.specs.Reached.{reached_line}
use Rattle.tilt_stream.specs.Text.{text_of}
use Rattle.tilt_printed.proofs.whole_text.put_corrected.Goals as goal

pub returns-in_err-put_text : goal.returns-in_err-put_text
returns-in_err-put_text g c =
    puts-short _ _ _ _ g.met.O.Sink.takes_fewer _ _ (text_of c.args.list.now) (flat_map reached_line c.args.reached.now) _ c.from_residual.result c.from_residual.ensures.0 c.in_err-put_text.ensures

pub returns : goal.returns
returns g c =
    puts-then _ _ _ _ _ _ _ (text_of c.args.list.now) (flat_map reached_line c.args.reached.now) _ c.in_ok-put_text.ensures c.put_reached.ensures
