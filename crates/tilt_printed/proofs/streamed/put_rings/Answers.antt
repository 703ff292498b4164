use Rattle.std.proofs.Common.{refl}
use Rattle.std.proofs.lemmas.Result.{err_from_is_err_and}
use Rattle.tilt_printed.proofs.Printing.{prints-cut, prints-failed, prints-then}
use Rattle.tilt_printed.specs.Rings.{rings_line}
use Rattle.tilt_code.specs.Run.{run_of}
use Rattle.tilt_pipe.specs.Rings.{most_ever}
use Rattle.tilt_stream.specs.Text.{text_of}
use Rattle.tilt_printed.proofs.streamed.put_rings.Goals as goal

pub returns-in_err-most : goal.returns-in_err-most
returns-in_err-most g c =
    let p = err_from_is_err_and c.from_residual.result c.from_residual.ensures.1 in
    rw (p.1, p.2) (prints-cut _ _ _ _ _ _ (text_of (run_of c.args.pipe.code c.args.pipe.inputs)) (rings_line (most_ever c.args.pipe.code c.args.pipe.inputs))
    c.in_err-most.field-0.0 _ refl c.in_err-most.ensures.prints)

pub returns-in_err-put_most : goal.returns-in_err-put_most
returns-in_err-put_most g c =
    prints-then _ _ _ _ _ _ _ (text_of (run_of c.args.pipe.code c.args.pipe.inputs)) (rings_line (most_ever c.args.pipe.code c.args.pipe.inputs)) _
    c.from_residual-in_err-put_most.result c.in_ok-most.ensures.prints
    (prints-failed _ _ _ _ _ _ (rings_line (most_ever c.args.pipe.code c.args.pipe.inputs)) _ c.from_residual-in_err-put_most.result
    c.from_residual-in_err-put_most.ensures.0 (rw c.in_ok-most.ensures.most at c.in_err-put_most.ensures))
