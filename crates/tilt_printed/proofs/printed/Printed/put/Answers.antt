use Rattle.std.proofs.lemmas.Result.{err_from_is_err_and}
use Rattle.tilt_printed.proofs.Printing.{prints-unflushed}
use Rattle.tilt_printed.proofs.Seen.{see_part}
use Rattle.tilt_printed.specs.Left.{left_of}
use Rattle.tilt_printed.specs.Show.{shown_of}
use Rattle.tilt_printed.proofs.printed.Printed.put.Goals as goal

pub returns-in_err-put_all-clause-seen : goal.returns-in_err-put_all-clause-seen
returns-in_err-put_all-clause-seen g c =
    let p = err_from_is_err_and c.from_residual.result c.from_residual.ensures.1 in
    rw (p.1, p.2) c.in_err-put_all.ensures.seen

pub returns-in_err-flush-clause-prints : goal.returns-in_err-flush-clause-prints
returns-in_err-flush-clause-prints g c =
    let p = err_from_is_err_and c.from_residual-in_err-flush.result c.from_residual-in_err-flush.ensures.1 in
    prints-unflushed _ _ _ _ c.args.out.now c.put_all.new.out c.flush.new.self _ (tt {0}) p.0 c.from_residual-in_err-flush.result p.1 c.in_ok-put_all.ensures.prints
    c.in_err-flush.ensures.written c.in_err-flush.ensures.cause.kept c.in_err-flush.ensures.cause.rose

pub returns-in_err-flush-clause-seen : goal.returns-in_err-flush-clause-seen
returns-in_err-flush-clause-seen g c =
    let p = err_from_is_err_and c.from_residual-in_err-flush.result c.from_residual-in_err-flush.ensures.1 in
    rw (p.1, p.2) (see_part (left_of g.O.Sink.tells g.O.Sink.written c.args.out.now c.put_all.new.out _ _ _ c.args.watchers.now c.put_all.new.watchers) _
    (shown_of c.args.self) c.in_err-flush.ensures.written c.in_ok-put_all.ensures.seen)
