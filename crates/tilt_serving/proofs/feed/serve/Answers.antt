use Rattle.std.proofs.Common.{◌∙◌, ap, Err, refl}
use Rattle.std.proofs.lemmas.Result.{err_from_is_err_and}
use Rattle.tilt_serving.proofs.Feeding.{served-halted}
use Rattle.tilt_serving.proofs.Flushing.{flushed-on, served-flushed}
use Rattle.tilt_serving.specs.declared.halt.Halt.TheVariants as halt
use Rattle.tilt_serving.proofs.feed.serve.Goals as goal

pub returns-in_err-room-clause-served : goal.returns-in_err-room-clause-served
returns-in_err-room-clause-served g c = λ of start old reports laws going.
    let p = err_from_is_err_and c.from_residual.result c.from_residual.ensures.1 in
    rw (p.1 ∙ ap Err p.2) (record {
      served = served-halted (g.R.FeedRun.means of) start _ _ _ _ old reports going.bytes going.moments _ c.args.err.now halt.OutOfMemory _ refl refl (λ e. absurd (cc e))
          (λ e. absurd (cc e)) going.serving;
      is = tt;
    })

pub returns-clause-served : goal.returns-clause-served
returns-clause-served g c = λ of start old reports laws going.
    rw c.end_with.ensures (served-flushed (g.R.FeedRun.means of) start _ _ _ _ _ _ _ _ _ c.flush-flushed.ensures.keeps c.flush-flushed.ensures.cause.kept
    c.flush-flushed.ensures.reads (g.R.FeedRun.is c.serve_all-end.new.run of) c.serve_all-end.result c.flush-flushed.result c.flush-flushed.ensures.cause.rose
    (c.serve_all-end.ensures.served of start old reports laws going))

pub returns-clause-handed_on : goal.returns-clause-handed_on
returns-clause-handed_on g c = rw c.end_with.ensures (flushed-on c.serve_all-end.result c.flush-flushed.result _ c.flush-flushed.ensures.handed_on)
