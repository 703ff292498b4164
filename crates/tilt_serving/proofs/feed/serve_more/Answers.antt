use Rattle.std.proofs.Common.{◌∙◌, ◌++◌, ℕ, List, take, ap, append_assoc, refl, subst, Err, arith}
use Rattle.std.proofs.lemmas.Result.{err_from_is_err_and}
use Rattle.tilt_outside.proofs.Puts.{rose_from}
use Rattle.tilt_serving.proofs.Feeding.{read-failed, served-ended, served-halted, served-last, served-stopped, serving-kept, serving-more, when-done, when-failed}
use Rattle.tilt_serving.specs.declared.halt.Halt.TheVariants as halt
use Rattle.tilt_serving.proofs.feed.serve_more.Goals as goal

pub returns-then-is_err-clause-stepped : goal.returns-then-is_err-clause-stepped
returns-then-is_err-clause-stepped g c = λ of start old reports laws going.
    let flushed = serving-kept (g.R.FeedRun.means of) start _ _ _ _ old reports going.bytes going.moments _ _ c.args.err.now c.flush.ensures.keeps c.flush.ensures.cause.kept
    (omega (arith, c.flush.ensures.reads)) going.serving in
    record {
      served = served-halted (g.R.FeedRun.means of) start _ _ _ _ old reports going.bytes going.moments _ c.args.err.now halt.WriteFault _ refl refl (λ e. absurd (cc e))
          (λ _. rose_from old.write_faults (g.P.Port.transcript c.args.port.now).write_faults (g.P.Port.transcript c.flush.new.self).write_faults going.serving.writes_kept
          (when-failed c.flush.result _ c.if-is_err.ensures.value c.flush.ensures.cause.rose)) flushed;
      is = tt;
    }

pub returns-in_default-clause-stepped : goal.returns-in_default-clause-stepped
returns-in_default-clause-stepped g c = λ of start old reports laws going.
    let flushed = serving-kept (g.R.FeedRun.means of) start _ _ _ _ old reports going.bytes going.moments _ _ c.args.err.now c.flush.ensures.keeps c.flush.ensures.cause.kept
    (omega (arith, c.flush.ensures.reads)) going.serving in
    let unread = serving-kept (g.R.FeedRun.means of) start _ _ _ _ old reports going.bytes going.moments _ _ c.args.err.now
    (λ told. read-failed _ _ _ _ (c.in_default.ensures.read told)) (omega (arith, c.in_default.ensures.writes)) c.in_default.ensures.cause.kept flushed in
    record {
      served = served-halted (g.R.FeedRun.means of) start _ _ _ _ old reports going.bytes going.moments _ c.args.err.now halt.ReadFault _ refl refl
          (λ _. rose_from old.read_faults (g.P.Port.transcript c.flush.new.self).read_faults (g.P.Port.transcript c.read.new.self).read_faults flushed.reads_kept
          c.in_default.ensures.cause.rose) (λ e. absurd (cc e)) unread;
      is = tt;
    }

pub returns-in_err-end_feed-clause-stepped : goal.returns-in_err-end_feed-clause-stepped
returns-in_err-end_feed-clause-stepped g c = λ of start old reports laws going.
    let flushed = serving-kept (g.R.FeedRun.means of) start _ _ _ _ old reports going.bytes going.moments _ _ c.args.err.now c.flush.ensures.keeps c.flush.ensures.cause.kept
    (omega (arith, c.flush.ensures.reads)) going.serving in
    let p = err_from_is_err_and c.from_residual.result c.from_residual.ensures.1 in
    rw (p.1 ∙ ap Err p.2) (record {
      served = served-last (g.R.FeedRun.means of) start _ _ _ _ old reports going.bytes going.moments _ _ c.read.new.room c.args.err.now
          (when-done c.flush.result _ c.if-is_err.ensures.value c.flush.ensures.handed_on) c.read.ensures.cause.kept c.read.ensures.writes flushed
          c.end_feed.new.err (rw c.if-count-eq0.true at c.in-Ok.ensures.read) (c.in_err-end_feed.ensures.reports of (start.before ++ going.bytes) going.is)
          c.in_err-end_feed.field-0.0 _ refl c.in_err-end_feed.ensures.unlost (c.in_err-end_feed.ensures.stops of (start.before ++ going.bytes) going.is);
      is = tt;
    })

pub returns-then-count-eq0-clause-stepped : goal.returns-then-count-eq0-clause-stepped
returns-then-count-eq0-clause-stepped g c = λ of start old reports laws going.
    let flushed = serving-kept (g.R.FeedRun.means of) start _ _ _ _ old reports going.bytes going.moments _ _ c.args.err.now c.flush.ensures.keeps c.flush.ensures.cause.kept
    (omega (arith, c.flush.ensures.reads)) going.serving in
    served-ended (g.R.FeedRun.means of) start _ _ _ _ old reports going.bytes going.moments _ _ c.read.new.room c.args.err.now
    (when-done c.flush.result _ c.if-is_err.ensures.value c.flush.ensures.handed_on) c.read.ensures.cause.kept c.read.ensures.writes flushed
    c.end_feed.new.err (rw c.if-count-eq0.true at c.in-Ok.ensures.read) (c.in_ok-end_feed.ensures.reports of (start.before ++ going.bytes) going.is)
    (g.R.FeedRun.is c.args.run.now of) (c.in_ok-end_feed.ensures.stops of (start.before ++ going.bytes) going.is) going.is

pub returns-in_err-feed-clause-stepped : goal.returns-in_err-feed-clause-stepped
returns-in_err-feed-clause-stepped g c = λ of start old reports laws going.
    let flushed = serving-kept (g.R.FeedRun.means of) start _ _ _ _ old reports going.bytes going.moments _ _ c.args.err.now c.flush.ensures.keeps c.flush.ensures.cause.kept
    (omega (arith, c.flush.ensures.reads)) going.serving in
    let p = err_from_is_err_and c.from_residual-in_err-feed.result c.from_residual-in_err-feed.ensures.1 in
    rw (p.1 ∙ ap Err p.2) (record {
      served = served-stopped (g.R.FeedRun.means of) start _ _ _ _ old reports going.bytes going.moments _ _ c.read.new.room c.args.err.now
          (when-done c.flush.result _ c.if-is_err.ensures.value c.flush.ensures.handed_on) c.read.ensures.cause.kept c.read.ensures.writes flushed
          laws c.in-Ok.count _ c.feed.new.err c.in-Ok.ensures.read c.in_err-feed.field-0.0 _ refl
          (c.in_err-feed.ensures.adds of (start.before ++ going.bytes) going.is)
          (c.in_err-feed.ensures.reports of (start.before ++ going.bytes) going.is)
          (c.in_err-feed.ensures.stops of (start.before ++ going.bytes) going.is);
      is = tt;
    })

pub returns-clause-stepped : goal.returns-clause-stepped
returns-clause-stepped g c = λ of start old reports laws going.
    let flushed = serving-kept (g.R.FeedRun.means of) start _ _ _ _ old reports going.bytes going.moments _ _ c.args.err.now c.flush.ensures.keeps c.flush.ensures.cause.kept
    (omega (arith, c.flush.ensures.reads)) going.serving in
    record {
      bytes = going.bytes ++ take c.in-Ok.count c.read.new.room;
      moments = _;
      is = subst (λ (all : List ℕ). g.R.FeedRun.is c.feed.new.self of all) (append_assoc start.before going.bytes (take c.in-Ok.count c.read.new.room))
          (c.in_ok-feed.ensures.goes_on of (start.before ++ going.bytes) going.is);
      serving = serving-more (g.R.FeedRun.means of) start _ _ _ _ old reports going.bytes going.moments _ _ c.read.new.room c.args.err.now
          (when-done c.flush.result _ c.if-is_err.ensures.value c.flush.ensures.handed_on) c.read.ensures.cause.kept c.read.ensures.writes flushed
          laws c.in-Ok.count _ c.feed.new.err c.in-Ok.ensures.read
          (c.in_ok-feed.ensures.adds of (start.before ++ going.bytes) going.is)
          (c.in_ok-feed.ensures.reports of (start.before ++ going.bytes) going.is)
          (c.in_ok-feed.ensures.stops of (start.before ++ going.bytes) going.is refl);
    }
