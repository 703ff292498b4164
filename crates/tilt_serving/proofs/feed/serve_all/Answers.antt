use Rattle.std.proofs.Common.{◌∙◌, ap, refl, Err}
use Rattle.std.proofs.lemmas.Result.{err_from_is_err_and}
use Rattle.tilt_serving.proofs.Feeding.{served-halted}
use Rattle.tilt_serving.specs.declared.halt.Halt.TheVariants as halt
use Rattle.tilt_serving.proofs.feed.serve_all.Goals as goal

pub loop-init : goal.loop-init
loop-init g c = record { takes = c.requires.lines; sound = c.requires.sound; keeps = λ keeps. keeps; of = λ of start old reports laws going. going }

pub serve_more-requires-clause-lines : goal.serve_more-requires-clause-lines
serve_more-requires-clause-lines g c = c.loop.invariant.takes

pub serve_more-requires-clause-sound : goal.serve_more-requires-clause-sound
serve_more-requires-clause-sound g c = c.loop.invariant.sound

pub returns-in_err-serve_more-clause-served : goal.returns-in_err-serve_more-clause-served
returns-in_err-serve_more-clause-served g c = λ of start old reports laws going.
    let p = err_from_is_err_and c.from_residual.result c.from_residual.ensures.1 in
    rw (p.1 ∙ ap Err p.2) (c.in_err-serve_more.ensures.stepped of start old reports laws (c.loop.invariant.of of start old reports laws going))

pub returns-in-Ended-clause-served : goal.returns-in-Ended-clause-served
returns-in-Ended-clause-served g c = λ of start old reports laws going.
    rw c.in-Ended.is at (c.in_ok-serve_more.ensures.stepped of start old reports laws (c.loop.invariant.of of start old reports laws going))

pub loop-preserved : goal.loop-preserved
loop-preserved g c = record {
  takes = c.serve_more.ensures.takes;
  sound = c.in_ok-serve_more.ensures.sound;
  keeps = λ keeps. c.serve_more.ensures.keeps (c.loop.invariant.keeps keeps);
  of = λ of start old reports laws going.
      rw c.in-More.is at (c.in_ok-serve_more.ensures.stepped of start old reports laws (c.loop.invariant.of of start old reports laws going));
}

pub returns-clause-served : goal.returns-clause-served
returns-clause-served g c = λ of start old reports laws going.
    let here = c.loop.invariant.of of start old reports laws going in
    record {
      served = served-halted (g.R.FeedRun.means of) start _ _ _ _ old reports here.bytes here.moments _ c.loop.err halt.OutOfMemory _ refl refl (λ e. absurd (cc e))
          (λ e. absurd (cc e)) here.serving;
      is = tt;
    }

pub returns-in_err-serve_more-clause-keeps : goal.returns-in_err-serve_more-clause-keeps
returns-in_err-serve_more-clause-keeps g c = λ keeps. c.serve_more.ensures.keeps (c.loop.invariant.keeps keeps)

pub returns-in-Ended-clause-keeps : goal.returns-in-Ended-clause-keeps
returns-in-Ended-clause-keeps g c = λ keeps. c.serve_more.ensures.keeps (c.loop.invariant.keeps keeps)

pub returns-clause-keeps : goal.returns-clause-keeps
returns-clause-keeps g c = c.loop.invariant.keeps

pub returns-clause-takes : goal.returns-clause-takes
returns-clause-takes g c = c.loop.invariant.takes
