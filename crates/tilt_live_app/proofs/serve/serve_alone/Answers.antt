use Rattle.std.proofs.Common.{◌∙◌, ap, refl, Err}
use Rattle.std.proofs.lemmas.Result.{err_from_is_err_and}
use Rattle.tilt_live_run.proofs.Feeding.{feed-adds, feed-lost, goes_by_bytes}
use Rattle.tilt_live_run.specs.Feeds.{IsRunAt, QueryRun, live_meaning}
use Rattle.tilt_serving.proofs.Feeding.{going-begun, served-none}
use Rattle.tilt_live_app.proofs.serve.serve_alone.Goals as goal

pub returns-in_err-run-clause-served : goal.returns-in_err-run-clause-served
returns-in_err-run-clause-served g c = λ start at.
    let begin = c.args.begin in
    let why = c.in_err-run.field-0.0 in
    let p = err_from_is_err_and c.from_residual.result c.from_residual.ensures.1 in
    rw (p.1 ∙ ap Err p.2) (served-none (live_meaning begin.accepted.core begin.options) start _ _ _ _ _ _ c.args.err.now _ _ refl
    (feed-lost why c.in_err-run.ensures.no_bad_line) (goes_by_bytes begin.accepted.core begin.options)
    (feed-adds _ _ _ start.head (Err why) (c.in_err-run.ensures.adds start at)))

pub returns-in_err-serve-clause-served : goal.returns-in_err-serve-clause-served
returns-in_err-serve-clause-served g c = λ start at.
    let begin = c.args.begin in
    let of : QueryRun = record { accepted = begin.accepted; options = begin.options } in
    let p = err_from_is_err_and c.from_residual-in_err-serve.result c.from_residual-in_err-serve.ensures.1 in
    let going = going-begun (live_meaning begin.accepted.core begin.options) (IsRunAt _ of) start _ _ _ _ _ _ c.args.err.now _ (goes_by_bytes begin.accepted.core begin.options)
    (c.in_ok-run.ensures.is start at) (feed-adds _ _ _ start.head _ (c.in_ok-run.ensures.adds start at)) in
    rw (p.1 ∙ ap Err p.2) (c.in_err-serve.ensures.served of start _ _ (goes_by_bytes begin.accepted.core begin.options) going).served

pub returns-clause-served : goal.returns-clause-served
returns-clause-served g c = λ start at.
    let begin = c.args.begin in
    let of : QueryRun = record { accepted = begin.accepted; options = begin.options } in
    let going = going-begun (live_meaning begin.accepted.core begin.options) (IsRunAt _ of) start _ _ _ _ _ _ c.args.err.now _ (goes_by_bytes begin.accepted.core begin.options)
    (c.in_ok-run.ensures.is start at) (feed-adds _ _ _ start.head _ (c.in_ok-run.ensures.adds start at)) in
    c.in_ok-serve.ensures.served of start _ _ (goes_by_bytes begin.accepted.core begin.options) going
