use Rattle.std.proofs.Common.{◌≡◌, ◌∙◌, [], ap, refl, sym, Err}
use Rattle.std.proofs.lemmas.Result.{err_from_is_err_and}
use Rattle.tilt_counting.proofs.Counted.{counting-ended, counting-first}
use Rattle.tilt_counting.specs.Counting.{Counted, IsCounting}
use Rattle.tilt_live_app.proofs.Watching.{adds-none, counting-goes, starts-first, starts-only}
use Rattle.tilt_live_app.specs.Counting.{meaning_with}
use Rattle.tilt_live_app.specs.Resumed.{first_start}
use Rattle.tilt_live_app.specs.declared.counting.Counting.TheVariants.{By}
use Rattle.tilt_live_run.proofs.Feeding.{feed-adds, feed-lost, goes_by_bytes}
use Rattle.tilt_live_run.specs.Feeds.{IsRunAt, QueryRun, live_meaning}
use Rattle.tilt_live_run.specs.Output.{first_news}
use Rattle.tilt_serving.proofs.Feeding.{going-begun, served-none}
use Rattle.tilt_serving.specs.declared.stop.Stop.TheVariants.{OutOfMemory}
use Rattle.tilt_serving.specs.Meaning.{FeedMeaning}
use Rattle.tilt_live_app.proofs.serve.serve_counting.Goals as goal

abbrev means : QueryRun → FeedMeaning
means of = live_meaning of.accepted.core of.options

pub returns-in_err-watch-clause-served : goal.returns-in_err-watch-clause-served
returns-in_err-watch-clause-served g c = λ start at.
    let begin = c.args.begin in
    let p = err_from_is_err_and c.from_residual.result c.from_residual.ensures.1 in
    rw (p.1 ∙ ap Err p.2) (served-none (meaning_with begin.accepted.core begin.options (By c.args.watch)) start _ _ _ _ _ _ c.args.err.now OutOfMemory _ refl refl
    (counting-goes begin.accepted.core begin.options (By c.args.watch)) (adds-none _ _ start.head))

pub returns-in_err-run-clause-served : goal.returns-in_err-run-clause-served
returns-in_err-run-clause-served g c = λ start at.
    let begin = c.args.begin in
    let why = c.in_err-run.field-0.0 in
    let p = err_from_is_err_and c.from_residual-in_err-run.result c.from_residual-in_err-run.ensures.1 in
    rw (p.1 ∙ ap Err p.2) (served-none (meaning_with begin.accepted.core begin.options (By c.args.watch)) start _ _ _ _ _ _ c.args.err.now _ _ refl
    (feed-lost why c.in_err-run.ensures.no_bad_line) (counting-goes begin.accepted.core begin.options (By c.args.watch))
    (feed-adds _ _ _ start.head (Err why) (c.in_err-run.ensures.adds start at)))

pub returns-in_err-serve-clause-served : goal.returns-in_err-serve-clause-served
returns-in_err-serve-clause-served g c = λ start at.
    let begin = c.args.begin in
    let watch = c.args.watch in
    let first = first_start begin.accepted.core begin.options in
    let at_first = starts-first begin.options begin.accepted.core begin.from c.requires.first.1 in
    let head = first_news watch.options.display watch.accepted.core in
    let of : QueryRun = record { accepted = begin.accepted; options = begin.options } in
    let watched : QueryRun = record { accepted = watch.accepted; options = watch.options } in
    let both : Counted QueryRun QueryRun = record { run = of; watch = watched; head = head } in
    let laws = counting-goes begin.accepted.core begin.options (By watch) in
    let is = counting-first IsRunAt IsRunAt means means c.new-both.result of watched head (rw c.new-both.ensures.run (c.in_ok-run.ensures.is first at_first))
    (rw c.new-both.ensures.watch c.in_ok-watch.ensures.is) (rw (c.deref.ensures.value ∙ c.in_ok-watch.ensures.head) at c.new-both.ensures.lines)
    (goes_by_bytes watch.accepted.core watch.options) in
    let going = going-begun (meaning_with begin.accepted.core begin.options (By watch)) (IsCounting IsRunAt IsRunAt means means c.new-both.result both) first
    _ _ _ _ _ _ c.args.err.now _ laws is (feed-adds _ _ _ first.head _ (c.in_ok-run.ensures.adds first at_first)) in
    let p = err_from_is_err_and c.from_residual-in_err-serve.result c.from_residual-in_err-serve.ensures.1 in
    rw (starts-only begin.options begin.accepted.core begin.from start c.requires.first.1 at, p.1 ∙ ap Err p.2)
    (c.in_err-serve.ensures.served both first _ _ laws going).served

pub returns-in_err-serve-clause-handed_on : goal.returns-in_err-serve-clause-handed_on
returns-in_err-serve-clause-handed_on g c =
    let p = err_from_is_err_and c.from_residual-in_err-serve.result c.from_residual-in_err-serve.ensures.1 in
    rw (p.1 ∙ ap Err p.2) c.in_err-serve.ensures.handed_on

pub returns-clause-served : goal.returns-clause-served
returns-clause-served g c = λ start at.
    let begin = c.args.begin in
    let watch = c.args.watch in
    let first = first_start begin.accepted.core begin.options in
    let at_first = starts-first begin.options begin.accepted.core begin.from c.requires.first.1 in
    let head = first_news watch.options.display watch.accepted.core in
    let of : QueryRun = record { accepted = begin.accepted; options = begin.options } in
    let watched : QueryRun = record { accepted = watch.accepted; options = watch.options } in
    let both : Counted QueryRun QueryRun = record { run = of; watch = watched; head = head } in
    let laws = counting-goes begin.accepted.core begin.options (By watch) in
    let is = counting-first IsRunAt IsRunAt means means c.new-both.result of watched head (rw c.new-both.ensures.run (c.in_ok-run.ensures.is first at_first))
    (rw c.new-both.ensures.watch c.in_ok-watch.ensures.is) (rw (c.deref.ensures.value ∙ c.in_ok-watch.ensures.head) at c.new-both.ensures.lines)
    (goes_by_bytes watch.accepted.core watch.options) in
    let going = going-begun (meaning_with begin.accepted.core begin.options (By watch)) (IsCounting IsRunAt IsRunAt means means c.new-both.result both) first
    _ _ _ _ _ _ c.args.err.now _ laws is (feed-adds _ _ _ first.head _ (c.in_ok-run.ensures.adds first at_first)) in
    rw (starts-only begin.options begin.accepted.core begin.from start c.requires.first.1 at)
    (counting-ended IsRunAt IsRunAt means means _ both first _ _ _ _ _ _ _ _ (c.in_ok-serve.ensures.served both first _ _ laws going))
