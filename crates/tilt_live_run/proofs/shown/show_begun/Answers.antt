use Rattle.std.proofs.Common.{◌∙◌, FitsSigned, w64, to_z-of_z, ap, refl, rules, Err, None, length}
use Rattle.std.proofs.lemmas.Result.{err_from_is_err_and}
use Rattle.tilt_feed.specs.Printed.{begun, printed}
use Rattle.tilt_live_run.proofs.Adding.{adds-fails, adds-none, adds-stopped, adds-write}
use Rattle.tilt_live_run.proofs.Beginning.{begun-none, begun-some}
use Rattle.tilt_live_run.specs.declared.stop.Stop.TheVariants.{OutOfMemory}
use Rattle.tilt_live_run.proofs.shown.show_begun.Goals as goal

pub returns-in_default-clause-shown : goal.returns-in_default-clause-shown
returns-in_default-clause-shown g c = λ accepted feed is.
    let found = rw c.in_default.is at (c.in_ok-start.ensures.begun accepted feed (length (printed accepted.core feed)) is) in
    rw (begun-none (begun accepted.core feed) (found.0 refl)) (adds-none _ _ None)

pub returns-in_default-clause-goes_on : goal.returns-in_default-clause-goes_on
returns-in_default-clause-goes_on g c = λ accepted feed is.
    let found = rw c.in_default.is at (c.in_ok-start.ensures.begun accepted feed (length (printed accepted.core feed)) is) in
    (rw (begun-none (begun accepted.core feed) (found.0 refl)) refl, found.1)

pub returns-in_err-write_news-clause-shown : goal.returns-in_err-write_news-clause-shown
returns-in_err-write_news-clause-shown g c = λ accepted feed is.
    let fits : FitsSigned w64 c.in-Some.start = search rules in
    let found = rw c.in-Some.is at (c.in_ok-start.ensures.begun accepted feed (length (printed accepted.core feed)) is) in
    let p = err_from_is_err_and c.from_residual-in_err-write_news.result c.from_residual-in_err-write_news.ensures.1 in
    rw (begun-some (begun accepted.core feed) c.in-Some.start c.in-Some.value (found.0 refl))
    (adds-fails _ _ _ _ _ c.from_residual-in_err-write_news.result (p.1 ∙ ap Err p.2) (rw (to_z-of_z fits) at c.in_err-write_news.ensures))

pub returns-clause-shown : goal.returns-clause-shown
returns-clause-shown g c = λ accepted feed is.
    let fits : FitsSigned w64 c.in-Some.start = search rules in
    let found = rw c.in-Some.is at (c.in_ok-start.ensures.begun accepted feed (length (printed accepted.core feed)) is) in
    rw (begun-some (begun accepted.core feed) c.in-Some.start c.in-Some.value (found.0 refl))
    (adds-write _ _ _ _ _ (rw (to_z-of_z fits) at c.in_ok-write_news.ensures))

pub returns-clause-goes_on : goal.returns-clause-goes_on
returns-clause-goes_on g c = λ accepted feed is.
    let fits : FitsSigned w64 c.in-Some.start = search rules in
    let found = rw c.in-Some.is at (c.in_ok-start.ensures.begun accepted feed (length (printed accepted.core feed)) is) in
    (rw (begun-some (begun accepted.core feed) c.in-Some.start c.in-Some.value (found.0 refl), to_z-of_z fits) refl, found.1)

pub returns-in_err-start-clause-shown : goal.returns-in_err-start-clause-shown
returns-in_err-start-clause-shown g c = λ accepted feed is.
    let p = err_from_is_err_and c.from_residual.result c.from_residual.ensures.1 in
    adds-stopped _ _ _ OutOfMemory c.from_residual.result (p.1 ∙ ap Err p.2) (λ e. cc e) (λ e. absurd (cc e))
