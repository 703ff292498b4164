use Rattle.std.proofs.Common.{◌≡◌, ◌∙◌, ℤ, ◌≤ℤ◌, ap, of_z, rules, subst, sym, to_z, w64, Err}
use Rattle.std.proofs.lemmas.Result.{err_from_is_err_and}
use Rattle.tilt_input_state.specs.Resume.{first_read}
use Rattle.tilt_live.specs.Lives.{tick_of_live}
use Rattle.tilt_live_run.proofs.Adding.{adds-again, adds-last, adds-value}
use Rattle.tilt_live_run.proofs.Upto.{read-rises, tick-rises, tick-shown}
use Rattle.tilt_live_run.specs.KeptRows.{KeepsRows}
use Rattle.tilt_live_run.specs.declared.state_rows.StateRows.{StateRows}
use Rattle.tilt_live_run.specs.declared.stop.Stop.TheVariants.{OutOfMemory}
use Rattle.tilt_live_run.proofs.line_run.LineRun.show.Goals as goal

pub returns-in_err-write_news-clause-adds : goal.returns-in_err-write_news-clause-adds
returns-in_err-write_news-clause-adds g c = λ accepted feed given is.
    let p = err_from_is_err_and c.from_residual.result c.from_residual.ensures.1 in
    adds-again _ _ _ _ c.in_err-write_news.field-0.0 c.from_residual.result (p.1 ∙ ap Err p.2) (c.in_err-write_news.ensures.adds accepted feed given is)

pub returns-in_err-forget-clause-adds : goal.returns-in_err-forget-clause-adds
returns-in_err-forget-clause-adds g c = λ accepted feed given is.
    let p = err_from_is_err_and c.from_residual-in_err-forget.result c.from_residual-in_err-forget.ensures.1 in
    adds-last _ _ _ _ OutOfMemory _ c.from_residual-in_err-forget.result (p.1 ∙ ap Err p.2) (λ e. cc e) (λ e. cc e)
    (c.in_ok-write_news.ensures.adds accepted feed given is)

pub returns-clause-adds : goal.returns-clause-adds
returns-clause-adds g c = λ accepted feed given is. adds-value _ _ _ _ _ _ (c.in_ok-write_news.ensures.adds accepted feed given is)

pub returns-clause-rows : goal.returns-clause-rows
returns-clause-rows g c = λ accepted feed given is keeps.
    let core = accepted.core in
    let live = c.in_ok-write_news.ensures.goes_on accepted feed given is in
    let later = c.write_news.new.self.live in
    let tick = tick-shown later accepted feed live in
    let first = c.first_read.ensures.all accepted feed live ∙ ap (first_read core) (sym tick) in
    let low = read-rises core _ _ (tick-rises c.args.self.now.live later accepted feed given is live) in
    let same : to_z w64 (of_z w64 c.first_read.result) ≡ c.first_read.result = search rules in
    let before = subst (λ (r : StateRows). KeepsRows r (first_read core (tick_of_live c.args.self.now.live)) feed) (sym c.write_news.ensures.rest.3) keeps in
    let up = subst (λ (t : ℤ). first_read core (tick_of_live c.args.self.now.live) ≤ℤ t) (sym first) low in
    subst (λ (t : ℤ). KeepsRows c.forget.new.self t feed) first
    ((rw same at c.in_ok-forget.ensures.rows) (first_read core (tick_of_live c.args.self.now.live)) feed up before)
