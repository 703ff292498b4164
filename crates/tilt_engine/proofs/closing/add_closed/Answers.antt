use Rattle.std.proofs.Common.{FitsSigned, to_z-of_z, w64, ◌≡◌, false, None, ap, append_assoc, subst, sym, ◌∙◌, rules}
use Rattle.tilt_engine.proofs.Closed.{alone, apart-on, closed-apart, joined-on, may-close, no_value-on, value-on}
use Rattle.tilt_feed.specs.Events.{closed_by, continues, update_fault}
use Rattle.tilt_feed.specs.declared.update.Update.{Update}
use Rattle.tilt_feed.specs.declared.update.Update.TheVariants.{Row}
use Rattle.tilt_engine.proofs.closing.add_closed.Goals as goal
use Rattle.tilt_engine.proofs.closing.add_closed.Goals.{In-Row, After-continues}

-- the row is allowed, and its times fit
row : (c : In-Row) → (update_fault false c.args.edge (Row c.in-Row.start c.in-Row.end c.in-Row.value) ≡ None) × FitsSigned w64 c.in-Row.start × FitsSigned w64 c.in-Row.end
row c = (subst (λ (u : Update). update_fault false c.args.edge u ≡ None) c.in-Row.is c.requires.allowed, search rules, search rules)

-- whether it continues the open row
test : (c : After-continues) → c.continues.result ≡ continues c.args.edge.open_row c.in-Row.start c.in-Row.value
test c = let r = row c.before in let start = r.1 in rw (to_z-of_z start) at c.continues.ensures

pub close-requires : goal.close-requires
close-requires c =
    let r = row (goal.at.close-requires c).In-Row in
    let end = r.2 in
    let joins = sym (test (goal.at.close-requires c).After-continues) ∙ c.if-continues.true in
    let on = joined-on c.args.edge c.in-Row.start c.in-Row.end c.in-Row.value r.0 joins in
    rw (to_z-of_z end) (may-close c.args.rows.now c.args.edge c.in-Row.end c.requires.order on.0 on.1)

pub close_before-requires-clause-may : goal.close_before-requires-clause-may
close_before-requires-clause-may c =
    let r = row (goal.at.close_before-requires-clause-may c).In-Row in
    let start = r.1 in
    let apart = sym (test (goal.at.close_before-requires-clause-may c).After-continues) ∙ c.if-continues.false in
    let it = apart-on c.args.edge c.in-Row.start c.in-Row.end c.in-Row.value r.0 apart in
    rw (to_z-of_z start) (may-close c.args.rows.now c.args.edge c.in-Row.start c.requires.order it.on it.high)

pub close_before-requires-clause-alone : goal.close_before-requires-clause-alone
close_before-requires-clause-alone c =
    let r = row (goal.at.close_before-requires-clause-alone c).In-Row in
    let start = r.1 in
    let apart = sym (test (goal.at.close_before-requires-clause-alone c).After-continues) ∙ c.if-continues.false in
    let it = apart-on c.args.edge c.in-Row.start c.in-Row.end c.in-Row.value r.0 apart in
    rw (to_z-of_z start) (λ none. alone c.args.rows.now c.args.edge c.in-Row.start c.requires.order it.on)

pub close-requires-in-Value : goal.close-requires-in-Value
close-requires-in-Value c =
    let fits : FitsSigned w64 c.in-Value.start = search rules in
    let allowed = subst (λ (u : Update). update_fault false c.args.edge u ≡ None) c.in-Value.is c.requires.allowed in
    let on = value-on c.args.edge c.in-Value.start c.in-Value.value allowed in
    rw (to_z-of_z fits) (may-close c.args.rows.now c.args.edge c.in-Value.start c.requires.order on.0 on.1)

pub close-requires-in-NoValue : goal.close-requires-in-NoValue
close-requires-in-NoValue c =
    let fits : FitsSigned w64 c.in-NoValue.start = search rules in
    let allowed = subst (λ (u : Update). update_fault false c.args.edge u ≡ None) c.in-NoValue.is c.requires.allowed in
    let on = no_value-on c.args.edge c.in-NoValue.start allowed in
    rw (to_z-of_z fits) (may-close c.args.rows.now c.args.edge c.in-NoValue.start c.requires.order on.0 on.1)

pub returns-else-continues-clause-ok : goal.returns-else-continues-clause-ok
returns-else-continues-clause-ok c =
    let r = row (goal.at.returns-else-continues-clause-ok c).In-Row in
    let start = r.1 in
    let end = r.2 in
    let apart = sym (test (goal.at.returns-else-continues-clause-ok c).After-continues) ∙ c.if-continues.false in
    let closed = ap (closed_by c.args.edge) c.in-Row.is ∙ closed-apart c.args.edge c.in-Row.start c.in-Row.end c.in-Row.value apart in
    rw closed (simp (to_z-of_z start, to_z-of_z end, append_assoc) at c.close_before.ensures.ok)
