use Rattle.std.proofs.Common.{◌∙◌, FitsSigned, ap, length, refl, rules, sym, w64}
use Rattle.std.proofs.lemmas.Int.{to_z-of_z}
use Rattle.tilt_checkpoint.specs.Decided.{decided, frame_of}
use Rattle.tilt_session.proofs.Lists.{early-counted}
use Rattle.tilt_session.proofs.Sessions.{first-is, first-left, passed-within}
use Rattle.tilt_session.specs.declared.cut.Cut.TheVariants.{Upto}
use Rattle.tilt_session.proofs.first_session.start.Goals as goal

pub keep-requires-clause-cuts : goal.keep-requires-clause-cuts
keep-requires-clause-cuts c =
    ap length c.each.ensures.value ∙ early-counted c.args.upto.each c.args.rows.items c.requires.rows.early ∙ sym (ap length c.in_ok-handed.ensures.rows)

pub run_on-requires-clause-within : goal.run_on-requires-clause-within
run_on-requires-clause-within c =
    let last : FitsSigned w64 c.decided-last.result = search rules in
    let from : FitsSigned w64 c.new-frame.result.start = search rules in
    let cut : FitsSigned w64 c.least-cut.result = search rules in
    let to_is = to_z-of_z w64 c.least-cut.result cut ∙ c.least-cut.ensures.value in
    passed-within c.args.accepted.now.core c.new-frame.result (Upto c.args.upto) _ c.decided-last.result _
    (c.new-frame.ensures.frame ∙ ap frame_of c.core.ensures.value) (to_z-of_z w64 c.new-frame.result.start from)
    (c.decided-last.ensures ∙ ap (decided c.new-frame.result) to_is) (to_z-of_z w64 c.decided-last.result last)

pub new-requires : goal.new-requires
new-requires c =
    let last : FitsSigned w64 c.decided-last.result = search rules in
    let from : FitsSigned w64 c.new-frame.result.start = search rules in
    let first : FitsSigned w64 c.first_kept.result = search rules in
    let cut : FitsSigned w64 c.least-cut.result = search rules in
    let to_is = to_z-of_z w64 c.least-cut.result cut ∙ c.least-cut.ensures.value in
    first-is c.args.query c.args.accepted.now.core c.new-frame.result c.args.rows.items c.in_ok-handed.handed.rows.items c.in_ok-handed.handed.rows.items
    c.in_ok-handed.handed.ends.items c.in_ok-list.list c.close-closed.result.open_start c.in_ok-series.series.items c.args.upto c.each.result.now
    c.decided-last.result c.first_kept.result _ _ _ _ c.requires.core (c.new-frame.ensures.frame ∙ ap frame_of c.core.ensures.value)
    c.in_ok-handed.ensures.ends c.in_ok-handed.ensures.rows refl c.each.ensures.value to_is (to_z-of_z w64 c.decided-last.result last)
    (to_z-of_z w64 c.new-frame.result.start from)
    (to_z-of_z w64 c.first_kept.result first) c.decided-last.ensures c.first_kept.ensures c.in_ok-list.ensures c.close-closed.ensures.begun
    c.in_ok-series.ensures.kept c.args.accepted.now.margins c.requires.query c.core.ensures.kept.near c.requires.cuts c.new-frame.ensures.bounds c.requires.rows
    c.in_ok-series.ensures.in_order c.in_ok-series.ensures.cells

pub returns-clause-left : goal.returns-clause-left
returns-clause-left c =
    let last : FitsSigned w64 c.decided-last.result = search rules in
    let from : FitsSigned w64 c.new-frame.result.start = search rules in
    let first : FitsSigned w64 c.first_kept.result = search rules in
    let cut : FitsSigned w64 c.least-cut.result = search rules in
    let to_is = to_z-of_z w64 c.least-cut.result cut ∙ c.least-cut.ensures.value in
    c.new.ensures.value
    ∙ first-left c.args.query c.args.accepted.now.core c.new-frame.result c.args.rows.items c.in_ok-handed.handed.rows.items c.in_ok-handed.handed.rows.items
    c.in_ok-handed.handed.ends.items c.in_ok-list.list c.close-closed.result.open_start c.in_ok-series.series.items c.args.upto c.each.result.now
    c.decided-last.result c.first_kept.result _ _ _ _ c.requires.core (c.new-frame.ensures.frame ∙ ap frame_of c.core.ensures.value)
    c.in_ok-handed.ensures.ends c.in_ok-handed.ensures.rows refl c.each.ensures.value to_is (to_z-of_z w64 c.decided-last.result last)
    (to_z-of_z w64 c.new-frame.result.start from)
    (to_z-of_z w64 c.first_kept.result first) c.decided-last.ensures c.first_kept.ensures c.in_ok-list.ensures c.close-closed.ensures.begun
    c.in_ok-series.ensures.kept
