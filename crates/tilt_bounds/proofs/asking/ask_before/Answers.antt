use Rattle.std.proofs.Common.{◌≡◌, ◌∙◌, ◌+◌, ◌*◌, ◌^◌, suc, pos, length, Option, Some, set, sym, ap, arith}
use Rattle.std.proofs.lemmas.Int.{ints}
use Rattle.std.proofs.lemmas.List.{length-set}
use Rattle.tilt_core.specs.CoreTree.{Definition, tree_of}
use Rattle.tilt_core.specs.Needs.{Need, either, asked_by, asked_of, body_need}
use Rattle.tilt_bounds.specs.Margins.{need_at}
use Rattle.tilt_bounds.proofs.Steps.{length-needs, reads-more, asked-needs, either-none, within-greater, all_within-greater, within-asked, all_within-put_down}
use Rattle.tilt_bounds.proofs.asking.ask_before.Goals as goal

pub need_before-need-requires : goal.need_before-need-requires
need_before-need-requires c =
    let many = ap length c.requires.so_far ∙ length-needs (suc c.args.number) c.args.behind.now in
    omega (arith, many)

pub bounds-asked-number : goal.bounds-asked-number
bounds-asked-number c =
    let many = ap length c.requires.so_far ∙ length-needs (suc c.args.number) c.args.behind.now in
    omega (arith, many)

pub ask-requires-clause-reads : goal.ask-requires-clause-reads
ask-requires-clause-reads c =
    let many = ap length c.requires.so_far ∙ length-needs (suc c.args.number) c.args.behind.now in
    let body : tree_of c.def.inside.body ≡ c.args.def.now.body = ap (λ (d : Definition). d.body) c.def.view_is in
    rw (length-set c.args.asked.now c.args.number c.need_before-need.result, body)
    (reads-more c.args.number (length c.args.asked.now) c.args.def.now.body (omega (arith, many)) c.requires.definition.reads)

pub ask-requires-clause-near : goal.ask-requires-clause-near
ask-requires-clause-near c =
    let few = c.requires.few in
    let so_far = 2 ^ 65 * length c.args.behind.now in
    within-greater (pos (so_far + 2 ^ 41)) (pos (2 ^ 80)) (Some c.body_need.result) (omega (arith, ints))
    (within-asked so_far c.args.def.now c.args.behind.now (need_at c.args.asked.now c.args.number) c.need_before-need.result c.in-Some.need c.body_need.result
    c.requires.definition.grid (c.requires.bounded.each c.args.number) c.need_before-need.ensures c.in-Some.is c.body_need.ensures)

pub returns-in-Some-clause-needs : goal.returns-in-Some-clause-needs
returns-in-Some-clause-needs c =
    let old = c.args.asked.now in
    let number = c.args.number in
    let n = c.need_before-need.result in
    let many = length-set old number n in
    let need : body_need c.args.def.now c.in-Some.need ≡ c.body_need.result = sym c.body_need.ensures in
    let body : c.args.def.now.body ≡ tree_of c.def.inside.body = sym (ap (λ (d : Definition). d.body) c.def.view_is) in
    asked-needs number c.args.def.now c.args.behind.now old c.ask.new.asked n c.requires.definition.reads c.requires.so_far c.need_before-need.ensures
    (λ source low.
    c.ask.ensures.asks source (omega (arith, many))
    ∙ ap (either (need_at (set old number n) source)) (sym (ap (λ (m : Option Need). asked_of c.args.def.now m source) c.in-Some.is ∙ (λ i. asked_by (need i) (body i) source))))
    (c.ask.ensures.many ∙ many)

pub returns-in-Some-clause-still_bounded : goal.returns-in-Some-clause-still_bounded
returns-in-Some-clause-still_bounded c =
    let many = ap length c.requires.so_far ∙ length-needs (suc c.args.number) c.args.behind.now in
    let so_far = 2 ^ 65 * length c.args.behind.now in
    let limit = so_far + 2 ^ 41 in
    all_within-greater (pos (limit + 2 ^ 64)) (pos (2 ^ 65 * (1 + length c.args.behind.now))) c.ask.new.asked (omega (arith, ints))
    (c.ask.ensures.bounded limit
    (within-asked so_far c.args.def.now c.args.behind.now (need_at c.args.asked.now c.args.number) c.need_before-need.result c.in-Some.need c.body_need.result
    c.requires.definition.grid (c.requires.bounded.each c.args.number) c.need_before-need.ensures c.in-Some.is c.body_need.ensures)
    (all_within-put_down so_far (limit + 2 ^ 64) c.args.behind.now c.args.asked.now c.args.number c.need_before-need.result
    (omega (arith, many)) c.requires.bounded c.need_before-need.ensures (omega arith)))

pub returns-in_default-clause-needs : goal.returns-in_default-clause-needs
returns-in_default-clause-needs c =
    let old = c.args.asked.now in
    let number = c.args.number in
    let n = c.need_before-need.result in
    asked-needs number c.args.def.now c.args.behind.now old (set old number n) n c.requires.definition.reads c.requires.so_far c.need_before-need.ensures
    (λ source low.
    sym (ap (λ (m : Option Need). either (need_at (set old number n) source) (asked_of c.args.def.now m source)) c.in_default.is ∙ either-none (need_at (set old number n) source)))
    (length-set old number n)

pub returns-in_default-clause-still_bounded : goal.returns-in_default-clause-still_bounded
returns-in_default-clause-still_bounded c =
    let many = ap length c.requires.so_far ∙ length-needs (suc c.args.number) c.args.behind.now in
    let so_far = 2 ^ 65 * length c.args.behind.now in
    all_within-put_down so_far (2 ^ 65 * (1 + length c.args.behind.now)) c.args.behind.now c.args.asked.now c.args.number c.need_before-need.result (omega (arith, many)) c.requires.bounded
    c.need_before-need.ensures (omega arith)
