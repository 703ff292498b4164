use Rattle.std.proofs.Common.{◌≡◌, ◌∙◌, ◌+◌, ap, sym, arith, length, List, Some, to_z, of_z, ◌-ℤ◌, ◌+ℤ◌, get_or}
use Rattle.std.specs.Int.{w64}
use Rattle.std.proofs.lemmas.Int.{ints}
use Rattle.std.proofs.lemmas.List.{get_or_default}
use Rattle.tilt_core.specs.CoreTree.{Definition}
use Rattle.tilt_core.specs.Needs as needs
use Rattle.tilt_bounds.specs.Margins.{need_of, need_at}
use Rattle.tilt_bounds.specs.Stretch.{cut_down}
use Rattle.tilt_bounds.proofs.Spans.{same_some, need_at-map, cut_down-bounded}
use Rattle.tilt_bounds.proofs.loop_span.stretch.Goals as goal

-- the need that was found is that of the definition
found : (c : goal.After-cut_down) → need_at c.args.reach.now.needs (length c.args.core.now.inputs + c.args.def) ≡ Some (record { back = c.in-Used.back; ahead = c.in-Used.ahead })
found c =
    let at = rw c.inputs.ensures.names at c.in-Used.is in
    rw (← c.needs.ensures.value) (need_at-map c.needs.result.now (length c.args.core.now.inputs + c.args.def) ∙ ap need_of at)

pub returns-clause-stretch : goal.returns-clause-stretch
returns-clause-stretch c =
    λ d n is used.
    let need : n ≡ record { back = c.in-Used.back; ahead = c.in-Used.ahead } = same_some (sym used ∙ found c) in
    let within = rw used at (c.needs.ensures.kept.needs.each (length c.args.core.now.inputs + c.args.def)) in
    let back_low = within.0 in
    let back_high = within.1 in
    let ahead_low = within.2 in
    let ahead_high = within.3 in
    let most_back = c.needs.ensures.kept.back in
    let most_ahead = c.needs.ensures.kept.ahead in
    let low = c.requires.low.le in
    let some = c.requires.some.lt in
    let high = c.requires.high.le in
    let back : n.back ≡ c.in-Used.back = ap (λ (m : needs.Need). m.back) need in
    let ahead : n.ahead ≡ c.in-Used.ahead = ap (λ (m : needs.Need). m.ahead) need in
    let def : c.index-defs-place.result ≡ d =
    c.index-defs-place.is ∙ ap (λ (ds : List Definition). get_or ds c.args.def c.index-defs-place.result) c.defs.ensures.defs
    ∙ get_or_default c.args.core.now.defs c.args.def c.index-defs-place.result d c.requires.numbered ∙ sym is in
    let over : c.definition.inside.over ≡ d.over = ap (λ (x : Definition). x.over) (c.definition.view_is ∙ def) in
    let start : to_z w64 (of_z w64 (to_z w64 (of_z w64 c.args.lo) -ℤ to_z w64 (of_z w64 c.in-Used.back))) ≡ c.args.lo -ℤ n.back = omega (arith, ints) in
    let end : to_z w64 (of_z w64 (to_z w64 (of_z w64 c.args.hi) +ℤ to_z w64 (of_z w64 c.in-Used.ahead))) ≡ c.args.hi +ℤ n.ahead = omega (arith, ints) in
    c.cut_down.ensures ∙ (λ i. cut_down (over i) (start i) (end i))

pub returns-clause-bounds : goal.returns-clause-bounds
returns-clause-bounds c =
    let within = rw (found c) at (c.needs.ensures.kept.needs.each (length c.args.core.now.inputs + c.args.def)) in
    let back_low = within.0 in
    let back_high = within.1 in
    let ahead_low = within.2 in
    let ahead_high = within.3 in
    let most_back = c.needs.ensures.kept.back in
    let most_ahead = c.needs.ensures.kept.ahead in
    let low = c.requires.low.le in
    let some = c.requires.some.lt in
    let high = c.requires.high.le in
    rw c.cut_down.ensures (cut_down-bounded (to_z w64 (of_z w64 (to_z w64 (of_z w64 c.args.lo) -ℤ to_z w64 (of_z w64 c.in-Used.back))))
    (to_z w64 (of_z w64 (to_z w64 (of_z w64 c.args.hi) +ℤ to_z w64 (of_z w64 c.in-Used.ahead)))) (omega (arith, ints)) (omega (arith, ints)) (omega (arith, ints)) c.definition.inside.over)
