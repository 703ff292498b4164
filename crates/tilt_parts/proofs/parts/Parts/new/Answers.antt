use Rattle.std.proofs.Common.{pos, [], slice_index_or, rules, SFits, w64, to_z-of_z}
use Rattle.std.proofs.lemmas.List.{drop_all, get_or_default}
use Rattle.tilt_parts.proofs.Begun.{all-begun, begun-next, begun-none, cut-fits, next-within}
use Rattle.tilt_parts.proofs.parts.Parts.new.Goals as goal

pub loop-cut-init : goal.loop-cut-init
loop-cut-init c =
    let at : SFits w64 c.domain-domain.result.start = search rules in
    rw (to_z-of_z at, c.new-parts.ensures.items) (begun-none c.args.accepted.now c.args.rows.now c.domain-domain.result c.args.cuts.now
    (c.requires.inside c.domain-domain.result c.domain-domain.ensures.value))

pub new-requires-clause-within : goal.new-requires-clause-within
new-requires-clause-within c =
    let cuts = c.args.cuts.now in
    let i = c.loop-cut.cut-index in
    let cut = slice_index_or cuts i (pos 0) in
    let is = get_or_default cuts i (pos 0) cut c.loop-cut-test.true in
    let fits = cut-fits c.args.accepted.now c.args.rows.now c.domain-domain.result cuts _ cut i c.loop-cut.parts.items
    c.domain-domain.ensures.stretch c.loop-cut-test.true is c.loop-cut.invariant in
    rw (to_z-of_z fits.0) (next-within c.args.accepted.now c.args.rows.now c.domain-domain.result cuts _ cut i c.loop-cut.parts.items
    c.domain-domain.ensures.value c.loop-cut-test.true is c.loop-cut.invariant)

pub overflow_sub-start : goal.overflow_sub-start
overflow_sub-start c =
    let cuts = c.args.cuts.now in
    let i = c.loop-cut.cut-index in
    let cut = slice_index_or cuts i (pos 0) in
    let is = get_or_default cuts i (pos 0) cut c.loop-cut-test.true in
    let fits = cut-fits c.args.accepted.now c.args.rows.now c.domain-domain.result cuts _ cut i c.loop-cut.parts.items
    c.domain-domain.ensures.stretch c.loop-cut-test.true is c.loop-cut.invariant in
    rw (to_z-of_z fits.0) fits.1

pub loop-cut-preserved : goal.loop-cut-preserved
loop-cut-preserved c =
    let cuts = c.args.cuts.now in
    let i = c.loop-cut.cut-index in
    let cut = slice_index_or cuts i (pos 0) in
    let is = get_or_default cuts i (pos 0) cut c.loop-cut-test.true in
    let fits = cut-fits c.args.accepted.now c.args.rows.now c.domain-domain.result cuts _ cut i c.loop-cut.parts.items
    c.domain-domain.ensures.stretch c.loop-cut-test.true is c.loop-cut.invariant in
    rw (to_z-of_z fits.0, to_z-of_z fits.1, c.in_ok-push.ensures.items) (begun-next c.args.accepted.now c.args.rows.now c.domain-domain.result cuts _ cut i
    c.loop-cut.parts.items c.in_ok-new.field-0 c.loop-cut-test.true is c.loop-cut.invariant
    (rw (to_z-of_z fits.0) at c.in_ok-new.ensures.means) (rw (to_z-of_z fits.0) at c.in_ok-new.ensures.part))

pub invariant_of-result : goal.invariant_of-result
invariant_of-result c =
    let domain = c.domain-domain.result in
    let past = drop_all c.loop-cut.cut-index c.args.cuts.now c.loop-cut-test.false in
    let begun = rw past at c.loop-cut.invariant in
    let fits : SFits w64 domain.end = search rules in (
      c.args.accepted.now,
      c.args.rows.now,
      c.args.cuts.now,
      [],
      record {
        accepted = c.domain-domain.ensures.kept;
        many = c.requires.many;
        domain = domain;
        domain_is = c.domain-domain.ensures.value;
        inside = c.requires.inside domain c.domain-domain.ensures.value;
        stand = rw c.in_ok-push-2.ensures.items (all-begun c.args.accepted.now c.args.rows.now domain c.args.cuts.now _ c.loop-cut.parts.items
            c.in_ok-new-2.field-0 begun (rw (to_z-of_z fits) at c.in_ok-new-2.ensures.means)
            (rw (to_z-of_z fits) at c.in_ok-new-2.ensures.part));
      },
    )

pub returns-clause-parts : goal.returns-clause-parts
returns-clause-parts c =
    let domain = c.domain-domain.result in
    let past = drop_all c.loop-cut.cut-index c.args.cuts.now c.loop-cut-test.false in
    let begun = rw past at c.loop-cut.invariant in
    let fits : SFits w64 domain.end = search rules in
    record {
      accepted = c.domain-domain.ensures.kept;
      many = c.requires.many;
      domain = domain;
      domain_is = c.domain-domain.ensures.value;
      inside = c.requires.inside domain c.domain-domain.ensures.value;
      stand = rw c.in_ok-push-2.ensures.items (all-begun c.args.accepted.now c.args.rows.now domain c.args.cuts.now _ c.loop-cut.parts.items
          c.in_ok-new-2.field-0 begun (rw (to_z-of_z fits) at c.in_ok-new-2.ensures.means)
          (rw (to_z-of_z fits) at c.in_ok-new-2.ensures.part));
    }
