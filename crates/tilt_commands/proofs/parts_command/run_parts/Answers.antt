use Rattle.std.proofs.Common.{◌∙◌, ◌++◌, ℕ, List, [], length, ap, arith}
use Rattle.tilt_commands.proofs.Divided.{are_inside, are_named, for_some, many_parts, no_fault, parts_sizes}
use Rattle.tilt_parts.specs.Parts.{AreInside}
use Rattle.tilt_printed.specs.Sizes.{parted_text}
use Rattle.tilt_report.specs.Report.{printed}
use Rattle.tilt_commands.proofs.parts_command.run_parts.Goals as goal

pub new-requires-clause-inside : goal.new-requires-clause-inside
new-requires-clause-inside c =
    let domain = c.domain-domain.result in
    let fits = no_fault c.args.division.cuts.now c.args.division.order.now c.args.accepted.now.core domain c.domain-domain.ensures.value c.requires.fits in
    for_some (λ d. AreInside d.start c.args.division.cuts.now d.end) _ domain c.domain-domain.ensures.value
    (are_inside domain _ _ c.args.division.cuts.now c.domain-domain.ensures.stretch.1 c.requires.cuts fits.0)

pub follow-requires : goal.follow-requires
follow-requires c =
    let domain = c.domain-domain.result in
    let fits = no_fault c.args.division.cuts.now c.args.division.order.now c.args.accepted.now.core domain c.domain-domain.ensures.value c.requires.fits in
    are_named (length c.args.division.cuts.now) _ c.args.division.order.now
    (many_parts c.args.accepted.now c.args.rows.now [] c.args.division.cuts.now c.in_ok-parts.parts c.in_ok-parts.ensures.parts) fits.1

pub finish-requires : goal.finish-requires
finish-requires c = c.in_ok-follow.ensures.granted c.in_ok-parts.ensures.fresh

pub joined-requires : goal.joined-requires
joined-requires c = record { granted = c.in_ok-finish.ensures.granted }

pub unreachable-requires : goal.unreachable-requires
unreachable-requires c = (rw c.in_default.is at c.in_ok-list.ensures.finished) c.in_ok-finish.ensures.finished

pub part_sizes-requires : goal.part_sizes-requires
part_sizes-requires c =
    let many = many_parts c.args.accepted.now c.args.rows.now [] c.args.division.cuts.now c.in_ok-parts.parts c.in_ok-parts.ensures.parts in
    omega (arith, many, c.in_ok-follow.ensures.many, c.in_ok-finish.ensures.many)

pub returns : goal.returns
returns c =
    let query = c.args.accepted.now in
    let rows = c.args.rows.now in
    let cuts = c.args.division.cuts.now in
    let ordered = c.in_ok-follow.ensures.after query rows cuts [] c.in_ok-parts.ensures.parts in
    let done = c.in_ok-finish.ensures.after query rows cuts c.args.division.order.now ordered in
    let are = done.1 in
    let sizes = parts_sizes query rows (c.args.division.order.now ++ done.0) cuts c.finish.new.self are c.in_ok-finish.ensures.granted c.in_ok-finish.ensures.finished in
    record {
      list = c.in-Some.list;
      domain = are.domain;
      means = rw c.in-Some.is at (c.in_ok-list.ensures.whole query rows cuts (c.args.division.order.now ++ done.0) are);
      stretch = are.domain_is;
      is = ap (λ (l : List ℕ). printed (parted_text c.in-Some.list l)) (c.in_ok-sizes.ensures ∙ sizes);
    }
