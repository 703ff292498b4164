use Rattle.std.proofs.Common.{◌≡◌, refl, [], Some, List, w64, ap, sym, subst, ◌∙◌, arith, map, rules, length}
use Rattle.std.proofs.lemmas.Int.{ints, to_z-of_z}
use Rattle.std.proofs.lemmas.List.{length-set}
use Rattle.std.specs.List.{AllByRecursion, slice_index_or}
use Rattle.tilt_base.proofs.Lists.{same_found}
use Rattle.tilt_bounds.specs.Margins.{need_of}
use Rattle.tilt_fix.proofs.Pieced.{computed-is, if_ok-three, on-fits, piece-fits, piece-put, span-within}
use Rattle.tilt_fix.proofs.Windows.{length-windows}
use Rattle.tilt_fix.specs.Change.{IsChangeOf, all_made, made}
use Rattle.tilt_edits.specs.Edited.{input_of}
use Rattle.tilt_fix.specs.Live.{LiveParts}
use Rattle.tilt_fix.specs.Piece.{first_before}
use Rattle.tilt_fix.specs.Reached.{reached}
use Rattle.tilt_fix.specs.Window.{windows}
use Rattle.tilt_stream.specs.Snap.{Snapshot, AreRows}
use Rattle.tilt_fix.proofs.live.Live.piece_on.Goals as goal

pub widened-on-requires-clause-later : goal.widened-on-requires-clause-later
widened-on-requires-clause-later c =
    let does = subst (λ (l : LiveParts). IsChangeOf c.args.edit.now (slice_index_or l.rows (input_of c.args.edit.now) []) c.args.change.now) (sym c.self.view_is) c.requires.change in
    let some = subst (λ (l : LiveParts). reached l.query c.args.edit.now ≡ Some c.args.span) (sym c.self.view_is) c.requires.reached in
    (span-within c.self.inside.accepted c.self.inside.rows.items c.self.invariant.accepted c.self.invariant.many c.domain.result c.domain.ensures.value
    c.domain.ensures.stretch c.args.edit.now c.requires.edit.some c.args.change.now does c.args.span some).0

pub windows_after-requires-clause-high : goal.windows_after-requires-clause-high
windows_after-requires-clause-high c =
    let does = subst (λ (l : LiveParts). IsChangeOf c.args.edit.now (slice_index_or l.rows (input_of c.args.edit.now) []) c.args.change.now) (sym c.self.view_is) c.requires.change in
    let some = subst (λ (l : LiveParts). reached l.query c.args.edit.now ≡ Some c.args.span) (sym c.self.view_is) c.requires.reached in
    let within = span-within c.self.inside.accepted c.self.inside.rows.items c.self.invariant.accepted c.self.invariant.many c.domain.result c.domain.ensures.value
    c.domain.ensures.stretch c.args.edit.now c.requires.edit.some c.args.change.now does c.args.span some in
    let high = within.3 in
    let last = c.domain.ensures.stretch.2 in
    rw c.widened-on.ensures.end (omega (arith, ints))

pub run_on-requires-clause-inputs : goal.run_on-requires-clause-inputs
run_on-requires-clause-inputs c =
    let seen : c.in_ok-windows.windows.items
    ≡ windows (map need_of c.needs-needs.result.now) c.widened-on.result.start c.widened-on.result.end 0
    (all_made c.args.change.now (input_of c.args.edit.now) c.self.inside.rows.items) = search rules in
    ap (λ (l : List (List Snapshot)). length l) seen
    ∙ length-windows (map need_of c.needs-needs.result.now) c.widened-on.result.start c.widened-on.result.end 0
    (all_made c.args.change.now (input_of c.args.edit.now) c.self.inside.rows.items)
    ∙ length-set c.self.inside.rows.items (input_of c.args.edit.now) (made c.args.change.now (slice_index_or c.self.inside.rows.items (input_of c.args.edit.now) []))
    ∙ c.self.invariant.many

pub run_on-requires-clause-within : goal.run_on-requires-clause-within
run_on-requires-clause-within c = λ x is.
    let does = subst (λ (l : LiveParts). IsChangeOf c.args.edit.now (slice_index_or l.rows (input_of c.args.edit.now) []) c.args.change.now) (sym c.self.view_is) c.requires.change in
    let some = subst (λ (l : LiveParts). reached l.query c.args.edit.now ≡ Some c.args.span) (sym c.self.view_is) c.requires.reached in
    let within = span-within c.self.inside.accepted c.self.inside.rows.items c.self.invariant.accepted c.self.invariant.many c.domain.result c.domain.ensures.value
    c.domain.ensures.stretch c.args.edit.now c.requires.edit.some c.args.change.now does c.args.span some in
    let e : c.domain.result ≡ x = same_found _ c.domain.result x c.domain.ensures.value is in
    let fits = on-fits c.domain.result c.args.span c.widened-on.result.start c.widened-on.result.end c.domain.ensures.stretch c.widened-on.ensures.start c.widened-on.ensures.end
    within.1 within.2 within.3 in
    rw (to_z-of_z w64 c.widened-on.result.start fits.0, to_z-of_z w64 c.widened-on.result.end fits.1, c.widened-on.ensures.start, c.widened-on.ensures.end, ← e)
    (within.1, within.3)

pub piece_of-requires : goal.piece_of-requires
piece_of-requires c =
    let does = subst (λ (l : LiveParts). IsChangeOf c.args.edit.now (slice_index_or l.rows (input_of c.args.edit.now) []) c.args.change.now) (sym c.self.view_is) c.requires.change in
    let some = subst (λ (l : LiveParts). reached l.query c.args.edit.now ≡ Some c.args.span) (sym c.self.view_is) c.requires.reached in
    let within = span-within c.self.inside.accepted c.self.inside.rows.items c.self.invariant.accepted c.self.invariant.many c.domain.result c.domain.ensures.value
    c.domain.ensures.stretch c.args.edit.now c.requires.edit.some c.args.change.now does c.args.span some in
    let fits = on-fits c.domain.result c.args.span c.widened-on.result.start c.widened-on.result.end c.domain.ensures.stretch c.widened-on.ensures.start c.widened-on.ensures.end
    within.1 within.2 within.3 in
    let seen : c.in_ok-windows.windows.items
    ≡ windows (map need_of c.needs-needs.result.now) c.widened-on.result.start c.widened-on.result.end 0
    (all_made c.args.change.now (input_of c.args.edit.now) c.self.inside.rows.items) = search rules in
    let order : AllByRecursion AreRows (all_made c.args.change.now (input_of c.args.edit.now) c.self.inside.rows.items) = search rules in
    let found : map need_of c.needs-needs.result.now ≡ c.self.inside.accepted.margins.needs = search rules in
    let snaps_is = computed-is c.self.inside.accepted.core c.self.inside.accepted.margins.needs (map need_of c.needs-needs.result.now)
    (all_made c.args.change.now (input_of c.args.edit.now) c.self.inside.rows.items) (all_made c.args.change.now (input_of c.args.edit.now) c.self.inside.rows.items)
    c.in_ok-windows.windows.items c.in_ok-snaps.snaps (first_before c.domain.result c.args.span) c.args.span.end c.widened-on.result.start c.widened-on.result.end
    c.in_ok-snaps.ensures seen refl found c.widened-on.ensures.start c.widened-on.ensures.end fits.0 fits.1 in
    rw (c.widened-on.ensures.start, c.widened-on.ensures.end)
    (piece-fits c.self.inside.accepted c.self.inside.rows.items c.self.invariant.accepted c.self.invariant.many c.domain.result c.domain.ensures.value
    c.domain.ensures.stretch c.args.edit.now c.requires.edit.some c.args.change.now does c.args.span some c.self.inside.output c.self.invariant.gives order
    c.in_ok-snaps.snaps snaps_is)

pub returns : goal.returns
returns c =
    let does = subst (λ (l : LiveParts). IsChangeOf c.args.edit.now (slice_index_or l.rows (input_of c.args.edit.now) []) c.args.change.now) (sym c.self.view_is) c.requires.change in
    let some = subst (λ (l : LiveParts). reached l.query c.args.edit.now ≡ Some c.args.span) (sym c.self.view_is) c.requires.reached in
    let within = span-within c.self.inside.accepted c.self.inside.rows.items c.self.invariant.accepted c.self.invariant.many c.domain.result c.domain.ensures.value
    c.domain.ensures.stretch c.args.edit.now c.requires.edit.some c.args.change.now does c.args.span some in
    let fits = on-fits c.domain.result c.args.span c.widened-on.result.start c.widened-on.result.end c.domain.ensures.stretch c.widened-on.ensures.start c.widened-on.ensures.end
    within.1 within.2 within.3 in
    let seen : c.in_ok-windows.windows.items
    ≡ windows (map need_of c.needs-needs.result.now) c.widened-on.result.start c.widened-on.result.end 0
    (all_made c.args.change.now (input_of c.args.edit.now) c.self.inside.rows.items) = search rules in
    let order : AllByRecursion AreRows (all_made c.args.change.now (input_of c.args.edit.now) c.self.inside.rows.items) = search rules in
    let found : map need_of c.needs-needs.result.now ≡ c.self.inside.accepted.margins.needs = search rules in
    let snaps_is = computed-is c.self.inside.accepted.core c.self.inside.accepted.margins.needs (map need_of c.needs-needs.result.now)
    (all_made c.args.change.now (input_of c.args.edit.now) c.self.inside.rows.items) (all_made c.args.change.now (input_of c.args.edit.now) c.self.inside.rows.items)
    c.in_ok-windows.windows.items c.in_ok-snaps.snaps (first_before c.domain.result c.args.span) c.args.span.end c.widened-on.result.start c.widened-on.result.end
    c.in_ok-snaps.ensures seen refl found c.widened-on.ensures.start c.widened-on.ensures.end fits.0 fits.1 in
    rw (← c.self.view_is)
    (if_ok-three c.piece_of.result c.piece_of.ensures.from c.piece_of.ensures.to c.piece_of.ensures.list
    (λ piece from_is to_is list_is.
    piece-put c.self.inside.accepted c.self.inside.rows.items c.self.invariant.accepted c.self.invariant.many c.domain.result c.domain.ensures.value
    c.domain.ensures.stretch c.args.edit.now c.requires.edit.some c.args.change.now does c.args.span some c.self.inside.output c.self.invariant.gives order
    c.in_ok-snaps.snaps snaps_is piece.from piece.to piece.list (rw (← c.widened-on.ensures.start) from_is) (rw (← c.widened-on.ensures.end) to_is)
    (rw (← c.widened-on.ensures.start, ← c.widened-on.ensures.end) list_is)))
