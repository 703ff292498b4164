use Rattle.std.proofs.Common.{◌≡◌, length, Some, inl, refl, sym, ap, ◌∙◌, arith, FitsSigned, subst}
use Rattle.std.specs.Int.{w64}
use Rattle.std.proofs.lemmas.Int.{ints, to_z-of_z}
use Rattle.tilt_checkpoint.proofs.Leasts.{cuts_same}
use Rattle.tilt_checkpoint.specs.Cuts.{AreCuts}
use Rattle.tilt_checkpoint.specs.Spelling.{spelling}
use Rattle.tilt_checkpoint.specs.Valid.{IsCheckpoint}
use Rattle.tilt_checkpoint.specs.Cuts.{same_cuts}
use Rattle.tilt_session.proofs.Steps.{core-found, onward-found, new-handed, both-printed, both-snapshots, both-left, one-next}
use Rattle.tilt_session.proofs.joined.Joined.go_on.Goals as goal

pub resume-requires-clause-core : goal.resume-requires-clause-core
resume-requires-clause-core c =
    let run = c.requires.run in
    let found = c.in_ok-checkpoint.ensures _ run.2.valid (inl (c.deref.ensures.value ∙ run.2.handed_on)) in
    core-found run.0 c.args.accepted.now.core c.args.rows.now c.in_ok-part.part.items c.args.self.cut c.args.self.printed
    c.args.self.bytes.items c.in_ok-checkpoint.checkpoint run.1 run.2 c.in_ok-part.ensures.in_order found

pub resume-requires-clause-rows : goal.resume-requires-clause-rows
resume-requires-clause-rows c =
    let run = c.requires.run in
    let found = c.in_ok-checkpoint.ensures _ run.2.valid (inl (c.deref.ensures.value ∙ run.2.handed_on)) in
    let low = run.2.valid.cut.0 in
    let high = run.2.valid.cut.1 in
    let fits : FitsSigned w64 c.args.self.cut = record { sfits = omega (arith, ints, low, high) } in
    let parts = rw (to_z-of_z w64 c.args.self.cut fits, to_z-of_z w64 c.args.cut c.ranges.cut) at c.in_ok-part.ensures.parts in
    let cuts : c.in_ok-cuts.cuts ≡ same_cuts (length c.args.rows.now) c.args.cut = rw (to_z-of_z w64 c.args.cut c.ranges.cut) at c.in_ok-cuts.ensures in
    rw cuts (new-handed run.0 c.args.accepted.now.core c.args.rows.now c.in_ok-part.part.items c.args.self.cut c.args.self.printed
    c.args.self.bytes.items c.in_ok-checkpoint.checkpoint run.1 run.2 c.in_ok-part.ensures.in_order found (Some c.args.cut) c.requires.onward parts)

pub resume-requires-clause-onward : goal.resume-requires-clause-onward
resume-requires-clause-onward c =
    let run = c.requires.run in
    let found = c.in_ok-checkpoint.ensures _ run.2.valid (inl (c.deref.ensures.value ∙ run.2.handed_on)) in
    let low = run.2.valid.cut.0 in
    let high = run.2.valid.cut.1 in
    let fits : FitsSigned w64 c.args.self.cut = record { sfits = omega (arith, ints, low, high) } in
    let parts = rw (to_z-of_z w64 c.args.self.cut fits, to_z-of_z w64 c.args.cut c.ranges.cut) at c.in_ok-part.ensures.parts in
    let cuts : c.in_ok-cuts.cuts ≡ same_cuts (length c.args.rows.now) c.args.cut = rw (to_z-of_z w64 c.args.cut c.ranges.cut) at c.in_ok-cuts.ensures in
    rw cuts (onward-found run.0 c.args.accepted.now.core c.args.rows.now c.in_ok-part.part.items c.args.self.cut c.args.self.printed
    c.args.self.bytes.items c.in_ok-checkpoint.checkpoint run.1 run.2 c.in_ok-part.ensures.in_order found (Some c.args.cut) c.requires.onward parts)

pub resume-requires-clause-range : goal.resume-requires-clause-range
resume-requires-clause-range c =
    let cuts : c.in_ok-cuts.cuts ≡ same_cuts (length c.args.rows.now) c.args.cut = rw (to_z-of_z w64 c.args.cut c.ranges.cut) at c.in_ok-cuts.ensures in
    subst AreCuts (sym cuts) (cuts_same c.args.cut (length c.args.rows.now) c.requires.cut)

pub with_list-requires : goal.with_list-requires
with_list-requires c =
    let run = c.requires.run in
    let found = c.in_ok-checkpoint.ensures _ run.2.valid (inl (c.deref.ensures.value ∙ run.2.handed_on)) in
    let low = run.2.valid.cut.0 in
    let high = run.2.valid.cut.1 in
    let fits : FitsSigned w64 c.args.self.cut = record { sfits = omega (arith, ints, low, high) } in
    let parts = rw (to_z-of_z w64 c.args.self.cut fits, to_z-of_z w64 c.args.cut c.ranges.cut) at c.in_ok-part.ensures.parts in
    let cuts : c.in_ok-cuts.cuts ≡ same_cuts (length c.args.rows.now) c.args.cut = rw (to_z-of_z w64 c.args.cut c.ranges.cut) at c.in_ok-cuts.ensures in
    let law = rw cuts at c.in_ok-list.ensures.law in
    let new = rw cuts at c.in_ok-list.ensures.newly in
    both-snapshots run.0 c.args.accepted.now.core c.args.rows.now c.in_ok-part.part.items c.args.self.cut c.args.self.printed
    c.args.self.bytes.items c.in_ok-checkpoint.checkpoint run.1 run.2 c.in_ok-part.ensures.in_order found (Some c.args.cut) c.requires.onward parts law
    c.in_ok-list.list new (rw (c.new.ensures.frame, c.core.ensures.value) at c.new.ensures.bounds)

pub returns-clause-joined : goal.returns-clause-joined
returns-clause-joined c = λ query run joined.
    let found = c.in_ok-checkpoint.ensures _ joined.valid (inl (c.deref.ensures.value ∙ joined.handed_on)) in
    let low = joined.valid.cut.0 in
    let high = joined.valid.cut.1 in
    let fits : FitsSigned w64 c.args.self.cut = record { sfits = omega (arith, ints, low, high) } in
    let parts = rw (to_z-of_z w64 c.args.self.cut fits, to_z-of_z w64 c.args.cut c.ranges.cut) at c.in_ok-part.ensures.parts in
    let cuts : c.in_ok-cuts.cuts ≡ same_cuts (length c.args.rows.now) c.args.cut = rw (to_z-of_z w64 c.args.cut c.ranges.cut) at c.in_ok-cuts.ensures in
    let law = rw cuts at c.in_ok-list.ensures.law in
    let new = rw cuts at c.in_ok-list.ensures.newly in
    let next = rw cuts at c.in_ok-list.ensures.next in
    let left = one-next (sym c.unwrap-next.ensures ∙ next) ∙ both-left query c.args.accepted.now.core c.args.rows.now
    c.in_ok-part.part.items c.args.self.cut c.args.self.printed c.args.self.bytes.items c.in_ok-checkpoint.checkpoint run joined
    c.in_ok-part.ensures.in_order found (Some c.args.cut) c.requires.onward parts law (same_cuts (length c.args.rows.now) c.args.cut) refl in
    record {
      is_printed = c.in_ok-printed.ensures ∙ both-printed query c.args.accepted.now.core c.args.rows.now
          c.in_ok-part.part.items c.args.self.cut c.args.self.printed c.args.self.bytes.items c.in_ok-checkpoint.checkpoint run joined
          c.in_ok-part.ensures.in_order found (Some c.args.cut) c.requires.onward parts law c.in_ok-list.list new;
      handed_on = c.in_ok-bytes.ensures.text ∙ ap spelling left;
      valid = subst IsCheckpoint left c.cut.ensures.valid;
    }
