use Rattle.std.proofs.Common.{◌∙◌, ap, refl, sym, subst, rules, w64, to_z, of_z, FitsSigned, ℤ, ◌≤ℤ◌, List, length, map, Some}
use Rattle.std.specs.Prelude.{Option, IfSome}
use Rattle.std.specs.List.{AllByRecursion}
use Rattle.std.proofs.lemmas.Int.{to_z-of_z}
use Rattle.tilt_bounds.specs.Margins.{margins_of}
use Rattle.tilt_checkpoint.specs.Checkpoint.{CheckpointParts, KeptParts, cuts_of}
use Rattle.tilt_checkpoint.specs.Decided.{decided, frame_of}
use Rattle.tilt_checkpoint.specs.Valid.{IsCheckpoint}
use Rattle.tilt_session.proofs.OneCut.{decided-most, decided-on, one-cut}
use Rattle.tilt_session.proofs.Lists.{rows-taken_up, rows_of}
use Rattle.tilt_session.proofs.Sessions.{are-after, both-counted, both-paired, later-is, later-left, newly-is, open-passed, shown-later}
use Rattle.tilt_session.specs.Handed.{all_taken_up}
use Rattle.tilt_session.specs.Later.{next_by}
use Rattle.tilt_stream.specs.Snap.{Snapshot, AreRows}
use Rattle.tilt_core.specs.Core.{CoreParts, IsCore}
use Rattle.tilt_session.proofs.later_session.resume.Goals as goal
use Rattle.tilt_session.proofs.later_session.resume.Goals.{in-Upto, in-End}

pub rows_after-requires : goal.rows_after-requires
rows_after-requires c =
    rw (c.into_parts-query.ensures.series, c.deref.ensures.value)
    (are-after _ c.args.cut c.args.checkpoint.series c.args.rows.items c.cut.ensures.valid.series c.requires.rows)

pub keep_by-requires-clause-cuts : goal.keep_by-requires-clause-cuts
keep_by-requires-clause-cuts c = λ upto is.
    let known = c.in_ok-handed.ensures.rows
    ∙ ap (λ (ns : List (List Snapshot)). rows_of (all_taken_up c.into_parts-query.result.1.items ns)) c.deref.ensures.value
    ∙ ap (λ (ks : List KeptParts). rows_of (all_taken_up ks c.args.rows.items)) c.into_parts-query.ensures.series
    ∙ rows-taken_up c.args.checkpoint.series c.args.rows.items in
    both-paired c.args.checkpoint c.args.cut c.args.rows.items upto is c.requires.rows ∙ sym (ap length known)

pub go_on-requires-clause-inputs : goal.go_on-requires-clause-inputs
go_on-requires-clause-inputs c =
    let frame = c.new.result in
    let old_fits : FitsSigned w64 c.cut.result = search rules in
    let last_fits : FitsSigned w64 c.decided_by-last.result = search rules in
    let old_is = to_z-of_z w64 c.cut.result old_fits ∙ c.cut.ensures.value in
    let last_is = to_z-of_z w64 c.decided_by-last.result last_fits ∙ c.decided_by-last.ensures in
    let series = c.into_parts-query.result.1.items in
    let ends = c.in_ok-handed.ensures.ends ∙ ap (λ (ns : List (List Snapshot)). map (λ k. k.last_end) (all_taken_up series ns)) c.deref.ensures.value in
    let known = c.in_ok-handed.ensures.rows ∙ ap (λ (ns : List (List Snapshot)). rows_of (all_taken_up series ns)) c.deref.ensures.value in
    ap length (shown-later c.args.checkpoint c.args.accepted.now.core frame c.args.cut (to_z w64 (of_z w64 c.cut.result)) (to_z w64 (of_z w64 c.decided_by-last.result))
    c.args.rows.items c.in_ok-handed.handed.rows.items c.in_ok-handed.handed.rows.items c.in_ok-handed.handed.ends.items series c.open_start.result c.requires.core
    (c.new.ensures.frame ∙ ap frame_of c.core.ensures.value) old_is last_is c.open_start.ensures.value c.into_parts-query.ensures.series ends known refl)
    ∙ both-counted c.args.checkpoint c.args.cut c.args.rows.items c.cut.ensures.valid c.requires.rows
    ∙ sym (ap (λ (core : CoreParts). length core.inputs) c.requires.core)

pub go_on-requires-clause-begun : goal.go_on-requires-clause-begun
go_on-requires-clause-begun c =
    let old_fits : FitsSigned w64 c.cut.result = search rules in
    let old_is = to_z-of_z w64 c.cut.result old_fits ∙ c.cut.ensures.value in
    open-passed c.args.checkpoint c.args.accepted.now.core c.new.result (to_z w64 (of_z w64 c.cut.result)) c.open_start.result c.requires.core
    (c.new.ensures.frame ∙ ap frame_of c.core.ensures.value) old_is c.open_start.ensures.value c.cut.ensures.valid

pub go_on-requires-clause-onward : goal.go_on-requires-clause-onward
go_on-requires-clause-onward c =
    let frame = c.new.result in
    let old_fits : FitsSigned w64 c.cut.result = search rules in
    let last_fits : FitsSigned w64 c.decided_by-last.result = search rules in
    let old_is = to_z-of_z w64 c.cut.result old_fits ∙ c.cut.ensures.value in
    let last_is = to_z-of_z w64 c.decided_by-last.result last_fits ∙ c.decided_by-last.ensures in
    subst (λ (t : ℤ). decided frame t ≤ℤ to_z w64 (of_z w64 c.decided_by-last.result)) (sym old_is)
    (subst (λ (t : ℤ). decided frame c.args.checkpoint.cut ≤ℤ t) (sym last_is) (decided-on frame (cuts_of c.args.checkpoint) c.args.cut c.requires.onward))

pub go_on-requires-clause-high : goal.go_on-requires-clause-high
go_on-requires-clause-high c =
    let frame = c.new.result in
    let last_fits : FitsSigned w64 c.decided_by-last.result = search rules in
    let last_is = to_z-of_z w64 c.decided_by-last.result last_fits ∙ c.decided_by-last.ensures in
    subst (λ (t : ℤ). t ≤ℤ frame.end) (sym last_is) (decided-most frame c.args.cut)

pub new-requires-in-Upto : goal.new-requires-in-Upto
new-requires-in-Upto c =
    let frame = c.new.result in
    let old_fits : FitsSigned w64 c.cut.result = search rules in
    let last_fits : FitsSigned w64 c.decided_by-last.result = search rules in
    let old_is = to_z-of_z w64 c.cut.result old_fits ∙ c.cut.ensures.value in
    let last_is = to_z-of_z w64 c.decided_by-last.result last_fits ∙ c.decided_by-last.ensures in
    let series = c.into_parts-query.result.1.items in
    let ends = c.in_ok-handed.ensures.ends ∙ ap (λ (ns : List (List Snapshot)). map (λ k. k.last_end) (all_taken_up series ns)) c.deref.ensures.value in
    let known = c.in_ok-handed.ensures.rows ∙ ap (λ (ns : List (List Snapshot)). rows_of (all_taken_up series ns)) c.deref.ensures.value in
    let upto = c.in-Upto.upto in
    let upto_fits : FitsSigned w64 c.least.result = search rules in
    let upto_is = to_z-of_z w64 c.least.result upto_fits ∙ c.least.ensures.value in
    later-is c.args.checkpoint c.args.accepted.now.core frame c.args.cut (to_z w64 (of_z w64 c.cut.result)) (to_z w64 (of_z w64 c.decided_by-last.result))
    c.args.rows.items c.in_ok-handed.handed.rows.items c.in_ok-handed.handed.rows.items c.in_ok-handed.handed.ends.items series c.open_start.result c.requires.core
    (c.new.ensures.frame ∙ ap frame_of c.core.ensures.value) old_is last_is c.open_start.ensures.value c.into_parts-query.ensures.series ends known refl
    upto _ c.into_parts-query.result.0 c.in_ok-closed.closed.open_start c.in_ok-kept.kept.items c.in-Upto.is
    upto_is c.into_parts-query.ensures.query
    c.in_ok-closed.ensures.begun (c.in_ok-kept.ensures.kept upto c.in-Upto.is) c.cut.ensures.valid c.requires.range c.requires.onward c.new.ensures.bounds c.requires.rows
    (subst (AllByRecursion AreRows) c.deref.ensures.value c.in_ok-handed.ensures.in_order) c.in_ok-kept.ensures.cells

pub returns-clause-newly : goal.returns-clause-newly
returns-clause-newly c =
    let frame = c.new.result in
    let old_fits : FitsSigned w64 c.cut.result = search rules in
    let last_fits : FitsSigned w64 c.decided_by-last.result = search rules in
    let old_is = to_z-of_z w64 c.cut.result old_fits ∙ c.cut.ensures.value in
    let last_is = to_z-of_z w64 c.decided_by-last.result last_fits ∙ c.decided_by-last.ensures in
    let series = c.into_parts-query.result.1.items in
    let ends = c.in_ok-handed.ensures.ends ∙ ap (λ (ns : List (List Snapshot)). map (λ k. k.last_end) (all_taken_up series ns)) c.deref.ensures.value in
    let known = c.in_ok-handed.ensures.rows ∙ ap (λ (ns : List (List Snapshot)). rows_of (all_taken_up series ns)) c.deref.ensures.value in
    newly-is c.args.checkpoint c.args.accepted.now.core frame c.args.cut (to_z w64 (of_z w64 c.cut.result)) (to_z w64 (of_z w64 c.decided_by-last.result))
    c.args.rows.items c.in_ok-handed.handed.rows.items c.in_ok-handed.handed.rows.items c.in_ok-handed.handed.ends.items series c.open_start.result c.requires.core
    (c.new.ensures.frame ∙ ap frame_of c.core.ensures.value) old_is last_is c.open_start.ensures.value c.into_parts-query.ensures.series ends known refl
    c.in_ok-closed.closed.printed c.in_ok-closed.ensures.printed

pub returns-clause-next : goal.returns-clause-next
returns-clause-next c =
    let frame = c.new.result in
    let old_fits : FitsSigned w64 c.cut.result = search rules in
    let last_fits : FitsSigned w64 c.decided_by-last.result = search rules in
    let old_is = to_z-of_z w64 c.cut.result old_fits ∙ c.cut.ensures.value in
    let last_is = to_z-of_z w64 c.decided_by-last.result last_fits ∙ c.decided_by-last.ensures in
    let series = c.into_parts-query.result.1.items in
    let ends = c.in_ok-handed.ensures.ends ∙ ap (λ (ns : List (List Snapshot)). map (λ k. k.last_end) (all_taken_up series ns)) c.deref.ensures.value in
    let known = c.in_ok-handed.ensures.rows ∙ ap (λ (ns : List (List Snapshot)). rows_of (all_taken_up series ns)) c.deref.ensures.value in
    elim c.match-cut-4.branch [
      | in-Upto w ↦
          let upto = w.in-Upto.upto in
          let upto_fits : FitsSigned w64 w.least.result = search rules in
          let upto_is = to_z-of_z w64 w.least.result upto_fits ∙ w.least.ensures.value in
          w.next-is
          ∙ ap Some (w.new-in-Upto.ensures.value ∙ later-left c.args.checkpoint c.args.accepted.now.core frame c.args.cut
          (to_z w64 (of_z w64 c.cut.result)) (to_z w64 (of_z w64 c.decided_by-last.result))
          c.args.rows.items c.in_ok-handed.handed.rows.items c.in_ok-handed.handed.rows.items c.in_ok-handed.handed.ends.items series c.open_start.result c.requires.core
          (c.new.ensures.frame ∙ ap frame_of c.core.ensures.value) old_is last_is c.open_start.ensures.value c.into_parts-query.ensures.series ends known refl
          upto _ c.into_parts-query.result.0 c.in_ok-closed.closed.open_start c.in_ok-kept.kept.items w.in-Upto.is
          upto_is c.into_parts-query.ensures.query c.in_ok-closed.ensures.begun (c.in_ok-kept.ensures.kept upto w.in-Upto.is))
          ∙ sym (ap (next_by c.args.checkpoint c.args.rows.items) w.in-Upto.is)
      | in-End w ↦ w.next-is ∙ sym (ap (next_by c.args.checkpoint c.args.rows.items) w.in-End.is)
    ]

pub returns-clause-valid : goal.returns-clause-valid
returns-clause-valid c =
    elim c.match-cut-4.branch [
      | in-Upto w ↦ subst (λ (o : Option CheckpointParts). IfSome o IsCheckpoint) (sym w.next-is) w.new-in-Upto.ensures.valid
      | in-End w ↦ subst (λ (o : Option CheckpointParts). IfSome o IsCheckpoint) (sym w.next-is) tt
    ]

pub returns-clause-law : goal.returns-clause-law
returns-clause-law c =
    let core = c.requires.core in
    one-cut c.args.checkpoint c.args.accepted.now.margins c.args.cut c.args.rows.items (subst IsCore core c.core.ensures.kept.valid)
    (sym (ap margins_of core) ∙ c.core.ensures.kept.near) c.core.ensures.kept.within c.cut.ensures.valid.least c.requires.onward
    (subst (AllByRecursion AreRows) c.deref.ensures.value c.in_ok-handed.ensures.in_order) c.requires.rows
