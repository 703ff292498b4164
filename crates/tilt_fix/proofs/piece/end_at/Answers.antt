use Rattle.std.proofs.Common.{◌≡◌, ◌++◌, ◌∷◌, [], Some, FitsSigned, to_z-of_z, neg_ℤ, w64, rules, arith, sym, ap, ◌∙◌}
use Rattle.std.proofs.lemmas.Int.{ints}
use Rattle.tilt_base.specs.declared.limits.TheConstants.{WIDE}
use Rattle.tilt_fix.proofs.Ends.{last-low, last-touches}
use Rattle.tilt_fix.proofs.Replaced.{ended_at-push}
use Rattle.tilt_fix.specs.Replaced.{ended_at}
use Rattle.tilt_stream.proofs.Order.{last_end-push}
use Rattle.tilt_stream.specs.Snap.{Snapshot, AreSnapshots, last_end}
use Rattle.tilt_fix.proofs.piece.end_at.Goals as goal
use Rattle.tilt_fix.proofs.piece.end_at.Goals.{in-Some+else-prove+in_ok-push, in_default}

pub invariant_of-push : goal.invariant_of-push
invariant_of-push c =
    let own : Snapshot = record { start = c.last.inside.start; end = c.last.inside.end; value = c.last.inside.value } in
    let is : own ≡ c.in-Some.last = c.last.view_is in
    let ends : last_end c.args.snaps ≡ Some own.end =
    ap last_end c.in-Some.ensures ∙ last_end-push c.pop.new.self c.in-Some.last ∙ ap (λ (s : Snapshot). Some s.end) (sym is) in
    let later = c.requires.later own.end ends in
    let some = c.last.invariant in
    let low : FitsSigned w64 c.last.inside.start = search rules in
    let high : FitsSigned w64 c.args.end = search rules in
    rw (to_z-of_z low, to_z-of_z high) (omega (arith, ints))

pub push-requires-clause-touches : goal.push-requires-clause-touches
push-requires-clause-touches c =
    let own : Snapshot = record { start = c.last.inside.start; end = c.last.inside.end; value = c.last.inside.value } in
    let is : own ≡ c.in-Some.last = c.last.view_is in
    let h : AreSnapshots (c.pop.new.self ++ own ∷ []) = rw (is, ← c.in-Some.ensures) c.requires.no_gaps in
    let low : FitsSigned w64 c.last.inside.start = search rules in
    rw (to_z-of_z low) (last-touches c.pop.new.self own h.touch)

pub push-requires-clause-low : goal.push-requires-clause-low
push-requires-clause-low c =
    let own : Snapshot = record { start = c.last.inside.start; end = c.last.inside.end; value = c.last.inside.value } in
    let is : own ≡ c.in-Some.last = c.last.view_is in
    let h : AreSnapshots (c.pop.new.self ++ own ∷ []) = rw (is, ← c.in-Some.ensures) c.requires.no_gaps in
    let low : FitsSigned w64 c.last.inside.start = search rules in
    rw (to_z-of_z low) (last-low (neg_ℤ WIDE) WIDE c.pop.new.self own h.in_order)

pub returns : goal.returns
returns c = elim c.match-pop.branch [
  | in-Some+else-prove+in_ok-push w ↦
      let own : Snapshot = record { start = w.last.inside.start; end = w.last.inside.end; value = w.last.inside.value } in
      let is : own ≡ w.in-Some.last = w.last.view_is in
      let low : FitsSigned w64 w.last.inside.start = search rules in
      let high : FitsSigned w64 c.args.end = search rules in
      let pushed : w.push.new.self ≡ c.pop.new.self ++ record { start = own.start; end = c.args.end; value = own.value } ∷ [] =
      rw (to_z-of_z low, to_z-of_z high) at w.in_ok-push.ensures.ok in
      w.list-is ∙ pushed ∙ sym (ended_at-push c.args.end c.pop.new.self own)
      ∙ ap (λ (s : Snapshot). ended_at c.args.end (c.pop.new.self ++ s ∷ [])) is ∙ ap (ended_at c.args.end) (sym w.in-Some.ensures)
  | in_default w ↦ w.list-is ∙ w.in_default.ensures.1 ∙ ap (ended_at c.args.end) (sym w.in_default.ensures.0)
]
