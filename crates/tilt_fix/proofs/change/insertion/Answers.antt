use Rattle.std.proofs.Common.{◌≡◌, neg_ℤ, pos, ◌+ℤ◌, ◌<ℤ◌, FitsSigned, to_z-of_z, w64, Some, None, sym, ◌∙◌, rules, arith}
use Rattle.std.proofs.lemmas.Int.{ints}
use Rattle.tilt_base.specs.declared.limits.TheConstants.{T}
use Rattle.tilt_fix.proofs.Changes.{has_no_room}
use Rattle.tilt_fix.proofs.Changing.{insertion_is}
use Rattle.tilt_stream.proofs.Ended.{first-found, none-found}
use Rattle.tilt_stream.specs.Snap.{ended_below}
use Rattle.tilt_fix.proofs.change.insertion.Goals as goal
use Rattle.tilt_fix.proofs.change.insertion.Goals.{in_default-via-in-Some+else-next-row, in_default-via-in_default}

pub returns-in-Some-clause-refused : goal.returns-in-Some-clause-refused
returns-in-Some-clause-refused c =
    let found = c.in-Some.ensures.lookup in
    let fits : FitsSigned w64 c.row.inside.start = search rules in
    let place : c.passed-at.result ≡ ended_below (c.args.row.start +ℤ pos 1) c.args.rows.now =
    rw (← c.row.view_is) (rw (to_z-of_z fits) at c.passed-at.ensures.number) in
    let begun : c.in-Some.next.now.start <ℤ c.args.row.end = rw (← c.row.view_is, ← c.next.view_is) (grind (arith, ints)) in
    rw c.next.view_is (has_no_room c.args.row c.in-Some.next.now (neg_ℤ T) T c.args.rows.now c.args.rows.now c.requires.rows
    (sym (first-found c.args.rows.now (c.args.row.start +ℤ pos 1) c.passed-at.result c.in-Some.next.now place found.3.0 found.1)) begun)

pub returns-in_default-clause-change : goal.returns-in_default-clause-change
returns-in_default-clause-change c = λ input.
    let fits : FitsSigned w64 c.row.inside.start = search rules in
    let place : c.passed-at.result ≡ ended_below (c.args.row.start +ℤ pos 1) c.args.rows.now =
    rw (← c.row.view_is) (rw (to_z-of_z fits) at c.passed-at.ensures.number) in
    let some : c.args.row.start <ℤ c.args.row.end = rw (← c.row.view_is) c.row.invariant in
    insertion_is input c.args.row c.args.rows.now c.passed-at.result place c.requires.rows c.requires.low some c.requires.high
    (λ s is. elim c.in_default.branch [
      | in_default-via-in-Some+else-next-row w ↦
          let found = w.in-Some.ensures.lookup in
          let at = first-found c.args.rows.now (c.args.row.start +ℤ pos 1) c.passed-at.result w.in-Some.next.now place found.3.0 found.1 in
          let both : Some w.in-Some.next.now ≡ Some s = at ∙ is in
          let same : w.in-Some.next.now ≡ s = cc in
          rw (← same, ← c.row.view_is, ← w.next.view_is) (grind (arith, ints))
      | in_default-via-in_default w ↦
          let at = none-found c.args.rows.now (c.args.row.start +ℤ pos 1) c.passed-at.result place w.in_default.ensures.lookup.0 in
          let both : None ≡ Some s = at ∙ is in
          absurd (cc both)
    ])
