use Rattle.std.proofs.Common.{◌≡◌, FitsSigned, to_z-of_z, w64, neg_ℤ, pos, ◌+ℤ◌, length, Some, None, refl, ◌∙◌, rules, arith}
use Rattle.std.proofs.lemmas.Int.{ints}
use Rattle.std.proofs.lemmas.Option.{slice_get_read}
use Rattle.tilt_base.specs.declared.limits.TheConstants.{T}
use Rattle.tilt_fix.proofs.Changes.{not_has}
use Rattle.tilt_fix.proofs.Changing.{row_at}
use Rattle.tilt_stream.proofs.Ended.{first-found, none-found}
use Rattle.tilt_stream.specs.Snap.{ended_below}
use Rattle.tilt_fix.proofs.change.place_of.Goals as goal
use Rattle.tilt_fix.proofs.change.place_of.Goals.{in_default-via-in-Some+then-next-start+else-next-end, in_default-via-in-Some+else-next-start, in_default-via-in_default}

pub returns-in-Some-clause-found : goal.returns-in-Some-clause-found
returns-in-Some-clause-found c =
    let found = c.in-Some.ensures.lookup in
    let next = c.in-Some.next.now in
    let starts : next.start ≡ c.args.start = rw (← c.next.view_is) (grind (arith, ints)) in
    let ends : next.end ≡ c.args.end = rw (← c.next.view_is) (grind (arith, ints)) in
    row_at c.args.rows.now c.args.start c.args.end c.passed-at.result next
    (slice_get_read c.args.rows.now (length c.args.rows.now) c.passed-at.result next refl found.3.0 found.1) starts ends

pub returns-in_default-clause-refused : goal.returns-in_default-clause-refused
returns-in_default-clause-refused c =
    let fits : FitsSigned w64 c.args.start = search rules in
    let place : c.passed-at.result ≡ ended_below (c.args.start +ℤ pos 1) c.args.rows.now = rw (to_z-of_z fits) at c.passed-at.ensures.number in (
      refl,
      not_has c.args.start c.args.end (neg_ℤ T) T c.args.rows.now c.requires (λ s is. elim c.in_default.branch [
        | in_default-via-in-Some+then-next-start+else-next-end w ↦
            let found = w.in-Some.ensures.lookup in
            let at = first-found c.args.rows.now (c.args.start +ℤ pos 1) c.passed-at.result w.in-Some.next.now place found.3.0 found.1 in
            let both : Some w.in-Some.next.now ≡ Some s = at ∙ is in
            let same : w.in-Some.next.now ≡ s = cc in
            rw (← same, ← w.next.view_is) (grind (arith, ints))
        | in_default-via-in-Some+else-next-start w ↦
            let found = w.in-Some.ensures.lookup in
            let at = first-found c.args.rows.now (c.args.start +ℤ pos 1) c.passed-at.result w.in-Some.next.now place found.3.0 found.1 in
            let both : Some w.in-Some.next.now ≡ Some s = at ∙ is in
            let same : w.in-Some.next.now ≡ s = cc in
            rw (← same, ← w.next.view_is) (grind (arith, ints))
        | in_default-via-in_default w ↦
            let at = none-found c.args.rows.now (c.args.start +ℤ pos 1) c.passed-at.result place w.in_default.ensures.lookup.0 in
            let both : None ≡ Some s = at ∙ is in
            absurd (cc both)
      ]),
    )
