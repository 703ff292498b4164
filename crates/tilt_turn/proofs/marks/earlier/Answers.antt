use Rattle.std.proofs.Common.{◌≡◌, FitsSigned, w64, to_z, of_z, ◌-ℤ◌, arith, rules}
use Rattle.std.proofs.lemmas.Int.{ints}
use Rattle.tilt_stream.proofs.NextMarks.{shifted-next}
use Rattle.tilt_turn.proofs.marks.earlier.Goals as goal

pub returns-clause-next : goal.returns-clause-next
returns-clause-next c =
    let next = c.in_ok-next.field-0 in
    let offset = c.args.offset in
    let fits : FitsSigned w64 next = search rules in
    let bounds = rw c.in_ok-next.was at c.requires in
    let low = bounds.low in
    let high = bounds.high in
    let back : to_z w64 (of_z w64 (to_z w64 (of_z w64 next) -ℤ to_z w64 (of_z w64 offset))) ≡ next -ℤ offset = omega (arith, ints) in
    λ x tick names. rw back (shifted-next x offset tick next (rw c.in_ok-next.was at names))
