use Rattle.std.proofs.Common.{◌≡◌, ◌∙◌, FitsSigned, w64, to_z, of_z, rules}
use Rattle.std.specs.Int.{int_min}
use Rattle.std.proofs.lemmas.Int.{to_z-of_z}
use Rattle.tilt_stream.proofs.NextMarks.{joined-both}
use Rattle.tilt_turn.proofs.marks.lesser.Goals as goal

pub returns-in-Some-Some-clause-next : goal.returns-in-Some-Some-clause-next
returns-in-Some-Some-clause-next c =
    let a = c.in-Some-Some.a in
    let b = c.in-Some-Some.b in
    let fits : FitsSigned w64 c.min.result = search rules in
    let fits_a : FitsSigned w64 a = search rules in
    let fits_b : FitsSigned w64 b = search rules in
    let least : to_z w64 (of_z w64 c.min.result) ≡ int_min a b =
    to_z-of_z w64 c.min.result fits ∙ rw (to_z-of_z w64 a fits_a, to_z-of_z w64 b fits_b) at c.min.ensures.value in
    λ x y tick f g. rw least (joined-both x y tick a b (rw c.in-Some-Some.is-1 at f) (rw c.in-Some-Some.is-0 at g))
