use Rattle.std.proofs.Common.{◌≡◌, to_z, of_z, w64, arith}
use Rattle.std.proofs.lemmas.Int.{ints}
use Rattle.tilt_syntax.proofs.Finding.{finds_none, gives, gives_nothing, meets, meets_part, misses}
use Rattle.tilt_syntax.proofs.atom.reading.Goals as goal

pub returns-in_default : goal.returns-in_default
returns-in_default c = rw c.in_ok-name.ensures (misses c.in_default.ensures.front (gives _ _))

pub returns-in_default-offset : goal.returns-in_default-offset
returns-in_default-offset c = meets c.in-Some.ensures.front (finds_none (c.in_default-offset.ensures _))

pub returns-in_default-after_mark : goal.returns-in_default-after_mark
returns-in_default-after_mark c =
    meets c.in-Some.ensures.front (meets_part _ c.in-Some-offset.ensures (misses c.in_default-after_mark.ensures.front gives_nothing))

pub returns : goal.returns
returns c =
    let fits : to_z w64 (of_z w64 c.in-Some-offset.offset) ≡ c.in-Some-offset.offset = omega (arith, ints) in
    rw (fits, c.in_ok-name-2.ensures) (
    meets c.in-Some.ensures.front (meets_part _ c.in-Some-offset.ensures (meets c.in-Some-after_mark.ensures.front (gives _ _))))
