-- Where the next marks of leaves lie, and the next mark of a window's first tick.
use Rattle.std.proofs.Common.{◌≡◌, ℤ, pos, neg_ℤ, ◌+ℤ◌, ◌-ℤ◌, ◌<ℤ◌, ◌≤ℤ◌, List, [], ◌∷◌, Option, Some, None, IfSome, slice_get, sym, ◌∙◌, arith}
use Rattle.std.proofs.lemmas.Int.{ints, clamps, by_lt_z}
use Rattle.std.specs.Int.{int_max}
use Rattle.std.proofs.lemmas.Option.{same_Some}
use Rattle.tilt_base.specs.Offset.{IsOffset}
use Rattle.tilt_base.specs.declared.limits.TheConstants.{WIDE}
use Rattle.tilt_stream.specs.Marks.{IsNextMark, NamesNextMark}
use Rattle.tilt_stream.specs.Stream.{Stream}
use Rattle.tilt_stream.proofs.MarkedTicks.{marked-first, marked-empty}
use Rattle.tilt_stream.specs.Marked.{marked}
use Rattle.tilt_turn.specs.Ready.{IsMarkTick}

-- the first mark that a window holds is the next one
pub held-next : (x : Stream) (first last mark : ℤ) (marks : List ℤ) → first ≤ℤ last → marks ≡ marked x first last
    → slice_get marks 0 ≡ Some mark
    → IsNextMark x first mark × (mark ≤ℤ last)
held-next x first last mark [] some is found = absurd (cc found)
held-next x first last mark (m ∷ marks) some is found =
    let held = marked-first x first last m marks some (sym is) in
    let same = same_Some m mark found in
    rw (← same) (held.next, held.within)

empty-list : (marks : List ℤ) → slice_get marks 0 ≡ None → marks ≡ []
empty-list [] is = cc
empty-list (m ∷ marks) is = absurd (cc is)

-- and where it holds none, that of its last tick
pub later-next : (x : Stream) (first last : ℤ) (marks : List ℤ) (answer : Option ℤ) → first ≤ℤ last → marks ≡ marked x first last
    → slice_get marks 0 ≡ None
    → NamesNextMark x last answer → NamesNextMark x first answer
later-next x first last marks None some is none names =
    let clear = marked-empty x first last some (sym is ∙ empty-list marks none) in
    λ other above. by_lt_z last other (λ later. names other later) (λ within. clear other above (omega (arith, ints)))
later-next x first last marks (Some next) some is none names =
    let clear = marked-empty x first last some (sym is ∙ empty-list marks none) in
    let above = names.above in
    record {
      above = omega (arith, ints);
      marked = names.marked;
      least = λ other low below. by_lt_z last other (λ later. names.least other later below) (λ within. clear other low (omega (arith, ints)));
    }

-- it lies above neither the last tick nor the end of all
pub held-bounds : (first last mark limit : ℤ) → first <ℤ mark → mark ≤ℤ last → (first <ℤ mark) × (mark ≤ℤ int_max last limit)
held-bounds first last mark limit low high = (low, omega (arith, ints, clamps))

pub later-bounds : (x : Stream) (first last limit : ℤ) (answer : Option ℤ) → first ≤ℤ last → NamesNextMark x last answer
    → IfSome answer (λ next. next ≤ℤ limit) → IfSome answer (λ next. (first <ℤ next) × (next ≤ℤ int_max last limit))
later-bounds x first last limit None some names high = tt
later-bounds x first last limit (Some next) some names high =
    let above = names.above in
    (omega (arith, ints), omega (arith, ints, clamps))

-- a mark of a buffer lies where a leaf may have one that reads it
pub read-bounds : (answer : Option ℤ) (offset : ℤ) → IsOffset offset → IfSome answer (λ next. neg_ℤ WIDE <ℤ next)
    → IfSome answer (λ next. next ≤ℤ (WIDE +ℤ pos 1)) → IfSome answer (λ mark. IsMarkTick (mark -ℤ offset))
read-bounds None offset is low high = tt
read-bounds (Some next) offset is low high =
    let least = is.0 in
    let greatest = is.1 in
    record { low = omega (arith, ints); high = omega (arith, ints) }
