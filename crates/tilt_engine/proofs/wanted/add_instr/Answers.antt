use Rattle.std.proofs.Common.{◌≡◌, ◌∙◌, ◌==◌, pos, ◌+ℤ◌, ℤ, List, Option, Some, None, get_or, if◌then◌else◌, to_z, of_z, w64, ap, arith}
use Rattle.std.proofs.lemmas.Int.{ints}
use Rattle.tilt_engine.proofs.NextReads.{tick-added}
use Rattle.tilt_pipe.specs.Reads.{earlier}
use Rattle.tilt_engine.proofs.wanted.add_instr.Goals as goal

pub returns-in-Win-clause-firsts : goal.returns-in-Win-clause-firsts
returns-in-Win-clause-firsts c = λ buffer.
    let old = c.args.firsts.now in
    let own = c.in-Win.buffer in
    let near_low = c.requires.near.low in
    let near_high = c.requires.near.high in
    let readable = rw c.in-Win.is at c.requires.readable.1 in
    let from_low = readable.1.low.0 in
    let from_high = readable.1.low.1 in
    let tick = to_z w64 (of_z w64 (to_z w64 (of_z w64 (to_z w64 (of_z w64 c.args.point) +ℤ to_z w64 (of_z w64 c.in-Win.from))) +ℤ pos 1)) in
    let first : tick ≡ c.args.point +ℤ (c.in-Win.from +ℤ pos 1) = omega (arith, ints) in
    rw c.in-Win.is
    (ap (λ (firsts : List (Option ℤ)). get_or firsts buffer None) c.add_tick-in-Win.ensures ∙ tick-added old own buffer tick readable.0
    ∙ ap (λ (t : ℤ). earlier (get_or old buffer None) (if own == buffer then Some t else None)) first)
