use Rattle.std.proofs.Common.{◌≡◌, inl, inr, ℤ, neg_ℤ, ◌+ℤ◌, ◌≤ℤ◌, true, FitsSigned, to_z, of_z, w64, refl, arith, rules}
use Rattle.std.proofs.lemmas.Int.{ints, by_lt_z, to_z-of_z}
use Rattle.tilt_base.specs.declared.limits.TheConstants.{OFFSET}
use Rattle.tilt_turn.specs.Ready.{IsBodyTick}
use Rattle.tilt_pipe.proofs.Works.{work-there}
use Rattle.tilt_pipe.specs.Positions.{start_at}
use Rattle.tilt_pipe.proofs.chain.is_short.Goals as goal

-- the tick that is read last fits its type
last-fits : (point last : ℤ) → IsBodyTick point → neg_ℤ OFFSET ≤ℤ last → last ≤ℤ OFFSET
    → to_z w64 (of_z w64 (to_z w64 (of_z w64 point) +ℤ to_z w64 (of_z w64 last))) ≡ point +ℤ last
last-fits point last near low high =
    let one : FitsSigned w64 point = omega (arith, ints) in
    let two : FitsSigned w64 last = omega (arith, ints) in
    let both : FitsSigned w64 (point +ℤ last) = omega (arith, ints) in
    rw (to_z-of_z w64 point one, to_z-of_z w64 last two, to_z-of_z w64 (point +ℤ last) both) refl

pub returns-then-start-point-clause-late : goal.returns-then-start-point-clause-late
returns-then-start-point-clause-late c = λ on.
    let p = c.args.rings.now in
    let s = c.args.source in
    let there = work-there p s.place (omega (arith, c.requires.rings.many, c.requires.near.there)) in
    let fits : FitsSigned w64 c.start.result = search rules in
    let last = last-fits c.args.point s.last c.requires.point c.requires.near.low c.requires.near.high in
    let test = rw (to_z-of_z w64 c.start.result fits, last, c.start.ensures) at c.if-start-point.true in
    record {
      work = there.0;
      is_open = record { is = there.1; before = (c.is_open.ensures there.0 there.1).0 on };
      short = grind (arith, ints);
    }

pub returns-then-start-point-clause-reached : goal.returns-then-start-point-clause-reached
returns-then-start-point-clause-reached c = λ off w is.
    let start = start_at c.args.rings.now c.args.source.place in
    let test = (c.is_open.ensures w is).1 in
    by_lt_z start w.loop.hi (λ before. let on : c.is_open.result ≡ true = test before in absurd (cc on)) (λ end. inl end)

pub returns-else-start-point-clause-reached : goal.returns-else-start-point-clause-reached
returns-else-start-point-clause-reached c = λ _ w is.
    let p = c.args.rings.now in
    let s = c.args.source in
    let fits : FitsSigned w64 c.start.result = search rules in
    let last = last-fits c.args.point s.last c.requires.point c.requires.near.low c.requires.near.high in
    let test = rw (to_z-of_z w64 c.start.result fits, last, c.start.ensures) at c.if-start-point.false in
    inr (grind (arith, ints))
