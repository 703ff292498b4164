use Rattle.std.proofs.Common.{ℤ, pos, ◌+ℤ◌, Some, Option, FitsSigned, w64, subst, rules, arith}
use Rattle.std.proofs.lemmas.Int.{ints, to_z-of_z}
use Rattle.tilt_pipe.specs.Trimmed.{IsNotLater}
use Rattle.tilt_pipe.proofs.chain.Chain.reads_up_to.Goals as goal

pub returns-in-Some : goal.returns-in-Some
returns-in-Some c =
    let tick = c.in-Some.tick in
    let fits : FitsSigned w64 tick = search rules in
    let end_fits : FitsSigned w64 c.args.end = search rules in
    rw (to_z-of_z w64 tick fits, to_z-of_z w64 c.args.end end_fits) (record {
      early = λ on. subst (λ (t : Option ℤ). IsNotLater t (Some c.args.end)) c.in-Some.ensures (grind (arith, ints));
      late = λ off. subst (IsNotLater (Some (c.args.end +ℤ pos 1))) c.in-Some.ensures (grind (arith, ints));
    })

pub returns-in-None-clause-early : goal.returns-in-None-clause-early
returns-in-None-clause-early c = λ on. cc on

pub returns-in-None-clause-late : goal.returns-in-None-clause-late
returns-in-None-clause-late c = λ off. subst (IsNotLater (Some (c.args.end +ℤ pos 1))) c.in-None.ensures tt
