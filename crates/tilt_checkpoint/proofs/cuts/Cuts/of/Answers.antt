use Rattle.std.proofs.Common.{FitsSigned, rules}
use Rattle.std.specs.Int.{w64}
use Rattle.std.proofs.lemmas.Int.{to_z-of_z}
use Rattle.tilt_checkpoint.proofs.Leasts.{cuts_among}
use Rattle.tilt_checkpoint.proofs.cuts.Cuts.of.Goals as goal

pub invariant_of-result : goal.invariant_of-result
invariant_of-result c =
    let fits : FitsSigned w64 c.least_in-least.result = search rules in
    rw (to_z-of_z w64 c.least_in-least.result fits)
    (cuts_among c.least_in-least.result c.args.each.items c.requires.some c.requires.range (rw (← c.deref.ensures.value) c.least_in-least.ensures))

pub returns-clause-cuts : goal.returns-clause-cuts
returns-clause-cuts c = invariant_of-result c
