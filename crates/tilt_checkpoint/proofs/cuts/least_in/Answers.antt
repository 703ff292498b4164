use Rattle.std.proofs.Common.{FitsSigned, get_or, pos, rules}
use Rattle.std.specs.Int.{w64}
use Rattle.std.proofs.lemmas.Int.{to_z-of_z}
use Rattle.tilt_checkpoint.proofs.Leasts.{first_among, least_of-is}
use Rattle.tilt_checkpoint.proofs.cuts.least_in.Goals as goal

pub returns : goal.returns
returns c =
    let fits : FitsSigned w64 c.least_of.result = search rules in
    let first = get_or c.args.numbers.now 0 (pos 0) in
    let first_fits : FitsSigned w64 first = search rules in
    rw (to_z-of_z w64 c.least_of.result fits, c.least_of.ensures, to_z-of_z w64 first first_fits)
    (least_of-is first c.args.numbers.now (first_among c.args.numbers.now (pos 0) c.requires))
