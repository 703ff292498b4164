use Rattle.std.proofs.Common.{arith, length, pos, int_div, FitsSigned, subst, sym, ap}
use Rattle.std.specs.Int.{w64}
use Rattle.std.proofs.lemmas.Int.{to_z-of_z}
use Rattle.tilt_base.proofs.Average.{average_fits, average_is}
use Rattle.tilt_base.proofs.reducer.average.Goals as goal

pub overflow_cast-result-2 : goal.overflow_cast-result-2
overflow_cast-result-2 c =
    let n = length c.args.numbers.now in
    let fits = average_fits c.total.result n c.total.ensures.low c.total.ensures.high in
    let is = average_is c.total.result n (record { sfits = c.total.type_inv }) (omega arith) fits in
    subst (FitsSigned w64) (sym is) fits

pub returns : goal.returns
returns c =
    let n = length c.args.numbers.now in
    let fits = average_fits c.total.result n c.total.ensures.low c.total.ensures.high in
    let is = average_is c.total.result n (record { sfits = c.total.type_inv }) (omega arith) fits in
    rw (is, to_z-of_z w64 (int_div c.total.result (pos n)) fits) (ap (λ s. int_div s (pos n)) c.total.ensures.value)
