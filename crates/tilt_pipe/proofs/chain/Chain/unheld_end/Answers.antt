use Rattle.std.proofs.Common.{FitsSigned, w64, rules}
use Rattle.std.proofs.lemmas.Int.{to_z-of_z}
use Rattle.tilt_pipe.proofs.Settled.{none-settled}
use Rattle.tilt_pipe.proofs.chain.Chain.unheld_end.Goals as goal

pub is_held-requires-clause-end : goal.is_held-requires-clause-end
is_held-requires-clause-end c =
    let fits : FitsSigned w64 c.in_ok-end.end = search rules in
    rw (to_z-of_z w64 c.in_ok-end.end fits) (λ w r of at. (c.in_ok-end.ensures w r of at).0)

pub returns-in_err-end : goal.returns-in_err-end
returns-in_err-end c = rw c.from_residual.ensures (none-settled c.args.self.now c.args.place c.in_err-end.ensures)
