use Rattle.std.proofs.Common.{◌∙◌, FitsSigned, Some, refl, rules, sym, to_z-of_z, w64}
use Rattle.std.proofs.lemmas.Option.{same_Some}
use Rattle.tilt_live.proofs.Lives.{run-later}
use Rattle.tilt_live.specs.declared.live.Live.{Live}
use Rattle.tilt_live.proofs.live.Live.horizon.Goals as goal

pub returns-in-Some-clause-tick : goal.returns-in-Some-clause-tick
returns-in-Some-clause-tick c = λ accepted code left returned is.
    let fits : FitsSigned w64 c.in-Some.tick = search rules in
    to_z-of_z fits ∙ is.known c.in-Some.tick c.in-Some.is

pub returns-clause-tick : goal.returns-clause-tick
returns-clause-tick c = λ accepted code left returned is.
    let fits : FitsSigned w64 c.in_ok-tick.tick = search rules in
    to_z-of_z fits ∙ c.in_ok-tick.ensures accepted code left returned is

pub returns-clause-running : goal.returns-clause-running
returns-clause-running c = λ accepted code left returned is.
    let live = c.args.self.now in
    let found = c.in_ok-tick.tick in
    let fits : FitsSigned w64 found = search rules in
    let later : Live = record { accepted = live.accepted; engine = live.engine; refused = live.refused; known = Some found; upto = live.upto; alloc = live.alloc } in
    rw (to_z-of_z fits)
    (run-later live later refl refl accepted code left returned is returned is.runs (λ tick e. same_Some tick found (sym e) ∙ c.in_ok-tick.ensures accepted code left returned is))
