use Rattle.std.proofs.Common.{◌∙◌, ◌++◌, List, ℕ, ap}
use Rattle.tilt_exactly_once.proofs.Lasts.{last-more}
use Rattle.tilt_exactly_once.specs.Last.{last_of}
use Rattle.tilt_exactly_once.proofs.framed_machine.FramedMachineMachine.take.Goals as goal

pub returns-clause-is : goal.returns-clause-is
returns-clause-is g c of bytes kept =
    let piece = c.args.piece.now in
    record {
      machine_is = c.in_ok-out.ensures.is of bytes kept.machine_is;
      last = c.in-Ok.ensures ∙ ap (λ (l : List ℕ). last_of (l ++ piece)) (c.deref.ensures.value ∙ kept.last) ∙ last-more bytes piece;
    }
