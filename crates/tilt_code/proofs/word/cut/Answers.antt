use Rattle.std.proofs.Common.{ap, ◌∙◌}
use Rattle.tilt_code.proofs.Pieces.{cut_pieces, pieces-cut}
use Rattle.tilt_code.proofs.word.cut.Goals as goal

pub returns-in-Some : goal.returns-in-Some
returns-in-Some c =
    pieces-cut c.args.mark c.args.bytes.now ∙ ap (cut_pieces c.args.mark c.args.bytes.now) c.in-Some.ensures

pub returns-in-None : goal.returns-in-None
returns-in-None c =
    pieces-cut c.args.mark c.args.bytes.now ∙ ap (cut_pieces c.args.mark c.args.bytes.now) c.in-None.ensures
