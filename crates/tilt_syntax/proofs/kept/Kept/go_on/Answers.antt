use Rattle.std.proofs.Common.{arith}
use Rattle.tilt_syntax.proofs.Keeping.{keep_one}
use Rattle.tilt_syntax.proofs.kept.Kept.go_on.Goals as goal

pub returns : goal.returns
returns c =
    let kept = c.args.self.now in
    keep_one kept.statements kept.room kept.tokens.items c.push.new.self.items c.args.token c.requires.some (omega arith) c.requires.other c.in_ok-push.ensures.items
