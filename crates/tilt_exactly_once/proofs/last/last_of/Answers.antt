use Rattle.std.proofs.Common.{rules, ◌≡◌, ◌-◌, ◌∙◌, ◌++◌, length}
use Rattle.std.specs.Prelude.{drop}
use Rattle.tilt_exactly_once.proofs.Lasts.{last-pieces}
use Rattle.tilt_exactly_once.proofs.last.last_of.Goals as goal

pub returns : goal.returns
returns c =
    let last = c.args.last.now in
    let piece = c.args.piece.now in
    let n = c.min-new.result in
    let m = c.min-old.result in
    let joined : c.put-2.new.text.items ≡ drop (length last - m) last ++ drop (length piece - n) piece = search rules in
    joined ∙ last-pieces last piece n m c.min-new.ensures c.min-old.ensures
