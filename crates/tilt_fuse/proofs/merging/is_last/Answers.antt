use Rattle.std.proofs.Common.{◌≡◌, ◌∙◌, ◌+◌, ℕ, suc, length, ap, arith}
use Rattle.std.specs.Prelude.{◌==◌}
use Rattle.tilt_fuse.proofs.Places.{none-behind}
use Rattle.tilt_fuse.proofs.merging.is_last.Goals as goal

pub returns : goal.returns
returns c =
    let low = c.requires.place in
    let next : c.args.place + 1 ≡ suc c.args.place = omega arith in
    ap (λ (n : ℕ). n == length c.args.query.now.defs.now) next ∙ none-behind c.args.query.now.defs.now (suc c.args.place) (omega arith)
