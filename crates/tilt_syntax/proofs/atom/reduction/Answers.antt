use Rattle.std.proofs.Common.{rules, ◌≡◌, to_z, of_z, w64}
use Rattle.tilt_syntax.proofs.atom.reduction.Goals as goal

pub returns : goal.returns
returns c =
    let from : to_z w64 (of_z w64 c.in-Some.from) ≡ c.in-Some.from = search rules in
    let to : to_z w64 (of_z w64 c.in-Some.to) ≡ c.in-Some.to = search rules in
    rw (c.in_ok-name.ensures, from, to) (c.in-Some.ensures c.args.reducer)
