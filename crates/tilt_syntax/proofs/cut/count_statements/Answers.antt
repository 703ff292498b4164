use Rattle.std.proofs.Common.{◌≡◌, length, ap, rules}
use Rattle.std.proofs.lemmas.List.{length-map}
use Rattle.tilt_syntax.specs.Query.{kinds}
use Rattle.tilt_syntax.proofs.Cutting.{statements-few}
use Rattle.tilt_syntax.proofs.cut.count_statements.Goals as goal

pub overflow_add-count : goal.overflow_add-count
overflow_add-count c =
    let few = statements-few (kinds c.args.tokens.now) in
    let same : length (kinds c.args.tokens.now) ≡ length c.args.tokens.now = simp length-map in
    let so_far = c.loop-rest.invariant in
    let one = ap length c.first_statement.ensures.cut in
    search (rules, few, same, so_far, one)
