use Rattle.tilt_syntax.proofs.Parsing.{emit-in-place, input-in-place, let-in-place}
use Rattle.tilt_syntax.proofs.parser.is_in_place.Goals as goal

pub returns-in-Emit : goal.returns-in-Emit
returns-in-Emit c = rw c.in-Emit.is (emit-in-place c.args.behind.now _ _ _ _ c.is_empty.ensures)

pub returns-in-Input : goal.returns-in-Input
returns-in-Input c = rw c.in-Input.is (input-in-place c.args.behind.now _ _ c.is_empty-in-Input.ensures)

pub returns-in-Let : goal.returns-in-Let
returns-in-Let c = rw c.in-Let.is (let-in-place c.args.behind.now _ _ _ _ _ c.is_empty-in-Let.ensures)
