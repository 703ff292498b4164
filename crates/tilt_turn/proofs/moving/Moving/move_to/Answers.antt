use Rattle.std.proofs.Common.{w64, arith}
use Rattle.std.proofs.lemmas.Int.{ints, clamps, to_z-of_z}
use Rattle.std.proofs.lemmas.Result.{on_ok_weaker}
use Rattle.std.specs.Int.{int_max}
use Rattle.tilt_turn.proofs.Cursors.{kept-later}
use Rattle.tilt_turn.proofs.moving.Moving.move_to.Goals as goal

pub extend-requires-clause-some : goal.extend-requires-clause-some
extend-requires-clause-some g c =
    let stands = c.in_ok-begin_from.ensures.moved.stands in
    let some = c.requires.some in
    let onwards = c.requires.cursor.onwards in
    omega (arith, ints, clamps)

pub extend-requires-clause-kept : goal.extend-requires-clause-kept
extend-requires-clause-kept g c =
    let s = c.args.source.now in
    let fits = to_z-of_z w64 c.args.first c.ranges.first in
    let stands = rw fits at c.in_ok-begin_from.ensures.moved.stands in
    rw stands (kept-later (g.B.Buffer.list s.buffer.now) (g.B.Buffer.forgotten s.buffer.now) c.args.first
    (int_max c.args.first c.args.self.now.back.tick) c.requires.kept (omega (arith, ints, clamps)))

pub extend-requires-clause-held : goal.extend-requires-clause-held
extend-requires-clause-held g c =
    let fits = to_z-of_z w64 c.args.first c.ranges.first in
    let last_fits = to_z-of_z w64 c.args.last c.ranges.last in
    let stands = rw fits at c.in_ok-begin_from.ensures.moved.stands in
    (c.args.first, rw stands (omega (arith, ints, clamps)), rw last_fits c.requires.few, rw fits at c.in_ok-begin_from.ensures.held)

pub returns-clause-held : goal.returns-clause-held
returns-clause-held g c =
    let fits = to_z-of_z w64 c.args.first c.ranges.first in
    let stands = rw fits at c.in_ok-begin_from.ensures.moved.stands in
    on_ok_weaker c.extend.result
    (λ goes. goes c.args.first (rw stands (omega (arith, ints, clamps))) (rw fits at c.in_ok-begin_from.ensures.held))
    c.extend.ensures.held
