use Rattle.std.proofs.Common.{◌+ℤ◌, pos, [], get_or, inr, ap, arith}
use Rattle.std.proofs.lemmas.Int.{ints}
use Rattle.std.proofs.lemmas.Result.{on_ok_weaker}
use Rattle.tilt_base.specs.declared.reducer.Reducer.{Reducer}
use Rattle.tilt_code.specs.declared.instr.Instr.TheVariants.{Win}
use Rattle.tilt_turn.proofs.Cursors.{knows-may, may-later}
use Rattle.tilt_turn.proofs.Numbered.{both-ok}
use Rattle.tilt_turn.proofs.TurnTicks.{next-fits, tick-fits}
use Rattle.tilt_turn.proofs.span.WindowLeaf.move_to.Goals as goal

pub move_to-requires-clause-cursor : goal.move_to-requires-clause-cursor
move_to-requires-clause-cursor g c =
    let w = c.args.self.now in
    let list = get_or (g.S.Buffers.lists c.args.buffers.now) w.buffer [] in
    let before = c.requires.fit.0 in
    let onwards = c.requires.fit.1 in
    let fit = c.requires.fit.2 in
    rw (tick-fits c.args.point w.to c.requires.may.near fit.readable.high)
    (may-later list (before +ℤ w.to) (c.args.point +ℤ w.to) w.window.back fit.cursor (omega (arith, ints)))

pub move_to-requires-clause-kept : goal.move_to-requires-clause-kept
move_to-requires-clause-kept g c =
    rw (next-fits c.args.point c.args.self.now.from c.requires.may.near c.requires.fit.2.readable.low) c.requires.may.kept

pub move_to-requires-clause-begins : goal.move_to-requires-clause-begins
move_to-requires-clause-begins g c =
    let w = c.args.self.now in
    let before = c.requires.fit.0 in
    let onwards = c.requires.fit.1 in (
      before +ℤ w.from +ℤ pos 1,
      rw (next-fits c.args.point w.from c.requires.may.near c.requires.fit.2.readable.low) (omega (arith, ints)),
      c.requires.fit.2.begins,
    )

pub returns-clause-at : goal.returns-clause-at
returns-clause-at g c =
    let w = c.args.self.now in
    let r = c.requires.fit.2.readable in
    let first_is = next-fits c.args.point w.from c.requires.may.near r.low in
    let list = get_or (g.S.Buffers.lists c.args.buffers.now) w.buffer [] in
    both-ok c.move_to.result _ _ _ c.move_to.ensures.moved c.move_to.ensures.held
    (λ moved held.
    let stands = rw (tick-fits c.args.point w.to c.requires.may.near r.high) at moved.stands in
    record {
      at = record {
        readable = r;
        cursor = knows-may list (c.args.point +ℤ w.to) c.move_to.new.self moved.knows (rw stands (omega (arith, ints)));
        begins = record { held = rw first_is at held; known = λ some. record { place = moved.knows.place; known = inr moved.knows } };
      };
      last = stands;
      knows = moved.knows;
    })

pub returns-clause-same : goal.returns-clause-same
returns-clause-same g c =
    let w = c.args.self.now in
    on_ok_weaker c.move_to.result (λ moved. ap (λ (reducer : Reducer). Win reducer w.buffer w.from w.to w.map) moved.reducer)
    c.move_to.ensures.moved
