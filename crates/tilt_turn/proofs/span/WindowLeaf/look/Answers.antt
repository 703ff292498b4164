use Rattle.std.proofs.Common.{map, subst}
use Rattle.tilt_code.specs.Body.{leaf_of}
use Rattle.tilt_code.specs.declared.instr.Instr.{Instr}
use Rattle.tilt_stream.specs.Stream.{stream_of}
use Rattle.tilt_turn.proofs.TurnTicks.{point-fits}
use Rattle.tilt_turn.specs.Sight.{Sees}
use Rattle.tilt_turn.proofs.span.WindowLeaf.look.Goals as goal

pub returns : goal.returns
returns g c =
    let r = c.args.reading.now in
    let lists = g.S.Buffers.lists r.buffers.now in
    let at = rw (point-fits r.point c.requires.may.near) at c.in_ok-move_to.ensures.at in
    let same = c.in_ok-move_to.ensures.same in
    record {
      at = at.at;
      same = same;
      sees = subst
          (λ (i : Instr). Sees (leaf_of (map stream_of lists) r.each.now.maps i) r.point (record { cell = c.cell.result; next = c.next.result }))
          same
          (record {
            cell = c.cell.ensures lists r.each.now.maps r.point at;
            next = c.next.ensures.next lists r.each.now.maps r.point at;
            bounds = c.next.ensures.bounds;
          });
    }
