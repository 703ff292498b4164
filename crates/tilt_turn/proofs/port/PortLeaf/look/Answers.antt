use Rattle.std.proofs.Common.{◌∙◌, ◌+ℤ◌, [], sym, ap, get_or, refl}
use Rattle.tilt_stream.specs.Stream.{Stream, stream_of}
use Rattle.tilt_turn.proofs.Cursors.{may-stay}
use Rattle.tilt_turn.proofs.MarkBounds.{read-bounds}
use Rattle.tilt_turn.proofs.Numbered.{read-stream}
use Rattle.tilt_turn.proofs.TurnTicks.{offset-fits, tick-fits}
use Rattle.tilt_turn.proofs.port.PortLeaf.look.Goals as goal

pub earlier-requires : goal.earlier-requires
earlier-requires g c =
    let p = c.args.self.now in
    let fit = c.requires.fit.2 in
    rw (offset-fits p.offset fit.0) (read-bounds c.look-seen.result.next p.offset fit.0 c.look-seen.ensures.low c.look-seen.ensures.high)

pub returns : goal.returns
returns g c =
    let lists = g.S.Buffers.lists c.args.buffers.now in
    let p = c.args.self.now in
    let list = get_or lists p.buffer [] in
    let fit = c.requires.fit.2 in
    let seen = rw (tick-fits c.args.point p.offset c.requires.near fit.0) at c.look-seen.ensures in
    λ maps. record {
      at = (fit.0, may-stay list (c.args.point +ℤ p.offset) c.look-seen.new.self seen.moved);
      same = refl;
      sees = record {
        cell = seen.cell ∙ sym (ap (λ (x : Stream). x.cell (c.args.point +ℤ p.offset)) (read-stream lists p.buffer));
        next = rw (read-stream lists p.buffer) ((rw (offset-fits p.offset fit.0) at c.earlier.ensures.next) (stream_of list) c.args.point seen.next);
        bounds = c.earlier.ensures.bounds;
      };
    }
