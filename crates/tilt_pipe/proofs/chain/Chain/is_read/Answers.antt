use Rattle.std.proofs.Common.{◌≡◌, None, length, arith}
use Rattle.tilt_pipe.proofs.Turning.{own-readers}
use Rattle.tilt_pipe.proofs.Wanting.{not_later-none, wanted-low}
use Rattle.tilt_pipe.specs.Trimmed.{wanted_at}
use Rattle.tilt_pipe.proofs.chain.Chain.is_read.Goals as goal

pub returns : goal.returns
returns c = λ off.
    let p = c.args.self.now.rings in
    let items = c.index.result.now.readers.items in
    let of = own-readers p c.args.self.now.turns.items c.args.place c.index.result.now c.requires.turns c.requires.there c.index.ensures in
    let none : length items ≡ 0 = grind arith in
    not_later-none (wanted_at p c.args.place)
    (wanted-low p c.args.place items None c.loops.ensures.code c.loops.ensures.rings of (λ x among. absurd (omega (arith, among.1))))
