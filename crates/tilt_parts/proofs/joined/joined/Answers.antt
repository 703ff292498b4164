use Rattle.std.proofs.Common.{ap}
use Rattle.tilt_parts.proofs.Whole.{midway-end, midway-lists, midway-step}
use Rattle.tilt_parts.specs.Part.{PartValue}
use Rattle.tilt_parts.proofs.joined.joined.Goals as goal

pub join-requires : goal.join-requires
join-requires c =
    let m = c.requires in
    let taken = ap (λ (p : PartValue). p.taken) c.part.view_is in
    rw taken (midway-lists m.0 m.1 m.2 c.loop-part.list c.args.later.now c.loop-part.part-index c.part-item.result c.loop-part-test.true c.part-item.is
    (c.loop-part.invariant m.0 m.1 m.2 m.3))

pub loop-part-preserved : goal.loop-part-preserved
loop-part-preserved c = λ x lo hi m.
    let taken = ap (λ (p : PartValue). p.taken) c.part.view_is in
    rw (c.in_ok-join.ensures, taken) (midway-step x lo hi c.loop-part.list c.args.later.now c.loop-part.part-index c.part-item.result c.loop-part-test.true
    c.part-item.is (c.loop-part.invariant x lo hi m))

pub returns : goal.returns
returns c = λ x lo hi m.
    midway-end x lo hi c.loop-part.list c.args.later.now c.loop-part.part-index c.loop-part-test.false (c.loop-part.invariant x lo hi m)
