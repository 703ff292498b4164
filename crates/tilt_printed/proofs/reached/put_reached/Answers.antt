use Rattle.std.proofs.Common.{◌≡◌, get_or, take, None, Ok}
use Rattle.std.proofs.lemmas.List.{take_all}
use Rattle.tilt_outside.proofs.Puts.{puts-none, puts-then, puts-short}
use Rattle.tilt_printed.proofs.Sizes.{all_parts, front_more, front_short, same_item}
use Rattle.tilt_printed.specs.Reached.{reached_line}
use Rattle.tilt_printed.proofs.reached.put_reached.Goals as goal

pub loop-span-init : goal.loop-span-init
loop-span-init g c = puts-none _ _ _ _ _

pub put_line-requires : goal.put_line-requires
put_line-requires g c =
    let short = front_short reached_line c.args.reached.now (get_or c.args.reached.now c.loop-span.span-index None) c.loop-span.span-index c.loop-span-test.true
    (same_item c.args.reached.now c.loop-span.span-index None _ c.loop-span-test.true) in
    c.loop-span.invariant.room _ (g.met.O.Sink.takes_fewer c.args.out.now _ _ short c.requires)

pub returns-in_err-put_line : goal.returns-in_err-put_line
returns-in_err-put_line g c =
    let parts = all_parts reached_line c.args.reached.now (get_or c.args.reached.now c.loop-span.span-index None) c.loop-span.span-index c.loop-span-test.true
    (same_item c.args.reached.now c.loop-span.span-index None _ c.loop-span-test.true) in
    let cut = puts-then _ _ _ _ c.args.out.now c.loop-span.out c.put_line.new.out _ _ _ c.loop-span.invariant c.in_err-put_line.ensures in
    rw parts (puts-short _ _ _ _ g.met.O.Sink.takes_fewer _ _ _ _ _ c.from_residual.result c.from_residual.ensures.0 cut)

pub loop-span-preserved : goal.loop-span-preserved
loop-span-preserved g c =
    rw (front_more reached_line c.args.reached.now (get_or c.args.reached.now c.loop-span.span-index None) c.loop-span.span-index c.loop-span-test.true
    (same_item c.args.reached.now c.loop-span.span-index None _ c.loop-span-test.true))
    (puts-then _ _ _ _ c.args.out.now c.loop-span.out c.put_line.new.out _ _ (Ok tt) c.loop-span.invariant c.in_ok-put_line.ensures)

pub returns : goal.returns
returns g c =
    let all : take c.loop-span.span-index c.args.reached.now ≡ c.args.reached.now = take_all _ _ c.loop-span-test.false in
    rw (← all) c.loop-span.invariant
