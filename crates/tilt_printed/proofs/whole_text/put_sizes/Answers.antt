use Rattle.std.proofs.Common.{◌≡◌, get_or, take, Ok}
use Rattle.std.proofs.lemmas.List.{take_all}
use Rattle.tilt_outside.proofs.Puts.{puts-none, puts-then, puts-short}
use Rattle.tilt_printed.proofs.Sizes.{all_parts, front_more, front_short, same_item}
use Rattle.tilt_printed.specs.Sizes.{size_text}
use Rattle.tilt_printed.proofs.whole_text.put_sizes.Goals as goal

pub loop-size-init : goal.loop-size-init
loop-size-init g c = puts-none _ _ _ _ _

pub put_size-requires : goal.put_size-requires
put_size-requires g c =
    let short = front_short size_text c.args.sizes.now (get_or c.args.sizes.now c.loop-size.size-index 0) c.loop-size.size-index c.loop-size-test.true
    (same_item c.args.sizes.now c.loop-size.size-index 0 _ c.loop-size-test.true) in
    c.loop-size.invariant.room _ (g.met.O.Sink.takes_fewer c.args.out.now _ _ short c.requires)

pub returns-in_err-put_size : goal.returns-in_err-put_size
returns-in_err-put_size g c =
    let parts = all_parts size_text c.args.sizes.now (get_or c.args.sizes.now c.loop-size.size-index 0) c.loop-size.size-index c.loop-size-test.true
    (same_item c.args.sizes.now c.loop-size.size-index 0 _ c.loop-size-test.true) in
    let cut = puts-then _ _ _ _ c.args.out.now c.loop-size.out c.put_size.new.out _ _ _ c.loop-size.invariant c.in_err-put_size.ensures in
    rw parts (puts-short _ _ _ _ g.met.O.Sink.takes_fewer _ _ _ _ _ c.from_residual.result c.from_residual.ensures.0 cut)

pub loop-size-preserved : goal.loop-size-preserved
loop-size-preserved g c =
    rw (front_more size_text c.args.sizes.now (get_or c.args.sizes.now c.loop-size.size-index 0) c.loop-size.size-index c.loop-size-test.true
    (same_item c.args.sizes.now c.loop-size.size-index 0 _ c.loop-size-test.true))
    (puts-then _ _ _ _ c.args.out.now c.loop-size.out c.put_size.new.out _ _ (Ok tt) c.loop-size.invariant c.in_ok-put_size.ensures)

pub returns : goal.returns
returns g c =
    let all : take c.loop-size.size-index c.args.sizes.now ≡ c.args.sizes.now = take_all _ _ c.loop-size-test.false in
    rw (← all) c.loop-size.invariant
