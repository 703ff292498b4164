use Rattle.std.proofs.Common.{◌≡◌, take, Ok}
use Rattle.std.proofs.lemmas.List.{take_all}
use Rattle.tilt_outside.proofs.Puts.{puts-none, puts-then, puts-short}
use Rattle.tilt_watch.proofs.Lines.{front_more, all_parts, front_short}
use Rattle.tilt_watch.proofs.figures.put_figures.Goals as goal

pub loop-place-init : goal.loop-place-init
loop-place-init g c = puts-none _ _ _ _ _

pub put_pair-requires : goal.put_pair-requires
put_pair-requires g c =
    let within = rw c.places-place-items.ensures at c.loop-place-test.true in
    let is = rw c.places-place-items.ensures at c.figures.ensures in
    let short = front_short c.args.panel.now _ c.loop-place.place-index c.figures.result within is in
    c.loop-place.invariant.room _ (g.met.O.Sink.takes_fewer c.args.out.now _ _ short c.requires)

pub returns-in_err-put_pair : goal.returns-in_err-put_pair
returns-in_err-put_pair g c =
    let within = rw c.places-place-items.ensures at c.loop-place-test.true in
    let is = rw c.places-place-items.ensures at c.figures.ensures in
    let parts = all_parts c.args.panel.now _ c.loop-place.place-index c.figures.result within is in
    let cut = puts-then _ _ _ _ c.args.out.now c.loop-place.out c.put_pair.new.out _ _ _ c.loop-place.invariant c.in_err-put_pair.ensures in
    rw parts (puts-short _ _ _ _ g.met.O.Sink.takes_fewer _ _ _ _ _ c.from_residual.result c.from_residual.ensures.0 cut)

pub loop-place-preserved : goal.loop-place-preserved
loop-place-preserved g c =
    let within = rw c.places-place-items.ensures at c.loop-place-test.true in
    let is = rw c.places-place-items.ensures at c.figures.ensures in
    rw (front_more c.args.panel.now _ c.loop-place.place-index c.figures.result within is)
    (puts-then _ _ _ _ c.args.out.now c.loop-place.out c.put_pair.new.out _ _ (Ok tt) c.loop-place.invariant c.in_ok-put_pair.ensures)

pub returns : goal.returns
returns g c =
    let past = rw c.places-place-items.ensures at c.loop-place-test.false in
    let all : take c.loop-place.place-index c.args.panel.now ≡ c.args.panel.now = take_all _ _ past in
    rw (← all) c.loop-place.invariant
