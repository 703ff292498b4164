use Rattle.std.proofs.Common.{◌+◌, ◌++◌, [], ◌∷◌, ◌∙◌, length, take, drop, Ok, sym, ap, append_assoc}
use Rattle.tilt_stream.specs.Text.{lines_of}
use Rattle.tilt_outside.proofs.Puts.{puts-none, puts-then, puts-short}
use Rattle.tilt_series.proofs.Writes.{lines_of-parts, lines_of-take, length_front}
use Rattle.tilt_series.proofs.print.put_rows.Goals as goal

pub loop-snap-init : goal.loop-snap-init
loop-snap-init g c = puts-none _ _ _ _ _

pub put_snap-requires : goal.put_snap-requires
put_snap-requires g c =
    let list = c.as_slice-snap-items.result.now in
    let s = c.snap-item.result in
    let short = length_front list s c.loop-snap.snap-index c.loop-snap-test.true c.snap-item.is in
    let all = rw (sym c.as_slice-snap-items.ensures.snaps) at c.requires in
    c.loop-snap.invariant.room (length (lines_of (s ∷ []))) (g.met.O.Sink.takes_fewer c.args.sink.now _ (length (lines_of list)) short all)

pub returns-in_err-put_snap : goal.returns-in_err-put_snap
returns-in_err-put_snap g c =
    let list = c.as_slice-snap-items.result.now in
    let s = c.snap-item.result in
    let i = c.loop-snap.snap-index in
    let front = lines_of (take i list) in
    let behind = lines_of (drop (i + 1) list) in
    let parts = ap lines_of (sym c.as_slice-snap-items.ensures.snaps) ∙ lines_of-parts list s i c.loop-snap-test.true c.snap-item.is ∙ sym (append_assoc front (lines_of (s ∷ [])) behind) in
    let cut = puts-then _ _ _ _ c.args.sink.now c.loop-snap.sink c.put_snap.new.sink front (lines_of (s ∷ [])) _ c.loop-snap.invariant c.in_err-put_snap.ensures in
    rw parts (puts-short _ _ _ _ g.met.O.Sink.takes_fewer _ _ (front ++ lines_of (s ∷ [])) behind _ c.from_residual.result c.from_residual.ensures.0 cut)

pub loop-snap-preserved : goal.loop-snap-preserved
loop-snap-preserved g c =
    let list = c.as_slice-snap-items.result.now in
    let s = c.snap-item.result in
    rw (lines_of-take list s c.loop-snap.snap-index c.loop-snap-test.true c.snap-item.is)
    (puts-then _ _ _ _ c.args.sink.now c.loop-snap.sink c.put_snap.new.sink (lines_of (take c.loop-snap.snap-index list)) (lines_of (s ∷ [])) (Ok tt)
    c.loop-snap.invariant c.in_ok-put_snap.ensures)
