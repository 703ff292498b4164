use Rattle.std.proofs.Common.{sym}
use Rattle.tilt_watch.proofs.PlacesAfter.{left-none, places-none}
use Rattle.tilt_watch.proofs.Shown.{shown-more}
use Rattle.tilt_watch.proofs.showing.show.Goals as goal

pub loop-snap-init : goal.loop-snap-init
loop-snap-init g c = record { places = sym (places-none _ _ c.requires); list = sym (left-none _); in_step = c.requires }

pub loop-snap-preserved : goal.loop-snap-preserved
loop-snap-preserved g c =
    let i = c.loop-snap.invariant in
    let more = shown-more c.args.panel.now c.loop-snap.panel c.show_snap.new.panel _ _ _ _ c.snap-item.result c.loop-snap.snap-index c.loop-snap-test.true c.snap-item.is
    i.places i.list c.show_snap.ensures.places c.show_snap.ensures.list in
    record { places = more.0; list = more.1; in_step = c.show_snap.ensures.in_step }
