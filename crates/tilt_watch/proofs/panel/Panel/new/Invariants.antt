use Rattle.std.proofs.Common.{◌≡◌, take}
use Rattle.tilt_watch.specs.Places.{places_of}
use Rattle.tilt_watch.specs.Watch.{watches}
use Rattle.tilt_watch.proofs.panel.Panel.new.Given as goal

abbrev pub invariant-loop-watcher : goal.invariant-loop-watcher
invariant-loop-watcher g l =
    l.places.items ≡ places_of (watches (λ b. (goal.Watcher-dyn g (b.vtable, b.value)).pair b.value) (λ b. (goal.Watcher-dyn g (b.vtable, b.value)).step b.value) (λ b. (goal.Watcher-dyn g
    (b.vtable, b.value)).ends b.value) (take l.watcher-index l.list))
