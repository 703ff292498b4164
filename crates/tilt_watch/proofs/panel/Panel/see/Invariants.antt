use Rattle.std.proofs.Common.{◌≡◌, length}
use Rattle.tilt_watch.proofs.Mid.{Mid}
use Rattle.tilt_watch.specs.Watch.{watches}
use Rattle.tilt_watch.proofs.panel.Panel.see.Given as goal

abbrev pub invariant-loop-i : goal.invariant-loop-i
invariant-loop-i g l =
    Mid l.initial.self-inside.places.items (watches (λ b. (goal.Watcher-dyn g (b.vtable, b.value)).pair b.value) (λ b. (goal.Watcher-dyn g (b.vtable, b.value)).step b.value) (λ b.
    (goal.Watcher-dyn g (b.vtable, b.value)).ends b.value) l.initial.list.items)
    l.row l.self-inside.places.items
    (watches (λ b. (goal.Watcher-dyn g (b.vtable, b.value)).pair b.value) (λ b. (goal.Watcher-dyn g (b.vtable, b.value)).step b.value) (λ b. (goal.Watcher-dyn g
    (b.vtable, b.value)).ends b.value) l.list.items) l.i l.at
    × (length l.self-inside.places.items ≡ length l.initial.self-inside.places.items)
