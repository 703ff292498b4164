use Rattle.std.proofs.Common.{◌≡◌, take}
use Rattle.tilt_watch.specs.Places.{AreInStep, left_after, places_after}
use Rattle.tilt_watch.specs.Watch.{rows_of, watches}
use Rattle.tilt_watch.proofs.showing.show.Given as goal

abbrev pub invariant-loop-snap : goal.invariant-loop-snap
invariant-loop-snap g l = record {
  places : l.panel ≡ places_after l.initial.panel (watches (λ b. (goal.Watcher-dyn g (b.vtable, b.value)).pair b.value) (λ b. (goal.Watcher-dyn g (b.vtable, b.value)).step b.value) (λ b.
      (goal.Watcher-dyn g (b.vtable, b.value)).ends b.value) l.initial.list.items)
      (rows_of (take l.snap-index l.snap-items));
  list : watches (λ b. (goal.Watcher-dyn g (b.vtable, b.value)).pair b.value) (λ b. (goal.Watcher-dyn g (b.vtable, b.value)).step b.value) (λ b. (goal.Watcher-dyn g
      (b.vtable, b.value)).ends b.value) l.list.items
      ≡ left_after (watches (λ b. (goal.Watcher-dyn g (b.vtable, b.value)).pair b.value) (λ b. (goal.Watcher-dyn g (b.vtable, b.value)).step b.value) (λ b. (goal.Watcher-dyn g
      (b.vtable, b.value)).ends b.value) l.initial.list.items) (rows_of (take l.snap-index l.snap-items));
  in_step : AreInStep l.panel (watches (λ b. (goal.Watcher-dyn g (b.vtable, b.value)).pair b.value) (λ b. (goal.Watcher-dyn g (b.vtable, b.value)).step b.value) (λ b. (goal.Watcher-dyn g
      (b.vtable, b.value)).ends b.value) l.list.items);
}
