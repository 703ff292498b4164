-- A finished feed: nothing comes after it.
use Rattle.std.proofs.Common.{◌≡◌, ℕ, true, List, [], ◌∷◌, Some, refl, ap, ◌∙◌}
use Rattle.tilt_feed.specs.Events.{after, after_all, event_fault}
use Rattle.tilt_feed.specs.Feed.{Feed}
use Rattle.tilt_feed.specs.declared.event.Event.{Event}
use Rattle.tilt_feed.specs.declared.event.Event.TheVariants.{Input, Finish}
use Rattle.tilt_feed.specs.declared.fault.EventFault.TheVariants.{Finished}

-- no event is allowed
pub finished-fault : (feed : Feed) (event : Event) → feed.finished ≡ true → event_fault feed event ≡ Some Finished
finished-fault feed (Input number update) is = rw is refl
finished-fault feed Finish is = rw is refl

-- so none changes it
pub finished-after : (more : List Event) (feed : Feed) → feed.finished ≡ true → after_all more feed ≡ feed
finished-after [] feed is = refl
finished-after (event ∷ more) feed is =
    let same : after event feed ≡ feed = rw (finished-fault feed event is) refl in
    ap (after_all more) same ∙ finished-after more feed is
