-- Feeds that are finished.
use Rattle.std.proofs.Common.{◌≡◌, true, List, Some, refl, sym, subst}
use Rattle.tilt_core.specs.Core.{CoreParts}
use Rattle.tilt_core.specs.Meaning.{output_of}
use Rattle.tilt_feed.specs.Events.{after}
use Rattle.tilt_feed.specs.Feed.{Feed, closed_rows}
use Rattle.tilt_feed.specs.Printed.{printed}
use Rattle.tilt_feed.specs.declared.event.Event.TheVariants.{Finish}
use Rattle.tilt_stream.specs.Snap.{Snapshot}

-- nothing changes if a finished feed is finished
finished_is : (feed : Feed) → feed.finished ≡ true → after Finish feed ≡ feed
finished_is feed is = rw is refl

-- all that is printed for a finished feed is the output on its rows
pub whole-output : (core : CoreParts) → (feed : Feed) → (rows : List (List Snapshot)) → feed.finished ≡ true → rows ≡ closed_rows feed
    → output_of core (closed_rows (after Finish feed)) ≡ Some (printed core (after Finish feed))
    → output_of core rows ≡ Some (printed core feed)
whole-output core feed rows finished rows_are closed =
    subst (λ (rs : List (List Snapshot)). output_of core rs ≡ Some (printed core feed)) (sym rows_are)
    (subst (λ (f : Feed). output_of core (closed_rows f) ≡ Some (printed core f)) (finished_is feed finished) closed)
