-- The places of watchers in a list as it was at first: which watchers are still there after rows, and with which figures each was left.
use Rattle.std.specs.Prelude.{◌≡◌, ℤ, Bool, true, false, List, [], ◌∷◌, map, if◌then◌else◌}
use Rattle.std.specs.List.{flat_map}
use Rattle.tilt_stream.specs.Snap.{Snapshot}
use Rattle.tilt_watch.specs.Watch.{Watch, pairs_of}
use Rattle.tilt_watch.specs.declared.place.Place.{Place}
use Rattle.tilt_watch.specs.declared.place.Place.TheVariants.{Watching, Dropped}

-- the watcher with another pair
abbrev pub with_pair : Watch → ℤ × ℤ → Watch
with_pair watch pair = record { pair = pair; step = watch.step; ends = watch.ends }

-- a watcher's place after rows. Its step was folded over them in order, up to and with the first at which the new pair is an end, and
-- then it was dropped. If there is none, its step was folded over all
abbrev pub place_after : Watch → List Snapshot → Place
place_after watch [] = Watching watch.pair
place_after watch (row ∷ rows) =
    if watch.ends (watch.step watch.pair row)
    then Dropped (watch.step watch.pair row)
    else place_after (with_pair watch (watch.step watch.pair row)) rows

-- a place's watcher was dropped
abbrev pub is_dropped : Place → Bool
is_dropped (Watching pair) = false
is_dropped (Dropped pair) = true

-- the last figures of a place's watcher
abbrev pub figures_at : Place → ℤ × ℤ
figures_at (Watching pair) = pair
figures_at (Dropped pair) = pair

-- the figures that a watcher has after rows
abbrev pub figures_over : List Snapshot → Watch → ℤ × ℤ
figures_over rows watch = figures_at (place_after watch rows)

-- the watcher of a place, if it is still there
abbrev pub left_at : Watch → Place → List Watch
left_at watch (Watching pair) = with_pair watch pair ∷ []
left_at watch (Dropped pair) = []

-- the watchers of a list that are still there after rows, in order, each with its figures then
abbrev pub left_after : List Watch → List Snapshot → List Watch
left_after list rows = flat_map (λ watch. left_at watch (place_after watch rows)) list

-- the places of a list as it is at first
abbrev pub places_of : List Watch → List Place
places_of list = map (λ watch. Watching watch.pair) list

-- the last figures of all
abbrev pub figures_of : List Place → List (ℤ × ℤ)
figures_of places = map figures_at places

-- the figures of a watcher that is still there
abbrev pub figures_there : Place → List (ℤ × ℤ)
figures_there (Watching pair) = pair ∷ []
figures_there (Dropped pair) = []

-- a list is in step with places: it holds the watchers that are still there, in order, each with its last figures
abbrev pub AreInStep : List Place → List Watch → Type 0
AreInStep places list = pairs_of list ≡ flat_map figures_there places

-- places after rows that the watchers of this list saw, which is in step with the places. A place whose watcher was dropped earlier stays
-- as it is, and each other one is the place of its watcher
abbrev pub places_after : List Place → List Watch → List Snapshot → List Place
places_after [] list rows = []
places_after (Dropped pair ∷ places) list rows = Dropped pair ∷ places_after places list rows
places_after (Watching pair ∷ places) [] rows = Watching pair ∷ places
places_after (Watching pair ∷ places) (watch ∷ list) rows = place_after watch rows ∷ places_after places list rows
