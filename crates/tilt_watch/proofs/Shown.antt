-- Snapshots that are shown one by one.
use Rattle.std.proofs.Common.{◌≡◌, ◌∙◌, ◌<◌, ◌+◌, ℕ, List, [], ◌∷◌, ◌++◌, length, take, get_or, sym, ap}
use Rattle.std.specs.Prelude.{is_some}
use Rattle.std.proofs.lemmas.List.{take_more}
use Rattle.std.proofs.lemmas.List.Elements.{filter-append}
use Rattle.tilt_stream.specs.Snap.{Snapshot}
use Rattle.tilt_watch.proofs.PlacesAfter.{both-then}
use Rattle.tilt_watch.specs.Places.{left_after, places_after}
use Rattle.tilt_watch.specs.Watch.{Watch, rows_of}
use Rattle.tilt_watch.specs.declared.place.Place.{Place}

-- the rows of one more snapshot
rows-next : (all : List Snapshot) (s : Snapshot) (i : ℕ) → i < length all → s ≡ get_or all i s → rows_of (take (i + 1) all) ≡ rows_of (take i all) ++ rows_of (s ∷ [])
rows-next all s i within is =
    ap rows_of (take_more all i s within ∙ ap (λ (t : Snapshot). take i all ++ t ∷ []) (sym is))
    ∙ filter-append (λ (t : Snapshot). is_some t.value) (take i all) (s ∷ [])

-- one more was shown
pub shown-more : (places mid new : List Place) (list now later : List Watch) (all : List Snapshot) (s : Snapshot) (i : ℕ) → i < length all → s ≡ get_or all i s
    → mid ≡ places_after places list (rows_of (take i all)) → now ≡ left_after list (rows_of (take i all)) → new ≡ places_after mid now (rows_of (s ∷ []))
    → later ≡ left_after now (rows_of (s ∷ []))
    → (new ≡ places_after places list (rows_of (take (i + 1) all))) × (later ≡ left_after list (rows_of (take (i + 1) all)))
shown-more places mid new list now later all s i within is mid_is now_is new_is later_is =
    let both = both-then places mid new list now later (rows_of (take i all)) (rows_of (s ∷ [])) mid_is now_is new_is later_is in
    let rows = sym (rows-next all s i within is) in
    (both.0 ∙ ap (places_after places list) rows, both.1 ∙ ap (left_after list) rows)
