-- Places and lists after rows, and after more rows.
use Rattle.std.proofs.Common.{◌≡◌, ◌∙◌, ℤ, Bool, true, false, List, [], ◌∷◌, ◌++◌, map, if◌then◌else◌, refl, sym, ap}
use Rattle.std.proofs.lemmas.Grind.{flat_map-append}
use Rattle.std.proofs.lemmas.List.{append-nil, map-append}
use Rattle.tilt_stream.specs.Snap.{Snapshot}
use Rattle.tilt_watch.specs.Places.{AreInStep, figures_of, figures_over, figures_there, left_after, left_at, place_after, places_after, places_of, with_pair}
use Rattle.tilt_watch.specs.Watch.{Watch, pairs_of}
use Rattle.tilt_watch.specs.declared.place.Place.{Place}
use Rattle.tilt_watch.specs.declared.place.Place.TheVariants.{Watching, Dropped}

-- a place, and more rows that its watcher sees if it is still there
abbrev pub place_then : Watch → Place → List Snapshot → Place
place_then watch (Watching pair) more = place_after (with_pair watch pair) more
place_then watch (Dropped pair) more = Dropped pair

-- a watcher's earlier pair doesn't matter
other_pair : (watch : Watch) (pair : ℤ × ℤ) (place : Place) (more : List Snapshot) → place_then (with_pair watch pair) place more ≡ place_then watch place more
other_pair watch pair (Watching figures) more = refl
other_pair watch pair (Dropped figures) more = refl

one_row : (is_end : Bool) (watch : Watch) (pair : ℤ × ℤ) (rows more : List Snapshot)
    → place_after (with_pair watch pair) (rows ++ more) ≡ place_then watch (place_after (with_pair watch pair) rows) more
    → (if is_end then Dropped pair else place_after (with_pair watch pair) (rows ++ more))
    ≡ place_then watch (if is_end then Dropped pair else place_after (with_pair watch pair) rows) more
one_row true watch pair rows more later = refl
one_row false watch pair rows more later = later

-- a place after rows, and after more
pub place-then : (watch : Watch) (rows more : List Snapshot) → place_after watch (rows ++ more) ≡ place_then watch (place_after watch rows) more
place-then watch [] more = refl
place-then watch (row ∷ rows) more =
    let pair = watch.step watch.pair row in
    one_row (watch.ends pair) watch pair rows more
    (place-then (with_pair watch pair) rows more ∙ other_pair watch pair (place_after (with_pair watch pair) rows) more)

-- a watcher that is left, and what is left of it
same_left : (watch : Watch) (pair : ℤ × ℤ) (place : Place) → left_at (with_pair watch pair) place ≡ left_at watch place
same_left watch pair (Watching figures) = refl
same_left watch pair (Dropped figures) = refl

left_then : (watch : Watch) (place : Place) (more : List Snapshot) → left_after (left_at watch place) more ≡ left_at watch (place_then watch place more)
left_then watch (Watching pair) more =
    append-nil (left_at (with_pair watch pair) (place_after (with_pair watch pair) more)) ∙ same_left watch pair (place_after (with_pair watch pair) more)
left_then watch (Dropped pair) more = refl

-- a list after rows, and after more
pub left-then : (list : List Watch) (rows more : List Snapshot) → left_after (left_after list rows) more ≡ left_after list (rows ++ more)
left-then [] rows more = refl
left-then (watch ∷ list) rows more =
    let place = place_after watch rows in
    flat_map-append (λ (w : Watch). left_at w (place_after w more)) (left_at watch place) (left_after list rows)
    ∙ (λ i. left_then watch place more i ++ left-then list rows more i)
    ∙ ap (λ (p : Place). left_at watch p ++ left_after list (rows ++ more)) (sym (place-then watch rows more))

-- no rows change nothing
pub left-none : (list : List Watch) → left_after list [] ≡ list
left-none [] = refl
left-none (watch ∷ list) = ap (λ (rest : List Watch). watch ∷ rest) (left-none list)

same_place : (watch : Watch) (place : Place) (places : List Place) (list : List Watch) (more : List Snapshot)
    → places_after (place ∷ places) (left_at watch place ++ list) more ≡ place_then watch place more ∷ places_after places list more
same_place watch (Watching pair) places list more = refl
same_place watch (Dropped pair) places list more = refl

-- places after rows, and after more
pub places-then : (places : List Place) (list : List Watch) (rows more : List Snapshot)
    → places_after (places_after places list rows) (left_after list rows) more ≡ places_after places list (rows ++ more)
places-then [] list rows more = refl
places-then (Dropped pair ∷ places) list rows more = ap (λ (rest : List Place). Dropped pair ∷ rest) (places-then places list rows more)
places-then (Watching pair ∷ places) [] rows more = refl
places-then (Watching pair ∷ places) (watch ∷ list) rows more =
    same_place watch (place_after watch rows) (places_after places list rows) (left_after list rows) more
    ∙ (λ i. sym (place-then watch rows more) i ∷ places-then places list rows more i)

-- no rows change no places that are in step
pub places-none : (places : List Place) (list : List Watch) → AreInStep places list → places_after places list [] ≡ places
places-none [] list same = refl
places-none (Dropped pair ∷ places) list same = ap (λ (rest : List Place). Dropped pair ∷ rest) (places-none places list same)
places-none (Watching pair ∷ places) [] same = refl
places-none (Watching pair ∷ places) (watch ∷ list) same =
    let first : watch.pair ≡ pair = cc same in
    let rest : AreInStep places list = cc same in
    (λ i. Watching (first i) ∷ places-none places list rest i)

pair_there : (watch : Watch) (place : Place) → pairs_of (left_at watch place) ≡ figures_there place
pair_there watch (Watching pair) = refl
pair_there watch (Dropped pair) = refl

-- a list that is in step stays so
pub in_step-after : (places : List Place) (list : List Watch) (rows : List Snapshot) → AreInStep places list
    → AreInStep (places_after places list rows) (left_after list rows)
in_step-after [] [] rows same = refl
in_step-after [] (watch ∷ list) rows same = absurd (cc same)
in_step-after (Dropped pair ∷ places) list rows same = in_step-after places list rows same
in_step-after (Watching pair ∷ places) [] rows same = same
in_step-after (Watching pair ∷ places) (watch ∷ list) rows same =
    let rest : AreInStep places list = cc same in
    map-append (λ (w : Watch). w.pair) (left_at watch (place_after watch rows)) (left_after list rows)
    ∙ (λ i. pair_there watch (place_after watch rows) i ++ in_step-after places list rows rest i)

-- a list is in step with its places as it is at first
pub in_step-first : (list : List Watch) → AreInStep (places_of list) list
in_step-first [] = refl
in_step-first (watch ∷ list) = ap (λ (rest : List (ℤ × ℤ)). watch.pair ∷ rest) (in_step-first list)

-- the figures of all, once the list as it is at first saw rows
pub figures-after : (list : List Watch) (rows : List Snapshot) → figures_of (places_after (places_of list) list rows) ≡ map (figures_over rows) list
figures-after [] rows = refl
figures-after (watch ∷ list) rows = ap (λ (rest : List (ℤ × ℤ)). figures_over rows watch ∷ rest) (figures-after list rows)

-- rows, and more after them
pub both-then : (places mid new : List Place) (list now later : List Watch) (rows more : List Snapshot) → mid ≡ places_after places list rows → now ≡ left_after list rows
    → new ≡ places_after mid now more → later ≡ left_after now more
    → (new ≡ places_after places list (rows ++ more)) × (later ≡ left_after list (rows ++ more))
both-then places mid new list now later rows more mid_is now_is new_is later_is = (
  new_is ∙ (λ i. places_after (mid_is i) (now_is i) more) ∙ places-then places list rows more,
  later_is ∙ ap (λ (l : List Watch). left_after l more) now_is ∙ left-then list rows more,
)
