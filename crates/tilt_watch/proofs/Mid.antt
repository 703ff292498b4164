-- Places and a list of which the first ones saw a row.
use Rattle.std.proofs.Common.{◌≡◌, ◌∙◌, ◌<◌, ◌≤◌, ◌+◌, ℕ, List, [], ◌∷◌, ◌++◌, length, length-append, map, get_or, set, refl, sym, ap, subst, append_assoc, arith}
use Rattle.std.proofs.Math.Seq.{get_or-append_seam, set-append_seam}
use Rattle.std.proofs.lemmas.List.{length-map}
use Rattle.tilt_stream.specs.Snap.{Snapshot}
use Rattle.tilt_watch.proofs.PlacesAfter.{in_step-after}
use Rattle.tilt_watch.specs.Places.{AreInStep, left_after, left_at, place_after, places_after}
use Rattle.tilt_watch.specs.Watch.{Watch}
use Rattle.tilt_watch.specs.declared.place.Place.{Place}
use Rattle.tilt_watch.specs.declared.place.Place.TheVariants.{Watching, Dropped}

-- Of places and a list as they were, this many places were visited, and the next watcher is at that place of the list. These are the places that were visited and the others, and the watchers that
-- were kept and the others.
pub record Mid (places : List Place) (list : List Watch) (row : Snapshot) (now : List Place) (now_list : List Watch) (count at : ℕ) : Type 0 where
  pub seen : List Place
  pub others : List Place
  pub kept : List Watch
  pub rest : List Watch
  pub are : now ≡ seen ++ others
  pub holds : now_list ≡ kept ++ rest
  pub count_is : count ≡ length seen
  pub at_is : at ≡ length kept
  pub places_are : places_after places list (row ∷ []) ≡ seen ++ places_after others rest (row ∷ [])
  pub left_are : left_after list (row ∷ []) ≡ kept ++ left_after rest (row ∷ [])
  pub in_step : AreInStep others rest

-- at first
pub mid-first : (places : List Place) (list : List Watch) (row : Snapshot) → AreInStep places list → Mid places list row places list 0 0
mid-first places list row same = record {
  seen = [];
  others = places;
  kept = [];
  rest = list;
  are = refl;
  holds = refl;
  count_is = refl;
  at_is = refl;
  places_are = refl;
  left_are = refl;
  in_step = same;
}

module _ (places : List Place) (list : List Watch) (row : Snapshot) (now : List Place) (now_list : List Watch) (count at : ℕ) where
  -- a place that is visited, and what it is then
  looked_at : (seen : List Place) (old new : Place) (others : List Place) → now ≡ seen ++ old ∷ others → count ≡ length seen
      → set now count new ≡ (seen ++ new ∷ []) ++ others
  looked_at seen old new others are count_is =
      (λ i. set (are i) (count_is i) new) ∙ set-append_seam seen old others new ∙ sym (append_assoc seen (new ∷ []) others)

  one_longer : (seen : List Place) (new : Place) → count ≡ length seen → count + 1 ≡ length (seen ++ new ∷ [])
  one_longer seen new count_is = let both = length-append seen (new ∷ []) in omega (arith, both, count_is)

  module _ (old new : Place) (new_list : List Watch) (new_at : ℕ) (seen : List Place) (kept : List Watch) (count_is : count ≡ length seen) (at_is : at ≡ length kept) where
    -- its watcher was dropped earlier
    dropped_step : (figures : _) (others : List Place) (rest : List Watch) → now ≡ seen ++ Dropped figures ∷ others → now_list ≡ kept ++ rest
        → places_after places list (row ∷ []) ≡ seen ++ places_after (Dropped figures ∷ others) rest (row ∷ [])
        → left_after list (row ∷ []) ≡ kept ++ left_after rest (row ∷ []) → AreInStep others rest
        → (new ≡ Dropped figures) × (new_list ≡ now_list) × (new_at ≡ at) → Mid places list row (set now count new) new_list (count + 1) new_at
    dropped_step figures others rest are holds places_are left_are in_step did = record {
      seen = seen ++ new ∷ [];
      others = others;
      kept = kept;
      rest = rest;
      are = looked_at seen (Dropped figures) new others are count_is;
      holds = did.1 ∙ holds;
      count_is = one_longer seen new count_is;
      at_is = did.2 ∙ at_is;
      places_are = places_are ∙ ap (λ (p : Place). seen ++ p ∷ places_after others rest (row ∷ [])) (sym did.0)
          ∙ sym (append_assoc seen (new ∷ []) (places_after others rest (row ∷ [])));
      left_are = left_are;
      in_step = in_step;
    }

    -- its watcher saw the row
    watching_step : (figures : _) (others : List Place) (watch : Watch) (rest : List Watch) → now ≡ seen ++ Watching figures ∷ others
        → places_after places list (row ∷ []) ≡ seen ++ places_after (Watching figures ∷ others) (watch ∷ rest) (row ∷ [])
        → left_after list (row ∷ []) ≡ kept ++ left_after (watch ∷ rest) (row ∷ []) → AreInStep others rest
        → (new ≡ place_after watch (row ∷ [])) × (new_list ≡ kept ++ left_at watch new ++ rest) × (new_at ≡ at + length (left_at watch new))
        → Mid places list row (set now count new) new_list (count + 1) new_at
    watching_step figures others watch rest are places_are left_are in_step did =
        let both = length-append kept (left_at watch new) in
        record {
          seen = seen ++ new ∷ [];
          others = others;
          kept = kept ++ left_at watch new;
          rest = rest;
          are = looked_at seen (Watching figures) new others are count_is;
          holds = did.1;
          count_is = one_longer seen new count_is;
          at_is = omega (arith, both, at_is, did.2);
          places_are = places_are ∙ ap (λ (p : Place). seen ++ p ∷ places_after others rest (row ∷ [])) (sym did.0)
              ∙ sym (append_assoc seen (new ∷ []) (places_after others rest (row ∷ [])));
          left_are = left_are ∙ ap (λ (p : Place). kept ++ (left_at watch p ++ left_after rest (row ∷ []))) (sym did.0)
              ∙ sym (append_assoc kept (left_at watch new) (left_after rest (row ∷ [])));
          in_step = in_step;
        }

  -- what is left when all were visited
  none_left : (seen others : List Place) → count ≡ length seen → now ≡ seen ++ others → length now ≤ count → others ≡ []
  none_left seen [] count_is are all = refl
  none_left seen (place ∷ others) count_is are all = let both = ap length are ∙ length-append seen (place ∷ others) in absurd (omega (arith, both, count_is, all))

  none_held : (others : List Place) (rest : List Watch) → others ≡ [] → AreInStep others rest → rest ≡ []
  none_held [] [] none same = refl
  none_held [] (watch ∷ rest) none same = absurd (cc same)
  none_held (place ∷ others) rest none same = absurd (cc none)

  -- the place that comes next is the first of the others
  pub next_is : (seen : List Place) (place old : Place) (others : List Place) → now ≡ seen ++ place ∷ others → count ≡ length seen → old ≡ get_or now count old
      → old ≡ place
  next_is seen place old others are count_is is =
      is ∙ (λ i. get_or (are i) (count_is i) old) ∙ get_or-append_seam seen place others old

  room : (seen others : List Place) (kept rest : List Watch) → now ≡ seen ++ others → now_list ≡ kept ++ rest → count ≡ length seen → at ≡ length kept → AreInStep others rest
      → (old : Place) (figures : _) → count < length now → old ≡ get_or now count old → old ≡ Watching figures → at < length now_list
  room seen [] kept rest are holds count_is at_is same old figures within is watching =
      let both = ap length are ∙ length-append seen [] in absurd (omega (arith, both, count_is, within))
  room seen (Dropped pair ∷ others) kept rest are holds count_is at_is same old figures within is watching =
      let dropped = next_is seen (Dropped pair) old others are count_is is in absurd (cc (dropped, watching))
  room seen (Watching pair ∷ others) kept [] are holds count_is at_is same old figures within is watching = absurd (cc same)
  room seen (Watching pair ∷ others) kept (watch ∷ rest) are holds count_is at_is same old figures within is watching =
      let both = ap length holds ∙ length-append kept (watch ∷ rest) in omega (arith, both, at_is)

  step : (seen others : List Place) (kept rest : List Watch) → now ≡ seen ++ others → now_list ≡ kept ++ rest → (count_is : count ≡ length seen) → (at_is : at ≡ length kept)
      → places_after places list (row ∷ []) ≡ seen ++ places_after others rest (row ∷ []) → left_after list (row ∷ []) ≡ kept ++ left_after rest (row ∷ [])
      → AreInStep others rest → (old new : Place) (new_list : List Watch) (new_at : ℕ) → count < length now → old ≡ get_or now count old
      → ((figures : _) → old ≡ Dropped figures → (new ≡ old) × (new_list ≡ now_list) × (new_at ≡ at))
      → ((figures : _) (k : List Watch) (w : Watch) (r : List Watch) → old ≡ Watching figures → now_list ≡ k ++ w ∷ r → at ≡ length k
      → (new ≡ place_after w (row ∷ [])) × (new_list ≡ k ++ left_at w new ++ r) × (new_at ≡ at + length (left_at w new)))
      → Mid places list row (set now count new) new_list (count + 1) new_at
  step seen [] kept rest are holds count_is at_is places_are left_are same old new new_list new_at within is dropped watching =
      let both = ap length are ∙ length-append seen [] in absurd (omega (arith, both, count_is, within))
  step seen (Dropped pair ∷ others) kept rest are holds count_is at_is places_are left_are same old new new_list new_at within is dropped watching =
      let here = next_is seen (Dropped pair) old others are count_is is in
      let did = dropped pair here in
      dropped_step old new new_list new_at seen kept count_is at_is pair others rest are holds places_are left_are same (did.0 ∙ here, did.1, did.2)
  step seen (Watching pair ∷ others) kept [] are holds count_is at_is places_are left_are same old new new_list new_at within is dropped watching = absurd (cc same)
  step seen (Watching pair ∷ others) kept (watch ∷ rest) are holds count_is at_is places_are left_are same old new new_list new_at within is dropped watching =
      let here = next_is seen (Watching pair) old others are count_is is in
      let later : AreInStep others rest = cc same in
      watching_step old new new_list new_at seen kept count_is at_is pair others watch rest are places_are left_are later (watching pair kept watch rest here holds at_is)

  module _ (mid : Mid places list row now now_list count at) where
    -- if the next place has a watcher, it is in the list
    pub mid-room : (old : Place) (figures : _) → count < length now → old ≡ get_or now count old → old ≡ Watching figures → at < length now_list
    mid-room old figures within is watching =
        room mid.seen mid.others mid.kept mid.rest mid.are mid.holds mid.count_is mid.at_is mid.in_step old figures within is watching

    -- one more place was visited
    pub mid-step : (old new : Place) (new_list : List Watch) (new_at : ℕ) → count < length now → old ≡ get_or now count old
        → ((figures : _) → old ≡ Dropped figures → (new ≡ old) × (new_list ≡ now_list) × (new_at ≡ at))
        → ((figures : _) (k : List Watch) (w : Watch) (r : List Watch) → old ≡ Watching figures → now_list ≡ k ++ w ∷ r → at ≡ length k
        → (new ≡ place_after w (row ∷ [])) × (new_list ≡ k ++ left_at w new ++ r) × (new_at ≡ at + length (left_at w new)))
        → Mid places list row (set now count new) new_list (count + 1) new_at
    mid-step old new new_list new_at within is dropped watching =
        step mid.seen mid.others mid.kept mid.rest mid.are mid.holds mid.count_is mid.at_is mid.places_are mid.left_are mid.in_step old new new_list new_at within is dropped
        watching

    -- all were visited
    pub mid-places : length now ≤ count → now ≡ places_after places list (row ∷ [])
    mid-places all =
        let none = none_left mid.seen mid.others mid.count_is mid.are all in
        mid.are ∙ ap (λ (o : List Place). mid.seen ++ o) none ∙ ap (λ (o : List Place). mid.seen ++ places_after o mid.rest (row ∷ [])) (sym none) ∙ sym mid.places_are

    pub mid-list : length now ≤ count → now_list ≡ left_after list (row ∷ [])
    mid-list all =
        let none = none_left mid.seen mid.others mid.count_is mid.are all in
        let empty = none_held mid.others mid.rest none mid.in_step in
        mid.holds ∙ ap (λ (r : List Watch). mid.kept ++ r) empty ∙ ap (λ (r : List Watch). mid.kept ++ left_after r (row ∷ [])) (sym empty) ∙ sym mid.left_are

    -- the list is in step with the places then
    pub mid-in_step : AreInStep places list → length now ≤ count → AreInStep now now_list
    mid-in_step same all =
        subst (λ (l : List Watch). AreInStep now l) (sym (mid-list all))
        (subst (λ (p : List Place). AreInStep p (left_after list (row ∷ []))) (sym (mid-places all)) (in_step-after places list (row ∷ []) same))

-- if the next place has a watcher, it is in the list of which these are the watchers
pub mid-within : {W : Type 0} (f : W → Watch) (items : List W) (places : List Place) (list : List Watch) (row : Snapshot) (now : List Place) (count at : ℕ)
    → Mid places list row now (map f items) count at → (old : Place) (figures : _) → count < length now → old ≡ get_or now count old → old ≡ Watching figures
    → at < length items
mid-within f items places list row now count at mid old figures within is watching =
    subst (λ (n : ℕ). at < n) (length-map items f) (mid-room places list row now (map f items) count at mid old figures within is watching)
