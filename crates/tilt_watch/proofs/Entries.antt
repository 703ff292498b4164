-- One watcher of a list, which sees a row and may be dropped.
use Rattle.std.proofs.Common.{◌≡◌, ◌∙◌, ℕ, true, false, List, [], ◌∷◌, ◌++◌, length, map, get_or, set, refl, sym, ap, append_assoc}
use Rattle.std.proofs.lemmas.List.{append-nil}
use Rattle.std.specs.List.{remove}
use Rattle.tilt_stream.specs.Snap.{Snapshot}
use Rattle.tilt_watch.specs.Places.{figures_at, is_dropped, left_at, place_after, with_pair}
use Rattle.tilt_watch.specs.Watch.{Watch}
use Rattle.tilt_watch.specs.declared.place.Place.{Place}
use Rattle.tilt_watch.specs.declared.place.Place.TheVariants.{Watching, Dropped}

module _ {W : Type 0} (f : W → Watch) where
  -- the one after those that were kept
  here : (items : List W) (x : W) (kept : List Watch) (watch : Watch) (rest : List Watch) → map f items ≡ kept ++ watch ∷ rest → x ≡ get_or items (length kept) x → f x ≡ watch
  here [] x [] watch rest holds is = absurd (cc holds)
  here [] x (k ∷ kept) watch rest holds is = absurd (cc holds)
  here (y ∷ items) x [] watch rest holds is = let first : f y ≡ watch = cc holds in ap f is ∙ first
  here (y ∷ items) x (k ∷ kept) watch rest holds is = let later : map f items ≡ kept ++ watch ∷ rest = cc holds in here items x kept watch rest later is

  -- another is there
  placed : (items : List W) (new : W) (kept : List Watch) (watch : Watch) (rest : List Watch) → map f items ≡ kept ++ watch ∷ rest
      → map f (set items (length kept) new) ≡ kept ++ f new ∷ rest
  placed [] new [] watch rest holds = absurd (cc holds)
  placed [] new (k ∷ kept) watch rest holds = absurd (cc holds)
  placed (y ∷ items) new [] watch rest holds = let later : map f items ≡ rest = cc holds in ap (λ (l : List Watch). f new ∷ l) later
  placed (y ∷ items) new (k ∷ kept) watch rest holds =
      let first : f y ≡ k = cc holds in
      let later : map f items ≡ kept ++ watch ∷ rest = cc holds in
      (λ i. first i ∷ placed items new kept watch rest later i)

  -- none is there
  removed : (items : List W) (new : W) (kept : List Watch) (watch : Watch) (rest : List Watch) → map f items ≡ kept ++ watch ∷ rest
      → map f (remove (set items (length kept) new) (length kept)) ≡ kept ++ rest
  removed [] new [] watch rest holds = absurd (cc holds)
  removed [] new (k ∷ kept) watch rest holds = absurd (cc holds)
  removed (y ∷ items) new [] watch rest holds = cc holds
  removed (y ∷ items) new (k ∷ kept) watch rest holds =
      let first : f y ≡ k = cc holds in
      let later : map f items ≡ kept ++ watch ∷ rest = cc holds in
      (λ i. first i ∷ removed items new kept watch rest later i)

  none_left : (watch : Watch) (place : Place) → is_dropped place ≡ true → left_at watch place ≡ []
  none_left watch (Watching pair) is = absurd (cc is)
  none_left watch (Dropped pair) is = refl

  one_left : (watch : Watch) (place : Place) → is_dropped place ≡ false → left_at watch place ≡ with_pair watch (figures_at place) ∷ []
  one_left watch (Watching pair) is = refl
  one_left watch (Dropped pair) is = absurd (cc is)

  module _ (items : List W) (old new : W) (at : ℕ) (row : Snapshot) (place : Place) (is : old ≡ get_or items at old) (seen : place ≡ place_after (f old) (row ∷ []))
      (kept : List Watch) (watch : Watch) (rest : List Watch) (holds : map f items ≡ kept ++ watch ∷ rest) (at_is : at ≡ length kept) where
    the_one : f old ≡ watch
    the_one = here items old kept watch rest holds (is ∙ ap (λ (n : ℕ). get_or items n old) at_is)

    its_place : place ≡ place_after watch (row ∷ [])
    its_place = seen ∙ ap (λ (w : Watch). place_after w (row ∷ [])) the_one

    -- it has seen enough, and was dropped
    pub one-dropped : (left : List W) → left ≡ remove (set items at new) at → is_dropped place ≡ true
        → (place ≡ place_after watch (row ∷ [])) × (map f left ≡ kept ++ left_at watch place ++ rest)
    one-dropped left gone dropped = (
      its_place,
      ap (map f) (gone ∙ ap (λ (n : ℕ). remove (set items n new) n) at_is) ∙ removed items new kept watch rest holds
          ∙ ap (λ (l : List Watch). l ++ rest) (sym (append-nil kept) ∙ ap (λ (l : List Watch). kept ++ l) (sym (none_left watch place dropped))),
    )

    -- it wants to see more
    pub one-kept : f new ≡ with_pair (f old) (figures_at place) → is_dropped place ≡ false
        → (place ≡ place_after watch (row ∷ [])) × (map f (set items at new) ≡ kept ++ left_at watch place ++ rest)
    one-kept new_is stays = (
      its_place,
      ap (λ (n : ℕ). map f (set items n new)) at_is ∙ placed items new kept watch rest holds
          ∙ ap (λ (w : Watch). kept ++ w ∷ rest) (new_is ∙ ap (λ (w : Watch). with_pair w (figures_at place)) the_one)
          ∙ sym (append_assoc kept (with_pair watch (figures_at place) ∷ []) rest) ∙ ap (λ (l : List Watch). (kept ++ l) ++ rest) (sym (one_left watch place stays)),
    )
