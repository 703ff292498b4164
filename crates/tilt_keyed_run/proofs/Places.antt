-- The places of keys.
use Rattle.std.proofs.Common.{◌≡◌, ℕ, zero, suc, ◌<◌, ◌≤◌, true, false, List, [], ◌∷◌, ◌++◌, length, get_or, Option, Some, None, slice_get, slice_set, refl, sym, ap, ◌∙◌, arith, inl, inr}
use Rattle.std.specs.List.{position, position_or_len}
use Rattle.std.specs.Str.{bytes_eq}
use Rattle.std.proofs.lemmas.Bool.{cases_Bool}
use Rattle.std.proofs.lemmas.List.Quantifiers.{position-Some}
use Rattle.std.proofs.lemmas.Option.{same_Some}
use Rattle.tilt_base.proofs.Comparisons.{not_found}
use Rattle.tilt_keyed_line.specs.Feeds.{KeyFeed, after_own, given}
use Rattle.tilt_keyed_line.specs.Outputs.{with_key}
use Rattle.tilt_keyed_run.specs.Output.{alone, is_known, own_fault, own_output}
use Rattle.tilt_keyed_run.specs.Runs.{AreKeysOf, IsKeyOf}
use Rattle.tilt_keyed_run.specs.declared.one_key.OneKey.{OneKey}

module _ {R Recipe : Type 0} (is : R → Recipe → List (List ℕ) → Type 0) (recipe : Recipe) (first : List ℕ) (added : List (List ℕ) → List ℕ → List ℕ)
    {Bad : Type 0} (fault : List (List ℕ) → List ℕ → Option Bad) where
  -- a key at a place, and those before and after it
  pub key-at : (ones : List (OneKey R)) (front back : List KeyFeed) (feed : KeyFeed) (one : OneKey R) → AreKeysOf is ones recipe (front ++ feed ∷ back)
      → slice_get ones (length front) ≡ Some one → IsKeyOf is one recipe feed
  key-at [] [] back feed one are at = absurd are
  key-at [] (f ∷ front) back feed one are at = absurd are
  key-at (o ∷ ones) [] back feed one are at = rw (sym (same_Some o one at)) are.0
  key-at (o ∷ ones) (f ∷ front) back feed one are at = key-at ones front back feed one are.1 at

  pub key-set : (ones : List (OneKey R)) (front back : List KeyFeed) (feed later : KeyFeed) (one : OneKey R) → AreKeysOf is ones recipe (front ++ feed ∷ back)
      → IsKeyOf is one recipe later → AreKeysOf is (slice_set ones (length front) one) recipe (front ++ later ∷ back)
  key-set [] [] back feed later one are now = absurd are
  key-set [] (f ∷ front) back feed later one are now = absurd are
  key-set (o ∷ ones) [] back feed later one are now = (now, are.1)
  key-set (o ∷ ones) (f ∷ front) back feed later one are now = (are.0, key-set ones front back feed later one are.1 now)

  -- a key that is there
  pub record IsOwn (key : List ℕ) (shared : List (List ℕ)) (line : List ℕ) (ones : List (OneKey R)) (feeds : List KeyFeed) (i : ℕ) (one : OneKey R) : Type 0 where
    pub feed : KeyFeed
    pub key_is : IsKeyOf is one recipe feed
    pub writes : own_output first added key shared line feeds ≡ with_key feed.key (added feed.lines line)
    pub bad : own_fault fault key shared line feeds ≡ fault feed.lines line
    pub known : is_known key feeds ≡ true
    pub later : (o : OneKey R) → IsKeyOf is o recipe (given line feed) → AreKeysOf is (slice_set ones i o) recipe (after_own key shared line feeds)

  own_place : (key : List ℕ) (shared : List (List ℕ)) (line : List ℕ) (ones : List (OneKey R)) (feeds : List KeyFeed) (i : ℕ) (one : OneKey R)
      → AreKeysOf is ones recipe feeds → slice_get ones i ≡ Some one → bytes_eq one.key.items key ≡ true
      → ((k : ℕ) → k < i → bytes_eq (get_or ones k one).key.items key ≡ false) → IsOwn key shared line ones feeds i one
  own_place key shared line [] feeds i one are at same before = absurd (cc at)
  own_place key shared line (o ∷ ones) [] i one are at same before = absurd are
  own_place key shared line (o ∷ ones) (feed ∷ feeds) zero one are at same before =
      let here = rw (same_Some o one at) at are.0 in
      let own : bytes_eq feed.key key ≡ true = ap (λ (k : List ℕ). bytes_eq k key) (sym here.key_is) ∙ same in
      record {
        feed = feed;
        key_is = here;
        writes = rw own refl;
        bad = rw own refl;
        known = rw own refl;
        later = λ p now. rw own (now, are.1);
      }
  own_place key shared line (o ∷ ones) (feed ∷ feeds) (suc i) one are at same before =
      let other : bytes_eq feed.key key ≡ false = ap (λ (k : List ℕ). bytes_eq k key) (sym are.0.key_is) ∙ before 0 (omega arith) in
      let rest = own_place key shared line ones feeds i one are.1 at same (λ k l. before (suc k) (omega (arith, l))) in
      record {
        feed = rest.feed;
        key_is = rest.key_is;
        writes = rw other rest.writes;
        bad = rw other rest.bad;
        known = rw other rest.known;
        later = λ p now. rw other (are.0, rest.later p now);
      }

  pub own-found : (key : List ℕ) (shared : List (List ℕ)) (line : List ℕ) (ones : List (OneKey R)) (feeds : List KeyFeed) (i : ℕ) (one : OneKey R)
      → AreKeysOf is ones recipe feeds → position (λ o. bytes_eq o.key.items key) ones ≡ Some i → slice_get ones i ≡ Some one
      → get_or ones i one ≡ one → IsOwn key shared line ones feeds i one
  own-found key shared line ones feeds i one are found at got =
      let p = position-Some (λ (o : OneKey R). bytes_eq o.key.items key) ones i one found in
      own_place key shared line ones feeds i one are at (ap (λ (o : OneKey R). bytes_eq o.key.items key) (sym got) ∙ p.1) p.2

  -- a key that isn't there
  pub record IsNew (key : List ℕ) (shared : List (List ℕ)) (line : List ℕ) (ones : List (OneKey R)) (feeds : List KeyFeed) : Type 0 where
    pub writes : own_output first added key shared line feeds ≡ with_key key (alone first added (shared ++ line ∷ []))
    pub bad : own_fault fault key shared line feeds ≡ fault shared line
    pub unknown : is_known key feeds ≡ false
    pub later : (o : OneKey R) → IsKeyOf is o recipe (record { key = key; lines = shared ++ line ∷ [] })
        → AreKeysOf is (ones ++ o ∷ []) recipe (after_own key shared line feeds)

  new_whole : (key : List ℕ) (shared : List (List ℕ)) (line : List ℕ) (ones : List (OneKey R)) (feeds : List KeyFeed) → AreKeysOf is ones recipe feeds
      → length ones ≤ position_or_len (λ o. bytes_eq o.key.items key) ones → IsNew key shared line ones feeds
  new_whole key shared line [] [] are none = record { writes = refl; bad = refl; unknown = refl; later = λ o now. (now, tt) }
  new_whole key shared line [] (feed ∷ feeds) are none = absurd are
  new_whole key shared line (o ∷ ones) [] are none = absurd are
  new_whole key shared line (o ∷ ones) (feed ∷ feeds) are none =
      elim (cases_Bool (bytes_eq o.key.items key)) [
        | inl same ↦ absurd (omega (arith, rw same at none))
        | inr differs ↦
            let less : length ones ≤ position_or_len (λ p. bytes_eq p.key.items key) ones = omega (arith, rw differs at none) in
            let other : bytes_eq feed.key key ≡ false = ap (λ (k : List ℕ). bytes_eq k key) (sym are.0.key_is) ∙ differs in
            let rest = new_whole key shared line ones feeds are.1 less in
            record {
              writes = rw other rest.writes;
              bad = rw other rest.bad;
              unknown = rw other rest.unknown;
              later = λ p now. rw other (are.0, rest.later p now);
            }
      ]

  pub own-new : (key : List ℕ) (shared : List (List ℕ)) (line : List ℕ) (ones : List (OneKey R)) (feeds : List KeyFeed) → AreKeysOf is ones recipe feeds
      → position (λ o. bytes_eq o.key.items key) ones ≡ None → IsNew key shared line ones feeds
  own-new key shared line ones feeds are none =
      new_whole key shared line ones feeds are (not_found (position_or_len (λ o. bytes_eq o.key.items key) ones) (length ones) none)
