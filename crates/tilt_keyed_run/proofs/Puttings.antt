-- The states of keys that are written one after another.
use Rattle.std.proofs.Common.{◌≡◌, ℕ, ◌+◌, ◌<◌, ◌≤◌, List, [], ◌∷◌, ◌++◌, length, map, flat_map, Some, slice_get, slice_set, refl, sym, ap, ◌∙◌, arith}
use Rattle.std.proofs.Common.{append_assoc, append-nil, length-append}
use Rattle.std.proofs.lemmas.List.{length_push, map-append}
use Rattle.std.proofs.lemmas.Option.{same_Some}
use Rattle.tilt_keyed_line.specs.Feeds.{KeyFeed}
use Rattle.tilt_keyed_run.proofs.Alongs.{keys-many}
use Rattle.tilt_keyed_run.specs.Runs.{AreKeysOf, IsKeyOf}
use Rattle.tilt_keyed_run.specs.States.{key_state}
use Rattle.tilt_keyed_run.specs.declared.one_key.OneKey.{OneKey}
use Rattle.tilt_keyed_state.specs.Spelling.{key_text}
use Rattle.tilt_keyed_state.specs.State.{KeyStateParts}

-- the text of keys, one more
pub states-append : (xs ys : List KeyStateParts) → flat_map key_text (xs ++ ys) ≡ flat_map key_text xs ++ flat_map key_text ys
states-append [] ys = refl
states-append (x ∷ xs) ys = ap (λ (t : List ℕ). key_text x ++ t) (states-append xs ys) ∙ sym (append_assoc (key_text x) (flat_map key_text xs) (flat_map key_text ys))

module _ {R Recipe : Type 0} (is : R → Recipe → List (List ℕ) → Type 0) (recipe : Recipe) (state : List (List ℕ) → List ℕ) where
  -- a key at a place
  own_at : (ones : List (OneKey R)) (front back : List KeyFeed) (feed : KeyFeed) (one : OneKey R) → AreKeysOf is ones recipe (front ++ feed ∷ back)
      → slice_get ones (length front) ≡ Some one → IsKeyOf is one recipe feed
  own_at [] [] back feed one are at = absurd are
  own_at [] (f ∷ front) back feed one are at = absurd are
  own_at (o ∷ ones) [] back feed one are at = rw (sym (same_Some o one at)) are.0
  own_at (o ∷ ones) (f ∷ front) back feed one are at = own_at ones front back feed one are.1 at

  own_set : (ones : List (OneKey R)) (front back : List KeyFeed) (feed : KeyFeed) (one : OneKey R) → AreKeysOf is ones recipe (front ++ feed ∷ back)
      → IsKeyOf is one recipe feed → AreKeysOf is (slice_set ones (length front) one) recipe (front ++ feed ∷ back)
  own_set [] [] back feed one are now = absurd are
  own_set [] (f ∷ front) back feed one are now = absurd are
  own_set (o ∷ ones) [] back feed one are now = (now, are.1)
  own_set (o ∷ ones) (f ∷ front) back feed one are now = (are.0, own_set ones front back feed one are.1 now)

  -- the states of so many of the keys are written
  pub record IsPutting (feeds : List KeyFeed) (before : List ℕ) (place : ℕ) (ones : List (OneKey R)) (text : List ℕ) : Type 0 where
    pub front : List KeyFeed
    pub back : List KeyFeed
    pub parts : feeds ≡ front ++ back
    pub passed : length front ≡ place
    pub keys : AreKeysOf is ones recipe (front ++ back)
    pub wrote : text ≡ before ++ flat_map key_text (map (key_state state) front)

  pub putting-first : (feeds : List KeyFeed) (before : List ℕ) (ones : List (OneKey R)) → AreKeysOf is ones recipe feeds → IsPutting feeds before 0 ones before
  putting-first feeds before ones are =
      record { front = []; back = feeds; parts = refl; passed = refl; keys = are; wrote = sym (append-nil before) }

  none_left : (front : List KeyFeed) (place : ℕ) (ones : List (OneKey R)) → length front ≡ place → AreKeysOf is ones recipe (front ++ []) → length ones ≡ place
  none_left front place ones passed are =
      let many = keys-many is recipe ones (front ++ []) are in
      let same = length-append front [] in
      omega (arith, many, same, passed)

  -- the key that is next
  here_by : (front back : List KeyFeed) (place : ℕ) (ones : List (OneKey R)) (one : OneKey R) → length front ≡ place → AreKeysOf is ones recipe (front ++ back)
      → place < length ones → slice_get ones place ≡ Some one → (feed : KeyFeed) × IsKeyOf is one recipe feed
  here_by front [] place ones one passed are below at =
      let none = none_left front place ones passed are in
      absurd (omega (arith, none, below))
  here_by front (feed ∷ back) place ones one passed are below at = (feed, own_at ones front back feed one are (ap (slice_get ones) passed ∙ at))

  pub putting-here : (feeds : List KeyFeed) (before : List ℕ) (place : ℕ) (ones : List (OneKey R)) (text : List ℕ) (one : OneKey R)
      → IsPutting feeds before place ones text → place < length ones → slice_get ones place ≡ Some one → (feed : KeyFeed) × IsKeyOf is one recipe feed
  putting-here feeds before place ones text one putting below at =
      here_by putting.front putting.back place ones one putting.passed putting.keys below at

  -- what writing the state of a key does
  pub record Puts (one later : OneKey R) (text more : List ℕ) : Type 0 where
    pub keeps : (feed : KeyFeed) → IsKeyOf is one recipe feed → IsKeyOf is later recipe feed
    pub wrote : (feed : KeyFeed) → IsKeyOf is one recipe feed → more ≡ text ++ key_text (key_state state feed)

  more_by : (feeds front back : List KeyFeed) (before : List ℕ) (place : ℕ) (ones : List (OneKey R)) (text : List ℕ) (one later : OneKey R) (more : List ℕ)
      → feeds ≡ front ++ back → length front ≡ place → AreKeysOf is ones recipe (front ++ back) → text ≡ before ++ flat_map key_text (map (key_state state) front)
      → place < length ones → slice_get ones place ≡ Some one → Puts one later text more → IsPutting feeds before (place + 1) (slice_set ones place later) more
  more_by feeds front [] before place ones text one later more parts passed are wrote below at puts =
      let none = none_left front place ones passed are in
      absurd (omega (arith, none, below))
  more_by feeds front (feed ∷ back) before place ones text one later more parts passed are wrote below at puts =
      let here = own_at ones front back feed one are (ap (slice_get ones) passed ∙ at) in
      let set = own_set ones front back feed later are (puts.keeps feed here) in
      let old = flat_map key_text (map (key_state state) front) in
      let one_more = ap (λ (t : List ℕ). old ++ t) (append-nil (key_text (key_state state feed))) in
      record {
        front = front ++ feed ∷ [];
        back = back;
        parts = parts ∙ sym (append_assoc front (feed ∷ []) back);
        passed = length_push front feed ∙ ap (λ (n : ℕ). n + 1) passed;
        keys = rw (append_assoc front (feed ∷ []) back) (rw passed at set);
        wrote = puts.wrote feed here ∙ ap (λ (t : List ℕ). t ++ key_text (key_state state feed)) wrote ∙ append_assoc before old (key_text (key_state state feed))
            ∙ ap (λ (t : List ℕ). before ++ t) (sym one_more ∙ sym (states-append (map (key_state state) front) (key_state state feed ∷ []))
            ∙ ap (λ (ks : List KeyStateParts). flat_map key_text ks) (sym (map-append (key_state state) front (feed ∷ []))));
      }

  pub putting-more : (feeds : List KeyFeed) (before : List ℕ) (place : ℕ) (ones : List (OneKey R)) (text : List ℕ) (one later : OneKey R) (more : List ℕ)
      → IsPutting feeds before place ones text → place < length ones → slice_get ones place ≡ Some one → Puts one later text more
      → IsPutting feeds before (place + 1) (slice_set ones place later) more
  putting-more feeds before place ones text one later more putting below at puts =
      more_by feeds putting.front putting.back before place ones text one later more putting.parts putting.passed putting.keys putting.wrote below at puts

  -- the states of all keys are written
  pub record HavePut (feeds : List KeyFeed) (before : List ℕ) (ones : List (OneKey R)) (text : List ℕ) : Type 0 where
    pub keys : AreKeysOf is ones recipe feeds
    pub wrote : text ≡ before ++ flat_map key_text (map (key_state state) feeds)

  end_by : (feeds front back : List KeyFeed) (before : List ℕ) (place : ℕ) (ones : List (OneKey R)) (text : List ℕ) → feeds ≡ front ++ back → length front ≡ place
      → AreKeysOf is ones recipe (front ++ back) → text ≡ before ++ flat_map key_text (map (key_state state) front) → length ones ≤ place
      → HavePut feeds before ones text
  end_by feeds front [] before place ones text parts passed are wrote end =
      let whole = parts ∙ append-nil front in
      record { keys = rw parts are; wrote = rw whole wrote }
  end_by feeds front (feed ∷ back) before place ones text parts passed are wrote end =
      let many = keys-many is recipe ones (front ++ feed ∷ back) are in
      let same = length-append front (feed ∷ back) in
      absurd (omega (arith, many, same, passed, end))

  pub putting-end : (feeds : List KeyFeed) (before : List ℕ) (place : ℕ) (ones : List (OneKey R)) (text : List ℕ) → IsPutting feeds before place ones text
      → length ones ≤ place → HavePut feeds before ones text
  putting-end feeds before place ones text putting end =
      end_by feeds putting.front putting.back before place ones text putting.parts putting.passed putting.keys putting.wrote end

-- what comes before keys, their states, and the last line
pub put_whole : (before first keys whole opened states closed : List ℕ) → first ≡ before ++ opened → keys ≡ first ++ states → whole ≡ keys ++ closed
    → whole ≡ before ++ (opened ++ (states ++ closed))
put_whole before first keys whole opened states closed a b c =
    c ∙ ap (λ (t : List ℕ). t ++ closed) (b ∙ ap (λ (t : List ℕ). t ++ states) a ∙ append_assoc before opened states)
    ∙ append_assoc before (opened ++ states) closed
    ∙ ap (λ (t : List ℕ). before ++ t) (append_assoc opened states closed)
