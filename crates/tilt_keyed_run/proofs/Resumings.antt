-- Runs that go on from the states of keys, one after another.
use Rattle.std.proofs.Common.{◌≡◌, ℕ, zero, suc, ◌<◌, Bool, true, List, [], ◌∷◌, ◌++◌, length, map, take, drop, get_or, Option, Some, None, Result, Ok, Err, IfOk, IfErr, refl, sym, ap, ◌∙◌, arith, inl, inr, subst}
use Rattle.std.specs.Prelude.{is_some, option_map}
use Rattle.std.specs.Global.{Vec}
use Rattle.std.specs.List.{list_any, position}
use Rattle.std.proofs.lemmas.Bool.{cases_Bool}
use Rattle.std.proofs.lemmas.List.Quantifiers.{position-Some}
use Rattle.tilt_keyed_line.specs.Feeds.{KeyFeed, KeyedFeed}
use Rattle.tilt_keyed_run.specs.Resumed.{AreResumedOf, IsResumedOf, IsResumedRunOf}
use Rattle.tilt_keyed_run.specs.Runs.{AreKeysOf, IsKeyedRunOf, first_lines}
use Rattle.tilt_keyed_run.specs.States.{RejectsKey, RejectsKeys, RejectsState, key_state, keyed_state, kept_line, unread}
use Rattle.tilt_keyed_run.specs.declared.keyed_rejection.KeyedRejection.{KeyedRejection}
use Rattle.tilt_keyed_run.specs.declared.keyed_rejection.KeyedRejection.TheVariants as why
use Rattle.tilt_keyed_run.specs.declared.keyed_run.KeyedRun.{KeyedRun}
use Rattle.tilt_keyed_run.specs.declared.one_key.OneKey.{OneKey}
use Rattle.tilt_keyed_state.specs.Faults.{SpellsNone}
use Rattle.tilt_keyed_state.specs.Spelling.{spelled}
use Rattle.tilt_keyed_state.specs.State.{KeyStateParts, KeyedStateParts}
use Rattle.tilt_keyed_state.specs.declared.fault.KeyedStateFault.{KeyedStateFault}
use Rattle.tilt_keyed_state.specs.declared.fault.KeyedStateFault.TheVariants as faults

-- what is at a place is there
any_at : {X : Type 0} (test : X → Bool) (xs : List X) (i : ℕ) (d : X) → i < length xs → test (get_or xs i d) ≡ true → list_any test xs ≡ true
any_at test [] i d below here = absurd (omega (arith, below))
any_at test (x ∷ xs) zero d below here = rw here refl
any_at test (x ∷ xs) (suc i) d below here =
    elim (cases_Bool (test x)) [
      | inl is ↦ rw is refl
      | inr other ↦ rw (other, any_at test xs i d (omega (arith, below)) here) refl
    ]

pub found_any : (test : List ℕ → Bool) (xs : List (List ℕ)) (found : Option ℕ) → found ≡ position test xs → is_some found ≡ true → list_any test xs ≡ true
found_any test xs None is some = absurd (cc some)
found_any test xs (Some i) is some =
    let p = position-Some test xs i [] (sym is) in
    any_at test xs i [] p.0 p.1

-- a line as the only one, if there is one
abbrev kept_lines : Option (List ℕ) → List (List ℕ)
kept_lines None = []
kept_lines (Some line) = line ∷ []

module _ {R Recipe : Type 0} (is : R → Recipe → List (List ℕ) → Type 0) (state : List (List ℕ) → List ℕ) (recipe : Recipe) where
  -- one key more
  pub resumed-push : (ones : List (OneKey R)) (ks : List KeyStateParts) (one : OneKey R) (k : KeyStateParts) → AreResumedOf is state recipe ones ks
      → IsResumedOf is state recipe one k → AreResumedOf is state recipe (ones ++ one ∷ []) (ks ++ k ∷ [])
  resumed-push [] [] one k are now = (now, tt)
  resumed-push [] (j ∷ ks) one k are now = absurd are
  resumed-push (o ∷ ones) [] one k are now = absurd are
  resumed-push (o ∷ ones) (j ∷ ks) one k are now = (are.0, resumed-push ones ks one k are.1 now)

  -- of no keys none go on
  pub none-resumed : (ones : List (OneKey R)) → AreKeysOf is ones recipe [] → AreResumedOf is state recipe ones []
  none-resumed [] are = tt
  none-resumed (one ∷ ones) are = absurd are

  -- keys that go on from the states of a feed are those of the feed
  keys_of : (ones : List (OneKey R)) (feeds : List KeyFeed) → AreResumedOf is state recipe ones (map (key_state state) feeds) → AreKeysOf is ones recipe feeds
  keys_of [] [] are = tt
  keys_of [] (feed ∷ feeds) are = absurd are
  keys_of (one ∷ ones) [] are = absurd are
  keys_of (one ∷ ones) (feed ∷ feeds) are =
      (record { key_is = are.0.key_is; run_is = are.0.run_is feed.lines refl }, keys_of ones feeds are.1)

  names_of : (feeds : List KeyFeed) → map (λ k. k.key) (map (key_state state) feeds) ≡ map (λ feed. feed.key) feeds
  names_of [] = refl
  names_of (feed ∷ feeds) = ap (λ (ks : List (List ℕ)). feed.key ∷ ks) (names_of feeds)

  -- the line that is kept is that of the feed
  line_of : (kept first : Option (Vec ℕ)) → option_map (λ l. l.items) kept ≡ kept_line (first_lines first) → first_lines kept ≡ first_lines first
  line_of None None e = refl
  line_of None (Some l) e = absurd (cc e)
  line_of (Some k) None e = absurd (cc e)
  line_of (Some k) (Some l) e = ap kept_lines e

  -- runs that go on from the state of a first run are those of its feed
  pub run_of : (run first : KeyedRun R) (feed : KeyedFeed) (s : KeyedStateParts) → IsKeyedRunOf is first recipe feed → s ≡ keyed_state state feed
      → IsResumedRunOf is state recipe run s → IsKeyedRunOf is run recipe feed
  run_of run first feed s before same resumed =
      let now = subst (λ (t : KeyedStateParts). IsResumedRunOf is state recipe run t) same resumed in
      let line = now.shared_is ∙ ap kept_line (sym before.shared_is) in
      record {
        shared_is = line_of run.shared first.shared line ∙ before.shared_is;
        keys_are = keys_of run.keys.items feed.keys now.keys_are;
        places_are = now.places_are ∙ names_of feed.keys;
      }

-- why a key is rejected, as why the state is
module _ {W : Type 0} (rejects : List ℕ → W → Type 0) where
  state_of_key : (text : List ℕ) (s : KeyedStateParts) (front back : List KeyStateParts) (k : KeyStateParts) (halt : KeyedRejection W) → text ≡ spelled s
      → s.keys ≡ front ++ k ∷ back → RejectsKey rejects (map (λ j. j.key) front) k halt → RejectsState rejects text halt
  state_of_key text s front back k why.OtherFormat is parts no_key = absurd no_key
  state_of_key text s front back k why.Damaged is parts no_key = absurd no_key
  state_of_key text s front back k why.RepeatedKey is parts repeated =
      (front, k, record { whole = s; back = back; is_spelled = is; keys_are = parts }, repeated)
  state_of_key text s front back k (why.OfKey w) is parts rejected =
      (front, k, record { whole = s; back = back; is_spelled = is; keys_are = parts }, rejected)
  state_of_key text s front back k why.OutOfMemory is parts rejected = tt

  pub state_of_keys : {T : Type 0} (text : List ℕ) (s : KeyedStateParts) (result : Result T (KeyedRejection W)) → text ≡ spelled s
      → IfErr result (RejectsKeys rejects s.keys) → IfErr result (RejectsState rejects text)
  state_of_keys text s (Ok run) is rejected = tt
  state_of_keys text s (Err halt) is (inl memory) = subst (λ (h : KeyedRejection W). RejectsState rejects text h) (sym memory) tt
  state_of_keys text s (Err halt) is (inr r) = state_of_key text s r.0 r.2 r.1 halt is r.3 r.4

  pub state_unread : (text : List ℕ) (fault : KeyedStateFault) → SpellsNone text fault → RejectsState rejects text (unread fault)
  state_unread text faults.OtherFormat none = none
  state_unread text faults.Damaged none = none
  state_unread text faults.OutOfMemory none = tt

pub run_into : {T E : Type 0} (result : Result T E) (P Q : T → Type 0) → ((x : T) → P x → Q x) → IfOk result P → IfOk result Q
run_into (Ok x) P Q f is = f x is
run_into (Err e) P Q f is = tt

-- what is before a place, there, and after it
pub parts_at : {X : Type 0} (xs : List X) (i : ℕ) (d : X) → i < length xs → xs ≡ take i xs ++ get_or xs i d ∷ drop (suc i) xs
parts_at {X = X} [] i d below = absurd (omega (arith, below))
parts_at {X = X} (x ∷ xs) zero d below = refl
parts_at {X = X} (x ∷ xs) (suc i) d below = ap (λ (ys : List X). x ∷ ys) (parts_at xs i d (omega (arith, below)))
