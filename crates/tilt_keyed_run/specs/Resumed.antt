-- Which runs go on from a state.
use Rattle.std.specs.Prelude.{◌≡◌, ℕ, List, [], ◌∷◌, map, option_map}
use Rattle.tilt_keyed_run.specs.declared.keyed_run.KeyedRun.{KeyedRun}
use Rattle.tilt_keyed_run.specs.declared.one_key.OneKey.{OneKey}
use Rattle.tilt_keyed_state.specs.State.{KeyStateParts, KeyedStateParts}

-- Whether a run of a recipe is the one after lines, and its state then.
module _ {R Recipe : Type 0} (is : R → Recipe → List (List ℕ) → Type 0) (state : List (List ℕ) → List ℕ) (recipe : Recipe) where
  -- a key with the run that goes on from its state: after whatever lines the state is of
  pub record IsResumedOf (one : OneKey R) (k : KeyStateParts) : Type 0 where
    pub key_is : one.key.items ≡ k.key
    pub run_is : (lines : List (List ℕ)) → k.state ≡ state lines → is one.run recipe lines

  -- the same of keys, in their order
  abbrev pub AreResumedOf : List (OneKey R) → List KeyStateParts → Type 0
  AreResumedOf [] [] = Unit {0}
  AreResumedOf [] (k ∷ ks) = ⊥
  AreResumedOf (one ∷ ones) [] = ⊥
  AreResumedOf (one ∷ ones) (k ∷ ks) = IsResumedOf one k × AreResumedOf ones ks

  -- the runs that go on from a state
  pub record IsResumedRunOf (run : KeyedRun R) (s : KeyedStateParts) : Type 0 where
    pub shared_is : option_map (λ line. line.items) run.shared ≡ s.shared
    pub keys_are : AreResumedOf run.keys.items s.keys
    pub places_are : run.places ≡ map (λ k. k.key) s.keys
