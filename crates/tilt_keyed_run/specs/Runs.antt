-- Which runs are those of the keys of a feed.
use Rattle.std.specs.Prelude.{◌≡◌, ℕ, List, [], ◌∷◌, map, Option, None, Some}
use Rattle.std.specs.Global.{Vec}
use Rattle.tilt_keyed_line.specs.Feeds.{KeyFeed, KeyedFeed}
use Rattle.tilt_keyed_run.specs.declared.keyed_run.KeyedRun.{KeyedRun}
use Rattle.tilt_keyed_run.specs.declared.one_key.OneKey.{OneKey}

-- the line that is kept for new keys, if one is
abbrev pub first_lines : Option (Vec ℕ) → List (List ℕ)
first_lines None = []
first_lines (Some line) = line.items ∷ []

-- how many keys there may be
abbrev pub max_keys_of : {R : Type 0} → KeyedRun R → ℕ
max_keys_of run = run.max_keys

-- Whether a run of a recipe is the one after these lines.
module _ {R Recipe : Type 0} (is : R → Recipe → List (List ℕ) → Type 0) where
  -- a key of a feed, with the run after its lines
  pub record IsKeyOf (one : OneKey R) (recipe : Recipe) (feed : KeyFeed) : Type 0 where
    pub key_is : one.key.items ≡ feed.key
    pub run_is : is one.run recipe feed.lines

  -- the keys of a feed, in their order
  abbrev pub AreKeysOf : List (OneKey R) → Recipe → List KeyFeed → Type 0
  AreKeysOf [] recipe [] = Unit {0}
  AreKeysOf [] recipe (feed ∷ feeds) = ⊥
  AreKeysOf (one ∷ ones) recipe [] = ⊥
  AreKeysOf (one ∷ ones) recipe (feed ∷ feeds) = IsKeyOf one recipe feed × AreKeysOf ones recipe feeds

  -- the runs after lines of a feed
  pub record IsKeyedRunOf (run : KeyedRun R) (recipe : Recipe) (feed : KeyedFeed) : Type 0 where
    pub shared_is : first_lines run.shared ≡ feed.shared
    pub keys_are : AreKeysOf run.keys.items recipe feed.keys
    pub places_are : run.places ≡ map (λ one. one.key) feed.keys
