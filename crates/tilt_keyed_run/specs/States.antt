-- The state of the runs of a feed with keys, and why none go on from a text.
use Rattle.std.specs.Prelude.{◌≡◌, ◌⊎◌, ⊤, true, ℕ, List, [], ◌∷◌, ◌++◌, map, Option, None, Some}
use Rattle.std.specs.List.{list_any}
use Rattle.std.specs.Str.{bytes_eq}
use Rattle.tilt_keyed_line.specs.Feeds.{KeyFeed, KeyedFeed}
use Rattle.tilt_keyed_run.specs.declared.keyed_rejection.KeyedRejection.{KeyedRejection}
use Rattle.tilt_keyed_run.specs.declared.keyed_rejection.KeyedRejection.TheVariants as why
use Rattle.tilt_keyed_state.specs.Faults.{HasFirstLine}
use Rattle.tilt_keyed_state.specs.declared.fault.KeyedStateFault.{KeyedStateFault}
use Rattle.tilt_keyed_state.specs.declared.fault.KeyedStateFault.TheVariants as faults
use Rattle.tilt_keyed_state.specs.Spelling.{spelled}
use Rattle.tilt_keyed_state.specs.State.{KeyStateParts, KeyedStateParts}

-- the line that is kept for new keys, if one is
abbrev pub kept_line : List (List ℕ) → Option (List ℕ)
kept_line [] = None
kept_line (line ∷ lines) = Some line

-- The state of the run of a key after lines.
module _ (state : List (List ℕ) → List ℕ) where
  -- a key with its state
  abbrev pub key_state : KeyFeed → KeyStateParts
  key_state feed = record { key = feed.key; state = state feed.lines }

  -- the state of all keys of a feed, in their order
  abbrev pub keyed_state : KeyedFeed → KeyedStateParts
  keyed_state feed = record { shared = kept_line feed.shared; keys = map key_state feed.keys }

-- a text spells a state in which a key comes after others
pub record Spells (text : List ℕ) (front : List KeyStateParts) (k : KeyStateParts) : Type 0 where
  pub whole : KeyedStateParts
  pub back : List KeyStateParts
  pub is_spelled : text ≡ spelled whole
  pub keys_are : whole.keys ≡ front ++ k ∷ back

-- why no runs go on from a text: it spells no state, or one in which a key is there twice. Or the run of a key can't go on from its state
abbrev pub RejectsState : {W : Type 0} → (List ℕ → W → Type 0) → List ℕ → KeyedRejection W → Type 0
RejectsState rejects text why.OtherFormat = ¬ (HasFirstLine text)
RejectsState rejects text why.Damaged = HasFirstLine text × ((s : KeyedStateParts) → ¬ (text ≡ spelled s))
RejectsState rejects text why.RepeatedKey =
    (front : List KeyStateParts) × (k : KeyStateParts) × Spells text front k × (list_any (bytes_eq k.key) (map (λ j. j.key) front) ≡ true)
RejectsState rejects text (why.OfKey w) =
    (front : List KeyStateParts) × (k : KeyStateParts) × Spells text front k × rejects k.state w
RejectsState rejects text why.OutOfMemory = ⊤

-- why the run of a key can't go on from its state, after these keys
abbrev pub RejectsKey : {W : Type 0} → (List ℕ → W → Type 0) → List (List ℕ) → KeyStateParts → KeyedRejection W → Type 0
RejectsKey rejects places k why.OtherFormat = ⊥
RejectsKey rejects places k why.Damaged = ⊥
RejectsKey rejects places k why.RepeatedKey = list_any (bytes_eq k.key) places ≡ true
RejectsKey rejects places k (why.OfKey w) = rejects k.state w
RejectsKey rejects places k why.OutOfMemory = ⊤

-- the same if the key isn't looked for
abbrev pub RejectsOne : {W : Type 0} → (List ℕ → W → Type 0) → KeyStateParts → KeyedRejection W → Type 0
RejectsOne rejects k why.OtherFormat = ⊥
RejectsOne rejects k why.Damaged = ⊥
RejectsOne rejects k why.RepeatedKey = ⊥
RejectsOne rejects k (why.OfKey w) = rejects k.state w
RejectsOne rejects k why.OutOfMemory = ⊤

-- why the runs of keys can't go on from their states: that of one of them can't, or there is no memory
abbrev pub RejectsKeys : {W : Type 0} → (List ℕ → W → Type 0) → List KeyStateParts → KeyedRejection W → Type 0
RejectsKeys rejects keys halt =
    (halt ≡ why.OutOfMemory)
    ⊎ ((front : List KeyStateParts) × (k : KeyStateParts) × (back : List KeyStateParts) × (keys ≡ front ++ k ∷ back)
    × RejectsKey rejects (map (λ j. j.key) front) k halt)

-- of a text of which no state was read
abbrev pub unread : {W : Type 0} → KeyedStateFault → KeyedRejection W
unread faults.OtherFormat = why.OtherFormat
unread faults.Damaged = why.Damaged
unread faults.OutOfMemory = why.OutOfMemory
