-- A line that is handed to one key after another.
use Rattle.std.proofs.Common.{◌≡◌, ℕ, ◌+◌, ◌<◌, ◌≤◌, suc, List, [], ◌∷◌, ◌++◌, length, map, Option, Some, None, slice_get, slice_set, refl, sym, ap, ◌∙◌, arith}
use Rattle.std.proofs.Common.{append_assoc, append-nil, length-append}
use Rattle.std.proofs.lemmas.List.{length-map, length_push, map-append}
use Rattle.std.specs.Option.{option_or}
use Rattle.tilt_keyed_line.specs.Feeds.{KeyFeed, given}
use Rattle.tilt_keyed_line.specs.Outputs.{with_key}
use Rattle.tilt_keyed_run.proofs.Places.{key-at, key-set}
use Rattle.tilt_keyed_run.specs.Output.{every_fault, every_output}
use Rattle.tilt_keyed_run.specs.Runs.{AreKeysOf, IsKeyOf}
use Rattle.tilt_keyed_run.specs.declared.one_key.OneKey.{OneKey}

-- as many runs as keys
pub keys-many : {R Recipe : Type 0} (is : R → Recipe → List (List ℕ) → Type 0) (recipe : Recipe) (ones : List (OneKey R)) (feeds : List KeyFeed)
    → AreKeysOf is ones recipe feeds → length ones ≡ length feeds
keys-many is recipe [] [] are = refl
keys-many is recipe [] (feed ∷ feeds) are = absurd are
keys-many is recipe (one ∷ ones) [] are = absurd are
keys-many is recipe (one ∷ ones) (feed ∷ feeds) are = ap suc (keys-many is recipe ones feeds are.1)

-- the first of causes
or_none : {Bad : Type 0} (found : Option Bad) → option_or found None ≡ found
or_none None = refl
or_none (Some why) = refl

or_assoc : {Bad : Type 0} (x y z : Option Bad) → option_or (option_or x y) z ≡ option_or x (option_or y z)
or_assoc None y z = refl
or_assoc (Some why) y z = refl

module _ {R Recipe : Type 0} (is : R → Recipe → List (List ℕ) → Type 0) (recipe : Recipe) (first : List ℕ) (added : List (List ℕ) → List ℕ → List ℕ)
    {Bad : Type 0} (fault : List (List ℕ) → List ℕ → Option Bad) (line : List ℕ) where
  -- so many of the keys have taken the line
  pub record IsAlong (feeds : List KeyFeed) (before : List ℕ) (place : ℕ) (ones : List (OneKey R)) (output : List ℕ) (found : Option Bad) : Type 0 where
    pub front : List KeyFeed
    pub back : List KeyFeed
    pub parts : feeds ≡ front ++ back
    pub passed : length front ≡ place
    pub keys : AreKeysOf is ones recipe (map (given line) front ++ back)
    pub wrote : output ++ every_output first added line back ≡ before ++ every_output first added line feeds
    pub bad : option_or found (every_fault fault line back) ≡ every_fault fault line feeds

  pub along-first : (feeds : List KeyFeed) (before : List ℕ) (ones : List (OneKey R)) → AreKeysOf is ones recipe feeds → IsAlong feeds before 0 ones before None
  along-first feeds before ones are = record { front = []; back = feeds; parts = refl; passed = refl; keys = are; wrote = refl; bad = refl }

  none_left : (front : List KeyFeed) (place : ℕ) (ones : List (OneKey R)) → length front ≡ place
      → AreKeysOf is ones recipe (map (given line) front ++ []) → length ones ≡ place
  none_left front place ones passed are =
      let many = keys-many is recipe ones (map (given line) front ++ []) are in
      let same = length-append (map (given line) front) [] in
      let each = length-map front (given line) in
      omega (arith, many, same, each, passed)

  -- what a key does with the line
  pub record Takes (one later : OneKey R) (output more : List ℕ) (why : Option Bad) : Type 0 where
    pub keeps : (feed : KeyFeed) → IsKeyOf is one recipe feed → IsKeyOf is later recipe (given line feed)
    pub wrote : (feed : KeyFeed) → IsKeyOf is one recipe feed → more ≡ output ++ with_key feed.key (added feed.lines line)
    pub bad : (feed : KeyFeed) → IsKeyOf is one recipe feed → why ≡ fault feed.lines line

  more_by : (feeds front back : List KeyFeed) (before : List ℕ) (place : ℕ) (ones : List (OneKey R)) (output : List ℕ) (found : Option Bad) (one later : OneKey R)
      (more : List ℕ) (why : Option Bad)
      → feeds ≡ front ++ back → length front ≡ place → AreKeysOf is ones recipe (map (given line) front ++ back)
      → output ++ every_output first added line back ≡ before ++ every_output first added line feeds
      → option_or found (every_fault fault line back) ≡ every_fault fault line feeds → place < length ones → slice_get ones place ≡ Some one
      → Takes one later output more why → IsAlong feeds before (place + 1) (slice_set ones place later) more (option_or found why)
  more_by feeds front [] before place ones output found one later more why parts passed are wrote bad below at takes =
      let none = none_left front place ones passed are in
      absurd (omega (arith, none, below))
  more_by feeds front (feed ∷ back) before place ones output found one later more why parts passed are wrote bad below at takes =
      let count : length (map (given line) front) ≡ place = length-map front (given line) ∙ passed in
      let here = key-at is recipe first added fault ones (map (given line) front) back feed one are (ap (slice_get ones) count ∙ at) in
      let set = key-set is recipe first added fault ones (map (given line) front) back feed (given line feed) later are (takes.keeps feed here) in
      record {
        front = front ++ feed ∷ [];
        back = back;
        parts = parts ∙ sym (append_assoc front (feed ∷ []) back);
        passed = length_push front feed ∙ ap (λ (n : ℕ). n + 1) passed;
        keys = rw (map-append (given line) front (feed ∷ []), append_assoc (map (given line) front) (given line feed ∷ []) back) (rw count at set);
        wrote = rw (takes.wrote feed here)
            (append_assoc output (with_key feed.key (added feed.lines line)) (every_output first added line back) ∙ wrote);
        bad = rw (takes.bad feed here) (or_assoc found (fault feed.lines line) (every_fault fault line back) ∙ bad);
      }

  pub along-more : (feeds : List KeyFeed) (before : List ℕ) (place : ℕ) (ones : List (OneKey R)) (output : List ℕ) (found : Option Bad) (one later : OneKey R)
      (more : List ℕ) (why : Option Bad) → IsAlong feeds before place ones output found → place < length ones → slice_get ones place ≡ Some one
      → Takes one later output more why → IsAlong feeds before (place + 1) (slice_set ones place later) more (option_or found why)
  along-more feeds before place ones output found one later more why along below at takes =
      more_by feeds along.front along.back before place ones output found one later more why along.parts along.passed along.keys along.wrote along.bad below at takes

  -- the key that is next
  here_by : (front back : List KeyFeed) (place : ℕ) (ones : List (OneKey R)) (one : OneKey R) → length front ≡ place
      → AreKeysOf is ones recipe (map (given line) front ++ back) → place < length ones → slice_get ones place ≡ Some one
      → (feed : KeyFeed) × IsKeyOf is one recipe feed
  here_by front [] place ones one passed are below at =
      let none = none_left front place ones passed are in
      absurd (omega (arith, none, below))
  here_by front (feed ∷ back) place ones one passed are below at =
      let count : length (map (given line) front) ≡ place = length-map front (given line) ∙ passed in
      (feed, key-at is recipe first added fault ones (map (given line) front) back feed one are (ap (slice_get ones) count ∙ at))

  pub along-here : (feeds : List KeyFeed) (before : List ℕ) (place : ℕ) (ones : List (OneKey R)) (output : List ℕ) (found : Option Bad) (one : OneKey R)
      → IsAlong feeds before place ones output found → place < length ones → slice_get ones place ≡ Some one → (feed : KeyFeed) × IsKeyOf is one recipe feed
  along-here feeds before place ones output found one along below at =
      here_by along.front along.back place ones one along.passed along.keys below at

  -- all of them have taken it
  pub record HaveTaken (feeds : List KeyFeed) (before : List ℕ) (ones : List (OneKey R)) (output : List ℕ) (found : Option Bad) : Type 0 where
    pub keys : AreKeysOf is ones recipe (map (given line) feeds)
    pub wrote : output ≡ before ++ every_output first added line feeds
    pub bad : found ≡ every_fault fault line feeds

  end_by : (feeds front back : List KeyFeed) (before : List ℕ) (place : ℕ) (ones : List (OneKey R)) (output : List ℕ) (found : Option Bad)
      → feeds ≡ front ++ back → length front ≡ place → AreKeysOf is ones recipe (map (given line) front ++ back)
      → output ++ every_output first added line back ≡ before ++ every_output first added line feeds
      → option_or found (every_fault fault line back) ≡ every_fault fault line feeds → length ones ≤ place → HaveTaken feeds before ones output found
  end_by feeds front [] before place ones output found parts passed are wrote bad end = record {
    keys = rw (parts, append-nil front) (rw (append-nil (map (given line) front)) at are);
    wrote = sym (append-nil output) ∙ wrote;
    bad = sym (or_none found) ∙ bad;
  }
  end_by feeds front (feed ∷ back) before place ones output found parts passed are wrote bad end =
      let many = keys-many is recipe ones (map (given line) front ++ feed ∷ back) are in
      let same = length-append (map (given line) front) (feed ∷ back) in
      let each = length-map front (given line) in
      absurd (omega (arith, many, same, each, passed, end))

  pub along-end : (feeds : List KeyFeed) (before : List ℕ) (place : ℕ) (ones : List (OneKey R)) (output : List ℕ) (found : Option Bad)
      → IsAlong feeds before place ones output found → length ones ≤ place → HaveTaken feeds before ones output found
  along-end feeds before place ones output found along end =
      end_by feeds along.front along.back before place ones output found along.parts along.passed along.keys along.wrote along.bad end
