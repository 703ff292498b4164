-- Files in memory, by name.
use Rattle.std.specs.Prelude.{◌≡◌, ◌≢◌, ◌-◌, ◌<◌, ◌⊎◌, ℕ, List, [], Option, None, Some, min, length, find, unwrap_or}
use Rattle.std.specs.Option.{option_map, option_map_or}
use Rattle.std.specs.Str.{bytes_eq}

-- a file in memory: its name, its bytes, and how many bytes it may have
pub record HeldFile : Type 0 where
  pub name : List ℕ
  pub bytes : List ℕ
  pub room : ℕ

-- the file that is held under the name
abbrev pub file_named : List HeldFile → List ℕ → Option HeldFile
file_named files name = find (λ file. bytes_eq file.name name) files

-- what the name holds, and nothing if it isn't held
abbrev pub bytes_held : List HeldFile → List ℕ → Option (List ℕ)
bytes_held files name = option_map (λ file. file.bytes) (file_named files name)

-- the bytes that a read of the name gives
abbrev pub content_of : List HeldFile → List ℕ → List ℕ
content_of files name = unwrap_or (bytes_held files name) []

-- how many bytes the name may hold, which is 0 if it isn't held
abbrev pub room_of : List HeldFile → List ℕ → ℕ
room_of files name = option_map_or (λ file. file.room) (file_named files name) 0

-- the name now holds these bytes in a room of that size, and other names are as before
pub record HoldsInstead (old new : List HeldFile) (name bytes : List ℕ) (room : ℕ) : Type 0 where
  pub held : bytes_held new name ≡ Some bytes
  pub room_held : room_of new name ≡ room
  pub others : (other : List ℕ) → other ≢ name → bytes_held new other ≡ bytes_held old other
  pub other_rooms : (other : List ℕ) → other ≢ name → room_of new other ≡ room_of old other

-- how many bytes of a file there are from a place on, as far as they fit a room of that size
abbrev pub count_in : List ℕ → ℕ → ℕ → ℕ
count_in bytes at room = min room (length bytes - at)

-- the name isn't held, or may hold fewer bytes than that
abbrev pub HasNoRoom : List HeldFile → List ℕ → ℕ → Type 0
HasNoRoom files name n = (bytes_held files name ≡ None) ⊎ (room_of files name < n)
