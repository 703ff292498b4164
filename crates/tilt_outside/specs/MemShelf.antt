-- A shelf in memory.
use Rattle.std.specs.Prelude.{◌≡◌, ◌⊎◌, ℕ, List, None, length, Contains}
use Rattle.tilt_outside.specs.Counts.{added_count, next_count}
use Rattle.tilt_outside.specs.HeldFiles.{HeldFile, bytes_held, HasNoRoom}

-- what is held, the faults, the bytes given and the calls so far, and the numbers of the calls that are to fail
pub record ShelfState : Type 0 where
  pub files : List HeldFile
  pub read_faults : ℕ
  pub save_faults : ℕ
  pub given : ℕ
  pub calls : ℕ
  pub failing : List ℕ

-- the next call fails if it reads that name: it isn't held, or the number of the call is listed
abbrev pub ReadFails : ShelfState → List ℕ → Type 0
ReadFails shelf name = (bytes_held shelf.files name ≡ None) ⊎ Contains shelf.failing (next_count shelf.calls)

-- the next call fails if it saves these bytes: they have no room, or the number of the call is listed
abbrev pub SaveFails : ShelfState → List ℕ → List ℕ → Type 0
SaveFails shelf name bytes = HasNoRoom shelf.files name (length bytes) ⊎ Contains shelf.failing (next_count shelf.calls)

-- the shelf after a call that changed no file and had no fault
abbrev pub after_call : ShelfState → ShelfState
after_call shelf = record shelf { calls = next_count shelf.calls }

-- the shelf after a read that gave so many bytes
abbrev pub after_read : ShelfState → ℕ → ShelfState
after_read shelf count = record shelf { calls = next_count shelf.calls; given = added_count shelf.given count }

-- the shelf after a read that failed
abbrev pub after_read_fault : ShelfState → ShelfState
after_read_fault shelf = record shelf { calls = next_count shelf.calls; read_faults = next_count shelf.read_faults }

-- the shelf after a save that failed
abbrev pub after_save_fault : ShelfState → ShelfState
after_save_fault shelf = record shelf { calls = next_count shelf.calls; save_faults = next_count shelf.save_faults }
