-- A folder in memory that a crash can tear.
use Rattle.std.specs.Prelude.{◌≡◌, ◌⊎◌, ℕ, List, [], ◌∷◌, drop, length, take}
use Rattle.tilt_store.specs.Kept.{Kept, Replaced, Torn}
use Rattle.tilt_store.specs.Kept as step
use Rattle.tilt_store.specs.declared.change.Change.{Change}
use Rattle.tilt_store.specs.declared.change.Change.TheVariants.{Append, Cut, Replace, Sync}
use Rattle.tilt_store.specs.declared.contents.Contents.{Contents}
use Rattle.tilt_store.specs.declared.mem_folder.MemFolder.{MemFolder}

-- what contents are
abbrev pub kept_of : Contents → Kept
kept_of contents = record { output = contents.output.items; state = contents.state.items }

-- what a crash can make of a folder by a change
abbrev pub changes : Change → Kept → Kept → Type 0
changes (Append at bytes) old new = Torn at (length bytes.items) old new
changes (Cut len) old new = step.Cut len old new
changes (Replace bytes) old new = Replaced bytes.items old new
changes (Sync contents) old new = new ≡ kept_of contents

-- what a crash can leave after one change more
abbrev pub after : (Kept → Type 0) → Change → Kept → Type 0
after leaves change c = (d : Kept) × leaves d × changes change d c

-- what a crash can leave after these changes, the first of them first
abbrev pub after_all : (Kept → Type 0) → List Change → Kept → Type 0
after_all leaves [] c = leaves c
after_all leaves (change ∷ more) c = after_all (after leaves change) more c

-- what a crash can leave at some moment while these changes are made
abbrev pub left_during : (Kept → Type 0) → List Change → Kept → Type 0
left_during leaves [] c = leaves c
left_during leaves (change ∷ more) c = leaves c ⊎ left_during (after leaves change) more c

-- what a crash leaves of these contents
abbrev pub at_first : Contents → Kept → Type 0
at_first first c = c ≡ kept_of first

-- what calls see
abbrev pub mem_seen : MemFolder → Kept
mem_seen folder = kept_of folder.current

-- what a crash can leave now
abbrev pub mem_may_leave : MemFolder → Kept → Type 0
mem_may_leave folder = after_all (at_first folder.first) folder.changes.items

-- what a crash can leave during these changes since there were t of them
abbrev pub left_since : (Kept → Type 0) → List Change → ℕ → Kept → Type 0
left_since leaves changes t = left_during (after_all leaves (take t changes)) (drop t changes)

-- what a crash can have left since there were t changes
abbrev pub mem_left_since : MemFolder → ℕ → Kept → Type 0
mem_left_since folder = left_since (at_first folder.first) folder.changes.items
