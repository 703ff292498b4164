-- The laws of a folder in memory.
use Rattle.std.specs.Prelude.{◌≤◌, ℕ, zero, suc, List, [], ◌∷◌, length}
use mathlib.Core.Logic.{inr}
use Rattle.tilt_store.specs.Kept.{Kept}
use Rattle.tilt_store.specs.MemFolder.{after, after_all, at_first, left_during, left_since, mem_left_since, mem_may_leave}
use Rattle.tilt_store.specs.declared.change.Change.{Change}
use Rattle.tilt_store.specs.declared.mem_folder.MemFolder.{MemFolder}

-- the last moment is one of those during the changes
last_counts : (leaves : Kept → Type 0) (changes : List Change) (c : Kept) → after_all leaves changes c → left_during leaves changes c
last_counts leaves [] c left = left
last_counts leaves (change ∷ changes) c left = inr (last_counts (after leaves change) changes c left)

counts_since : (leaves : Kept → Type 0) (changes : List Change) (t : ℕ) (c : Kept) → after_all leaves changes c
    → left_since leaves changes t c
counts_since leaves changes zero c left = last_counts leaves changes c left
counts_since leaves [] (suc t) c left = left
counts_since leaves (change ∷ changes) (suc t) c left = counts_since (after leaves change) changes t c left

-- since the last there is no other
only_since : (leaves : Kept → Type 0) (changes : List Change) (c : Kept) → left_since leaves changes (length changes) c
    → after_all leaves changes c
only_since leaves [] c left = left
only_since leaves (change ∷ changes) c left = only_since (after leaves change) changes c left

pub mem_counts_now : (folder : MemFolder) (t : ℕ) (c : Kept) → t ≤ length folder.changes.items → mem_may_leave folder c
    → mem_left_since folder t c
mem_counts_now folder t c le left = counts_since (at_first folder.first) folder.changes.items t c left

pub mem_only_now : (folder : MemFolder) (c : Kept) → mem_left_since folder (length folder.changes.items) c → mem_may_leave folder c
mem_only_now folder c left = only_since (at_first folder.first) folder.changes.items c left
