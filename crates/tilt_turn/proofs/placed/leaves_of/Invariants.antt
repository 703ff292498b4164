use Rattle.std.proofs.Common.{◌≡◌, ◌<◌, ℕ, pos, true, get_or, map}
use Rattle.std.specs.List.{AllByRecursion}
use Rattle.tilt_code.specs.declared.instr.Instr.TheVariants.{Const}
use Rattle.tilt_turn.specs.Held.{IsAmong, IsUnread, places_of}
use Rattle.tilt_turn.specs.Picked.{reads}
use Rattle.tilt_turn.proofs.placed.leaves_of.Given as goal

abbrev pub invariant-loop-place : goal.invariant-loop-place
invariant-loop-place l = record {
  unread : AllByRecursion (IsUnread l.body) l.leaves.items;
  all : (place : ℕ) → place < l.place → reads (get_or l.body place (Const (pos 0))) ≡ true → IsAmong place (map places_of l.leaves.items);
}
