-- Leaves and the instructions that they were made of.
use Rattle.std.proofs.Common.{◌≡◌, pos, true, get_or, refl, subst}
use Rattle.std.proofs.lemmas.List.{get_or_default}
use Rattle.std.specs.List.{AllByRecursion}
use Rattle.tilt_base.proofs.Lists.{all-at}
use Rattle.tilt_code.specs.Code.{Block}
use Rattle.tilt_code.specs.declared.instr.Instr.{Instr}
use Rattle.tilt_code.specs.declared.instr.Instr.TheVariants.{Const}
use Rattle.tilt_turn.specs.Held.{IsPlaceOf, origin, places_of}
use Rattle.tilt_turn.specs.Picked.{reads}
use Rattle.tilt_turn.specs.declared.leaf.Leaf.{Leaf}
use Rattle.tilt_turn.specs.declared.leaf.Leaf.TheVariants as leaf
use Rattle.tilt_turn.specs.declared.placed.Placed.{Placed}

pub origin-reads : (own : Leaf) → reads (origin own) ≡ true
origin-reads (leaf.Port p) = refl
origin-reads (leaf.Window w) = refl

-- what holds of each instruction of a body holds of what a leaf of it reads
pub origin-holds : (P : Instr → Type 0) (body : Block) (own : Placed) → AllByRecursion P body
    → AllByRecursion (IsPlaceOf body (origin own.leaf)) (places_of own) → P (origin own.leaf)
origin-holds P body own all places =
    let instr = get_or body own.place (Const (pos 0)) in
    let within = places.0.0 in
    subst P places.0.1 (all-at P body own.place instr all within (get_or_default body own.place (Const (pos 0)) instr within))
