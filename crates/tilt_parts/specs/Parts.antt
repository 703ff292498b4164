-- Parts of the output domain: the state of each of them after steps, and what they give together.
use Rattle.std.specs.Prelude.{◌≡◌, ◌++◌, ◌-ℤ◌, ◌<ℤ◌, ⊤, ℕ, suc, ℤ, pos, false, List, [], ◌∷◌, length, min, nat_eq, if◌then◌else◌, Some}
use Rattle.tilt_base.specs.declared.span.Span.{Span}
use Rattle.tilt_code.specs.Code.{CodeParts}
use Rattle.tilt_code.specs.Run.{run_of}
use Rattle.tilt_compiler.specs.Accepted.{AcceptedParts, IsAccepted}
use Rattle.tilt_compiler.specs.Compiled.{given}
use Rattle.tilt_core.specs.Core.{domain_of}
use Rattle.tilt_fuse.specs.Plan.{plan_of}
use Rattle.tilt_lower.specs.Lowering.{code_of}
use Rattle.tilt_parts.specs.Part.{PartValue, part_after}
use Rattle.tilt_stream.specs.Pieces.{joined_from, last_start, without_last}
use Rattle.tilt_stream.specs.Snap.{Snapshot}

-- cuts that rise, each of them inside a stretch
abbrev pub AreInside : ℤ → List ℤ → ℤ → Type 0
AreInside start [] end = start <ℤ end
AreInside start (cut ∷ cuts) end = (start <ℤ cut) × AreInside cut cuts end

-- the stretches that cuts make: the first begins where the whole does, each later one a tick before its cut, and the last ends where the
-- whole does
abbrev pub stretches : ℤ → List ℤ → ℤ → List Span
stretches start [] end = record { start = start; end = end } ∷ []
stretches start (cut ∷ cuts) end = record { start = start; end = cut } ∷ stretches (cut -ℤ pos 1) cuts end

-- how often steps name a part
abbrev pub times : ℕ → List ℕ → ℕ
times part [] = 0
times part (step ∷ steps) = if nat_eq step part then suc (times part steps) else times part steps

-- the code of a query on a stretch
abbrev pub code_on : AcceptedParts → Span → CodeParts
code_on query stretch = code_of (plan_of query.core query.fuse) query.core query.margins stretch.start stretch.end

-- all snapshots of a query on a stretch
abbrev pub all_on : AcceptedParts → List (List Snapshot) → Span → List Snapshot
all_on query rows stretch = given query.core rows stretch.start stretch.end

-- the part at a place is of that stretch, and its code gives what the query does there. As long as memory doesn't run out for it, the
-- number of snapshots taken is how often the steps name it, but no more than there are
pub record Stands (query : AcceptedParts) (rows : List (List Snapshot)) (steps : List ℕ) (place : ℕ) (stretch : Span) (part : PartValue)
    : Type 0 where
  pub stretch_is : part.stretch ≡ stretch
  pub means : run_of (code_on query stretch) rows ≡ all_on query rows stretch
  pub after : part.refused ≡ false
      → part ≡ part_after stretch (code_on query stretch) rows (min (length (all_on query rows stretch)) (times place steps))

-- the same of the parts from a place on, one for each stretch
abbrev pub StandFrom : AcceptedParts → List (List Snapshot) → List ℕ → ℕ → List Span → List PartValue → Type 0
StandFrom query rows steps place [] [] = ⊤
StandFrom query rows steps place (stretch ∷ stretches) (part ∷ parts) =
    Stands query rows steps place stretch part × StandFrom query rows steps (suc place) stretches parts
StandFrom query rows steps place stretches parts = ⊥

-- parts of a query over these rows, with these cuts, after these steps, each of which names a part
pub record AreParts (query : AcceptedParts) (rows : List (List Snapshot)) (cuts : List ℤ) (steps : List ℕ) (parts : List PartValue)
    : Type 0 where
  pub accepted : IsAccepted query
  pub many : length rows ≡ length query.core.inputs
  pub domain : Span
  pub domain_is : domain_of query.core.defs ≡ Some domain
  pub inside : AreInside domain.start cuts domain.end
  pub stand : StandFrom query rows steps 0 (stretches domain.start cuts domain.end) parts

-- a list goes on by another from a cut: its last snapshot is taken off, and the other's first one goes on from where that one began
abbrev pub joint : List Snapshot → List Snapshot → List Snapshot
joint list next = without_last list ++ joined_from (last_start list) next

-- what was taken from parts, joined after a list
abbrev pub joined_after : List Snapshot → List PartValue → List Snapshot
joined_after list [] = list
joined_after list (part ∷ parts) = joined_after (joint list part.taken) parts
