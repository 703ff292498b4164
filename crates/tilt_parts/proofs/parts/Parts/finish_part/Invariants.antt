use Rattle.std.proofs.Common.{◌≡◌, ◌≢◌, ◌++◌, ℕ, ℤ, List, length, slice_get, false}
use Rattle.std.specs.List.{AllByRecursion}
use Rattle.tilt_compiler.specs.Accepted.{AcceptedParts}
use Rattle.tilt_parts.proofs.Left.{left_at}
use Rattle.tilt_parts.specs.Part.{PartValue}
use Rattle.tilt_parts.specs.Parts.{AreParts}
use Rattle.tilt_stream.specs.Snap.{Snapshot}
use Rattle.tilt_parts.proofs.parts.Parts.finish_part.Given as goal

abbrev pub invariant-loop-self : goal.invariant-loop-self
invariant-loop-self l = record {
  many : length l.self ≡ length l.initial.self;
  granted : AllByRecursion (λ (part : PartValue). part.refused ≡ false) l.self;
  others : (other : ℕ) → other ≢ l.part → slice_get l.self other ≡ slice_get l.initial.self other;
  after : (query : AcceptedParts) (rows : List (List Snapshot)) (cuts : List ℤ) (steps : List ℕ) → AreParts query rows cuts steps l.initial.self
      → (more : List ℕ) × AreParts query rows cuts (steps ++ more) l.self;
}

abbrev pub decreases-loop-self : goal.decreases-loop-self
decreases-loop-self l = left_at l.part l.self
