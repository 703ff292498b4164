use Rattle.std.proofs.Common.{◌≡◌, ◌++◌, ℕ, ℤ, List, length, take, false}
use Rattle.std.specs.List.{AllByRecursion}
use Rattle.tilt_compiler.specs.Accepted.{AcceptedParts}
use Rattle.tilt_parts.specs.Part.{PartValue}
use Rattle.tilt_parts.specs.Parts.{AreParts}
use Rattle.tilt_stream.specs.Snap.{Snapshot}
use Rattle.tilt_parts.proofs.parts.Parts.follow.Given as goal

abbrev pub invariant-loop-part : goal.invariant-loop-part
invariant-loop-part l =
    (length l.self ≡ length l.initial.self)
    × ((query : AcceptedParts) (rows : List (List Snapshot)) (cuts : List ℤ) (steps : List ℕ) → AreParts query rows cuts steps l.initial.self
    → AreParts query rows cuts (steps ++ take l.part-index l.order) l.self)
    × (AllByRecursion (λ (part : PartValue). part.refused ≡ false) l.initial.self → AllByRecursion (λ (part : PartValue). part.refused ≡ false) l.self)
