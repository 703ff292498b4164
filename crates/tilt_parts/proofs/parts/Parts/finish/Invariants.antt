use Rattle.std.proofs.Common.{◌≡◌, ◌<◌, ◌++◌, ℕ, ℤ, List, length, slice_get, true, false}
use Rattle.std.specs.List.{AllByRecursion}
use Rattle.std.specs.Option.{ForSome}
use Rattle.tilt_compiler.specs.Accepted.{AcceptedParts}
use Rattle.tilt_parts.specs.Part.{PartValue, is_finished}
use Rattle.tilt_parts.specs.Parts.{AreParts}
use Rattle.tilt_stream.specs.Snap.{Snapshot}
use Rattle.tilt_parts.proofs.parts.Parts.finish.Given as goal

abbrev pub invariant-loop-part : goal.invariant-loop-part
invariant-loop-part l = record {
  many : length l.self ≡ length l.initial.self;
  granted : AllByRecursion (λ (part : PartValue). part.refused ≡ false) l.self;
  finished : (place : ℕ) → place < l.part → ForSome (slice_get l.self place) (λ p. is_finished p ≡ true);
  after : (query : AcceptedParts) (rows : List (List Snapshot)) (cuts : List ℤ) (steps : List ℕ) → AreParts query rows cuts steps l.initial.self
      → (more : List ℕ) × AreParts query rows cuts (steps ++ more) l.self;
}
