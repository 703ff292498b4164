-- How many snapshots of a part are left, and that each step of it leaves fewer.
use Rattle.std.proofs.Common.{◌≡◌, ◌<◌, ◌-◌, ◌++◌, ◌∙◌, slice_get, ℕ, suc, ℤ, false, List, [], ◌∷◌, length, min, Some, refl, sym, arith}
use Rattle.std.proofs.lemmas.Bool.{false≢true}
use Rattle.std.proofs.lemmas.Bool.Decides.{nat_tests}
use Rattle.std.specs.List.{AllByRecursion}
use Rattle.std.specs.Option.{ForSome, option_map_or}
use Rattle.tilt_base.proofs.Lists.{all-slice_get}
use Rattle.tilt_code.specs.Run.{run_of}
use Rattle.tilt_compiler.specs.Accepted.{AcceptedParts}
use Rattle.tilt_parts.proofs.Lists.{get-some}
use Rattle.tilt_parts.proofs.Output.{run-all, taken-counted, taken-finished}
use Rattle.tilt_parts.proofs.Standing.{fewer, times-own}
use Rattle.tilt_parts.specs.Part.{PartValue, is_finished}
use Rattle.tilt_parts.specs.Parts.{AreParts, all_on, times}
use Rattle.tilt_stream.specs.Snap.{Snapshot}

-- how many snapshots of its code's run weren't taken from a part, and from the one at a place
abbrev pub left_of : PartValue → ℕ
left_of part = length (run_of part.pipe.code part.pipe.inputs) - length part.taken

abbrev pub left_at : ℕ → List PartValue → ℕ
left_at place parts = option_map_or left_of (slice_get parts place) 0

falls : (size times before after : ℕ) → before ≡ size - min size times → after ≡ size - min size (suc times) → min size times < size → after < before
falls size times before after is now few = grind (arith, nat_tests)

module _ (query : AcceptedParts) (rows : List (List Snapshot)) (steps : List ℕ) (cuts : List ℤ) (old new : List PartValue) (place : ℕ)
    (are : AreParts query rows cuts steps old) (become : AreParts query rows cuts (steps ++ place ∷ []) new) where
  left_falls : (p q : PartValue) → slice_get old place ≡ Some p → slice_get new place ≡ Some q → p.refused ≡ false → q.refused ≡ false
      → q.stretch ≡ p.stretch → is_finished p ≡ false → left_of q < left_of p
  left_falls p q at now granted kept same more =
      let size = length (all_on query rows p.stretch) in
      let counted = taken-counted query rows steps cuts old are place p at granted in
      let few : min size (times place steps) < size = fewer size (times place steps) (min size (times place steps)) refl
      (λ all. false≢true (sym more ∙ taken-finished query rows steps cuts old are place p at granted (counted ∙ all))) in
      let run = run-all query rows steps cuts old are place p at granted in
      let before : left_of p ≡ size - min size (times place steps) = λ i. run i - counted i in
      let run_now = run-all query rows (steps ++ place ∷ []) cuts new become place q now kept in
      let counted_now = taken-counted query rows (steps ++ place ∷ []) cuts new become place q now kept in
      let after : left_of q ≡ size - min size (suc (times place steps)) =
      (λ i. run_now i - counted_now i)
      ∙ (λ i. length (all_on query rows (same i)) - min (length (all_on query rows (same i))) (times-own place steps i)) in
      falls size (times place steps) (left_of p) (left_of q) before after few

  pub left-falls : place < length old → length new ≡ length old → AllByRecursion (λ (p : PartValue). p.refused ≡ false) old
      → AllByRecursion (λ (p : PartValue). p.refused ≡ false) new
      → ForSome (slice_get old place) (λ p. ForSome (slice_get new place) (λ q. q.stretch ≡ p.stretch))
      → ForSome (slice_get old place) (λ p. is_finished p ≡ false) → left_at place new < left_at place old
  left-falls within many granted kept same more =
      let p = get-some old place within in
      let q = get-some new place (rw many within) in
      rw (p.1, q.1) (left_falls p.0 q.0 p.1 q.1 (all-slice_get (λ (r : PartValue). r.refused ≡ false) old place p.0 granted p.1)
      (all-slice_get (λ (r : PartValue). r.refused ≡ false) new place q.0 kept q.1) (same p.0 p.1 q.0 q.1) (more p.0 p.1))
