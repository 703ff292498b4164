-- Parts after a step that names one of them, and after several.
use Rattle.std.proofs.Common.{◌≡◌, ◌≢◌, ◌<◌, ◌+◌, ◌<ℤ◌, ◌++◌, ◌∙◌, ℕ, zero, suc, ℤ, true, false, List, [], ◌∷◌, length, slice_get, slice_set, min, Some, Result, refl, sym, ap, subst, arith}
use Rattle.std.proofs.lemmas.Int.{ints}
use Rattle.std.proofs.lemmas.Option.{same_Some}
use Rattle.std.specs.List.{AllByRecursion}
use Rattle.std.specs.Prelude.{IsOk, IsErr, OnOk, OnErr}
use Rattle.std.specs.declared.alloc.AllocError.{AllocError}
use Rattle.tilt_base.specs.declared.span.Span.{Span}
use Rattle.tilt_code.specs.Run.{run_of}
use Rattle.tilt_compiler.specs.Accepted.{AcceptedParts}
use Rattle.tilt_parts.proofs.Standing.{stands-after, stretches-some, times-other}
use Rattle.tilt_parts.specs.Part.{PartValue, is_finished, part_after}
use Rattle.tilt_parts.specs.Parts.{AreParts, StandFrom, Stands, all_on, code_on, stretches}
use Rattle.tilt_stream.specs.Snap.{Snapshot}

module _ (query : AcceptedParts) (rows : List (List Snapshot)) (steps : List ℕ) (named : ℕ) where
  stands-other : (place : ℕ) (stretch : Span) (part : PartValue) → place ≢ named → Stands query rows steps place stretch part
      → Stands query rows (steps ++ named ∷ []) place stretch part
  stands-other place stretch part differs stands = record {
    stretch_is = stands.stretch_is;
    means = stands.means;
    after = λ granted. stands.after granted
        ∙ ap (λ (n : ℕ). part_after stretch (code_on query stretch) rows (min (length (all_on query rows stretch)) n)) (sym (times-other place named steps differs));
  }

  -- those from a later place on
  others-after : (place : ℕ) (spans : List Span) (parts : List PartValue) → named < place → StandFrom query rows steps place spans parts
      → StandFrom query rows (steps ++ named ∷ []) place spans parts
  others-after place [] [] later stand = tt
  others-after place [] (part ∷ parts) later stand = absurd stand
  others-after place (s ∷ spans) [] later stand = absurd stand
  others-after place (s ∷ spans) (part ∷ parts) later stand =
      (stands-other place s part (λ same. omega arith) stand.0, others-after (suc place) spans parts (omega arith) stand.1)

  -- all, if the named one follows the steps after it as it ought to
  stand-after : (place i : ℕ) (spans : List Span) (parts : List PartValue) (new : PartValue) → named ≡ place + i
      → AllByRecursion (λ (s : Span). s.start <ℤ s.end) spans
      → ((stretch : Span) (old : PartValue) → stretch.start <ℤ stretch.end → slice_get parts i ≡ Some old → Stands query rows steps named stretch old
      → Stands query rows (steps ++ named ∷ []) named stretch new)
      → StandFrom query rows steps place spans parts → StandFrom query rows (steps ++ named ∷ []) place spans (slice_set parts i new)
  stand-after place i [] [] new at some law stand = tt
  stand-after place i [] (part ∷ parts) new at some law stand = absurd stand
  stand-after place i (s ∷ spans) [] new at some law stand = absurd stand
  stand-after place zero (s ∷ spans) (part ∷ parts) new at some law stand =
      let here : named ≡ place = omega arith in (
        subst (λ (n : ℕ). Stands query rows (steps ++ named ∷ []) n s new) here
            (law s part some.0 refl (subst (λ (n : ℕ). Stands query rows steps n s part) (sym here) stand.0)),
        others-after (suc place) spans parts (omega arith) stand.1,
      )
  stand-after place (suc i) (s ∷ spans) (part ∷ parts) new at some law stand = (
    stands-other place s part (λ same. omega arith) stand.0,
    stand-after (suc place) i spans parts new (omega arith) some.1 law stand.1,
  )

  -- all, after the step itself
  module _ (result : Result (Unit {0}) AllocError) (old new : PartValue)
      (same_stretch : new.stretch ≡ old.stretch) (finished : old.refused ≡ false → is_finished old ≡ true → IsOk result × (new ≡ old))
      (one_more : old.refused ≡ false → is_finished old ≡ false → length old.taken < length (run_of old.pipe.code old.pipe.inputs)
      → OnOk result (new ≡ part_after old.stretch old.pipe.code old.pipe.inputs (suc (length old.taken))))
      (refused : OnErr result (new.refused ≡ true)) (for_good : old.refused ≡ true → IsErr result) where
    own-after : (stretch : Span) → stretch.start <ℤ stretch.end → Stands query rows steps named stretch old
        → Stands query rows (steps ++ named ∷ []) named stretch new
    own-after stretch some stands =
        stands-after query rows named stretch some stands.means steps result old new stands same_stretch finished one_more refused for_good

    pub parts-after : (cuts : List ℤ) (parts : List PartValue) → slice_get parts named ≡ Some old → AreParts query rows cuts steps parts
        → AreParts query rows cuts (steps ++ named ∷ []) (slice_set parts named new)
    parts-after cuts parts at are = record {
      accepted = are.accepted;
      many = are.many;
      domain = are.domain;
      domain_is = are.domain_is;
      inside = are.inside;
      stand = stand-after 0 named (stretches are.domain.start cuts are.domain.end) parts new (omega arith)
          (stretches-some are.domain.start are.domain.start cuts are.domain.end (omega (arith, ints)) are.inside)
          (λ stretch there some here stands. own-after stretch some
          (subst (λ (p : PartValue). Stands query rows steps named stretch p) (same_part there here) stands)) are.stand;
    } where
      same_part : (there : PartValue) → slice_get parts named ≡ Some there → there ≡ old
      same_part there here = same_Some there old (sym here ∙ at)
