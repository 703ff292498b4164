-- Once all parts are finished, what was taken from them, joined, is what the query gives.
use Rattle.std.proofs.Common.{◌≡◌, ◌<ℤ◌, ◌≤ℤ◌, ◌==◌, ◌+◌, ◌∙◌, slice_get, ℕ, zero, suc, ℤ, neg_ℤ, true, false, List, [], ◌∷◌, length, min, Some, refl, sym, ap, subst, arith}
use Rattle.std.proofs.lemmas.Int.{ints}
use Rattle.std.proofs.lemmas.Option.{none-some, same_Some}
use Rattle.std.proofs.Math.Nat.{min-le_left}
use Rattle.std.specs.List.{AllByRecursion}
use Rattle.tilt_base.specs.declared.limits.TheConstants.{T, WIDE}
use Rattle.tilt_base.specs.declared.span.Span.{Span}
use Rattle.tilt_code.specs.Run.{run_of}
use Rattle.tilt_compiler.specs.Accepted.{AcceptedParts}
use Rattle.tilt_core.proofs.Constancy.{definitions-AreGrids, meaning-changes}
use Rattle.tilt_core.proofs.Last.{domain_of-stretch}
use Rattle.tilt_core.specs.Core.{IsStretch, emitted_number}
use Rattle.tilt_core.specs.Meaning.{emitted, meaning, output_of}
use Rattle.tilt_parts.proofs.Standing.{all-taken, count-taken, stretches-some, whole-taken}
use Rattle.tilt_parts.proofs.Whole.{joined-whole, midway-first}
use Rattle.tilt_parts.specs.Joined.{AreWhole, IsMidway}
use Rattle.tilt_parts.specs.Part.{PartValue, is_finished}
use Rattle.tilt_parts.specs.Parts.{AreParts, StandFrom, Stands, all_on, joined_after, stretches, times}
use Rattle.tilt_stream.specs.Agreement.{ChangesOnlyAtMarks}
use Rattle.tilt_stream.specs.Snap.{Snapshot}
use Rattle.tilt_stream.specs.Snapshots.{snapshots}
use Rattle.tilt_stream.specs.Stream.{Stream}

-- the stream that a query emits
abbrev pub stream_given : AcceptedParts → List (List Snapshot) → Stream
stream_given query rows = meaning rows query.core.defs (emitted_number query.core)

module _ (query : AcceptedParts) (rows : List (List Snapshot)) (steps : List ℕ) where
  part-whole : (place : ℕ) (stretch : Span) (part : PartValue) → stretch.start <ℤ stretch.end → Stands query rows steps place stretch part
      → part.refused ≡ false → is_finished part ≡ true → part.taken ≡ all_on query rows stretch
  part-whole place stretch part some stands granted done =
      let is = stands.after granted in
      ap (λ (p : PartValue). p.taken) is
      ∙ whole-taken query rows place stretch some stands.means (min (length (all_on query rows stretch)) (times place steps))
      (min-le_left (length (all_on query rows stretch)) (times place steps))
      (subst (λ (p : PartValue). is_finished p ≡ true) is done)

  -- how many were taken from it
  part_counted : (place : ℕ) (stretch : Span) (part : PartValue) → stretch.start <ℤ stretch.end → Stands query rows steps place stretch part
      → part.refused ≡ false → length part.taken ≡ min (length (all_on query rows stretch)) (times place steps)
  part_counted place stretch part some stands granted =
      ap (λ (p : PartValue). length p.taken) (stands.after granted)
      ∙ count-taken query rows place stretch some stands.means (min (length (all_on query rows stretch)) (times place steps))
      (min-le_left (length (all_on query rows stretch)) (times place steps))

  -- a part that follows the steps on some stretch
  record StandsSomewhere (place : ℕ) (part : PartValue) : Type 0 where
    stretch : Span
    some : stretch.start <ℤ stretch.end
    stands : Stands query rows steps place stretch part

  stand_at : (named place i : ℕ) (spans : List Span) (parts : List PartValue) (part : PartValue) → named ≡ place + i
      → AllByRecursion (λ (s : Span). s.start <ℤ s.end) spans → StandFrom query rows steps place spans parts → slice_get parts i ≡ Some part
      → StandsSomewhere named part
  stand_at named place i [] [] part at some stand is = absurd (none-some part is)
  stand_at named place i [] (p ∷ parts) part at some stand is = absurd stand
  stand_at named place i (s ∷ spans) [] part at some stand is = absurd stand
  stand_at named place zero (s ∷ spans) (p ∷ parts) part at some stand is =
      let here : named ≡ place = omega arith in record {
        stretch = s;
        some = some.0;
        stands = subst (λ (n : ℕ). Stands query rows steps n s part) (sym here)
            (subst (λ (q : PartValue). Stands query rows steps place s q) (same_Some p part is) stand.0);
      }
  stand_at named place (suc i) (s ∷ spans) (p ∷ parts) part at some stand is =
      stand_at named (suc place) i spans parts part (omega arith) some.1 stand.1 is

  module _ (cuts : List ℤ) (parts : List PartValue) (are : AreParts query rows cuts steps parts) (place : ℕ) (part : PartValue)
      (is : slice_get parts place ≡ Some part) (granted : part.refused ≡ false) where
    at : StandsSomewhere place part
    at = stand_at place 0 place (stretches are.domain.start cuts are.domain.end) parts part (omega arith)
        (stretches-some are.domain.start are.domain.start cuts are.domain.end (omega (arith, ints)) are.inside) are.stand is

    pub taken-counted : length part.taken ≡ min (length (all_on query rows part.stretch)) (times place steps)
    taken-counted =
        part_counted place at.stretch part at.some at.stands granted
        ∙ ap (λ (s : Span). min (length (all_on query rows s)) (times place steps)) (sym at.stands.stretch_is)

    -- its code's run is as long as what the query gives on its stretch
    pub run-all : length (run_of part.pipe.code part.pipe.inputs) ≡ length (all_on query rows part.stretch)
    run-all =
        ap (λ (p : PartValue). length (run_of p.pipe.code p.pipe.inputs)) (at.stands.after granted)
        ∙ ap (λ (l : List Snapshot). length l) at.stands.means ∙ ap (λ (s : Span). length (all_on query rows s)) (sym at.stands.stretch_is)

    pub finished-taken : is_finished part ≡ true → length part.taken ≡ length (all_on query rows part.stretch)
    finished-taken done =
        ap (λ (l : List Snapshot). length l) (part-whole place at.stretch part at.some at.stands granted done)
        ∙ ap (λ (s : Span). length (all_on query rows s)) (sym at.stands.stretch_is)

    pub taken-finished : length part.taken ≡ length (all_on query rows part.stretch) → is_finished part ≡ true
    taken-finished all =
        subst (λ (p : PartValue). is_finished p ≡ true) (sym (at.stands.after granted))
        (all-taken query rows place at.stretch at.some at.stands.means (min (length (all_on query rows at.stretch)) (times place steps))
        (sym (part_counted place at.stretch part at.some at.stands granted) ∙ all
        ∙ ap (λ (s : Span). length (all_on query rows s)) at.stands.stretch_is))

  parts-whole : (place : ℕ) (spans : List Span) (parts : List PartValue) → AllByRecursion (λ (s : Span). s.start <ℤ s.end) spans
      → StandFrom query rows steps place spans parts → AllByRecursion (λ (p : PartValue). p.refused ≡ false) parts
      → AllByRecursion (λ (p : PartValue). is_finished p ≡ true) parts → AreWhole (stream_given query rows) spans parts
  parts-whole place [] [] some stand granted done = tt
  parts-whole place [] (part ∷ parts) some stand granted done = absurd stand
  parts-whole place (s ∷ spans) [] some stand granted done = absurd stand
  parts-whole place (s ∷ spans) (part ∷ parts) some stand granted done =
      (part-whole place s part some.0 stand.0 granted.0 done.0, parts-whole (suc place) spans parts some.1 stand.1 granted.1 done.1)

  module _ (cuts : List ℤ) (parts : List PartValue) (are : AreParts query rows cuts steps parts)
      (granted : AllByRecursion (λ (p : PartValue). p.refused ≡ false) parts) (done : AllByRecursion (λ (p : PartValue). is_finished p ≡ true) parts) where
    law : ChangesOnlyAtMarks (stream_given query rows)
    law = meaning-changes rows query.core.defs (definitions-AreGrids (length query.core.inputs) query.core.defs are.accepted.valid.definitions)
        (emitted_number query.core)

    whole : AreWhole (stream_given query rows) (stretches are.domain.start cuts are.domain.end) parts
    whole = parts-whole 0 (stretches are.domain.start cuts are.domain.end) parts
        (stretches-some are.domain.start are.domain.start cuts are.domain.end (omega (arith, ints)) are.inside) are.stand granted done

    in_reach : (neg_ℤ T ≤ℤ are.domain.start) × (are.domain.start <ℤ are.domain.end) × (are.domain.end ≤ℤ T)
    in_reach = subst IsStretch are.domain_is (domain_of-stretch (length query.core.inputs) query.core.defs are.accepted.valid.definitions)

    bounds_low : neg_ℤ WIDE ≤ℤ are.domain.start
    bounds_low = let low = in_reach.0 in omega (arith, ints)

    bounds_high : are.domain.end ≤ℤ WIDE
    bounds_high = let high = in_reach.2 in omega (arith, ints)

    pub first-midway : (first : PartValue) (later : List PartValue) → parts ≡ first ∷ later
        → IsMidway (stream_given query rows) are.domain.start are.domain.end first.taken later
    first-midway first later is =
        midway-first (stream_given query rows) law are.domain.start cuts are.domain.end first later bounds_low bounds_high are.inside
        (subst (λ (l : List PartValue). AreWhole (stream_given query rows) (stretches are.domain.start cuts are.domain.end) l) is whole)

    emits : emitted query.core rows ≡ Some (stream_given query rows)
    emits = let test : (length rows == length query.core.inputs) ≡ true = (let many = are.many in grind arith) in rw test refl

    pub output-is : (list : List Snapshot) → list ≡ snapshots (stream_given query rows) are.domain.start are.domain.end
        → output_of query.core rows ≡ Some list
    output-is list is = rw (emits, are.domain_is, is) refl

    pub joined-is : (list : List Snapshot) → list ≡ snapshots (stream_given query rows) are.domain.start are.domain.end → list ≡ joined_after [] parts
    joined-is list is =
        is ∙ sym (joined-whole (stream_given query rows) law are.domain.start cuts are.domain.end parts are.inside whole)

-- there is always a part
no_parts : (query : AcceptedParts) (rows : List (List Snapshot)) (steps : List ℕ) (start : ℤ) (cuts : List ℤ) (hi : ℤ)
    → StandFrom query rows steps 0 (stretches start cuts hi) [] → ⊥
no_parts query rows steps start [] hi stand = stand
no_parts query rows steps start (cut ∷ cuts) hi stand = stand

pub stand-some : (query : AcceptedParts) (rows : List (List Snapshot)) (steps : List ℕ) (cuts : List ℤ) (parts : List PartValue) → parts ≡ []
    → AreParts query rows cuts steps parts → ⊥
stand-some query rows steps cuts parts none are =
    no_parts query rows steps are.domain.start cuts are.domain.end
    (subst (λ (l : List PartValue). StandFrom query rows steps 0 (stretches are.domain.start cuts are.domain.end) l) none are.stand)
