-- After how many transitions the offset for a local time is.
use Rattle.std.proofs.Common.{◌≡◌, ◌⊎◌, ℕ, zero, suc, ◌≤◌, ◌<◌, ℤ, pos, ◌+ℤ◌, ◌-ℤ◌, ◌≤ℤ◌, ◌<ℤ◌, List, [], ◌∷◌, length, refl, sym, subst, ◌∙◌, arith, inl, inr}
use Rattle.std.proofs.lemmas.Int.{ints}
use Rattle.tilt_zones.proofs.PlaceLemmas.{after, after_first, before, moments_rise, offset_is, rising}
use Rattle.tilt_zones.proofs.ShownLemmas.{shown_by, side}
use Rattle.tilt_zones.specs.Order.{IsInOrder, offset_after, shown_from, transition_at}
use Rattle.tilt_zones.specs.Place.{IsBeforeNext, IsPlaceOf}
use Rattle.tilt_zones.specs.Taken.{IsByOffset, IsPassedAt, edge, offset_for}
use Rattle.tilt_zones.specs.Zone.{IsSkipped}
use Rattle.tilt_zones.specs.declared.moments.Fold.{Fold}
use Rattle.tilt_zones.specs.declared.moments.Fold.TheVariants.{First, Second}
use Rattle.tilt_zones.specs.declared.transition.Transition.{Transition}

-- the edge of a change by the offset before it
abbrev pub edge_by : Fold → ℤ → Transition → ℤ
edge_by fold offset t = edge fold (t.moment +ℤ offset) (shown_from t)

-- edges and local times
first_passed : (a b z : ℤ) → a ≤ℤ z → b ≤ℤ z → edge First a b ≤ℤ z
first_passed a b z old new = grind (arith, ints)

first_ahead_old : (a b z : ℤ) → z <ℤ a → z <ℤ edge First a b
first_ahead_old a b z old = grind (arith, ints)

first_ahead_new : (a b z : ℤ) → z <ℤ b → z <ℤ edge First a b
first_ahead_new a b z new = grind (arith, ints)

second_passed_old : (a b z : ℤ) → a ≤ℤ z → edge Second a b ≤ℤ z
second_passed_old a b z old = grind (arith, ints)

second_passed_new : (a b z : ℤ) → b ≤ℤ z → edge Second a b ≤ℤ z
second_passed_new a b z new = grind (arith, ints)

second_ahead : (a b z : ℤ) → z <ℤ a → z <ℤ b → z <ℤ edge Second a b
second_ahead a b z old new = grind (arith, ints)

not_less : (a b : ℤ) → ¬ (a <ℤ b) → b ≤ℤ a
not_less a b over = grind (arith, ints)

one_of : (i count : ℕ) → i < count → (suc i < count) ⊎ (suc i ≡ count)
one_of i count below = grind arith

last_of : (i count : ℕ) → i < suc count → (i < count) ⊎ (i ≡ count)
last_of i count below = grind arith

-- the offset is the one after so many transitions if the edges of these are passed, and that of the next one isn't
pub offset_for_is : (fold : Fold) (first : ℤ) (ts : List Transition) (local : ℤ) (count : ℕ) → count ≤ length ts
    → ((i : ℕ) → i < count → edge_by fold (offset_after first ts i) (transition_at ts i) ≤ℤ local)
    → (count < length ts → local <ℤ edge_by fold (offset_after first ts count) (transition_at ts count))
    → offset_for fold first ts local ≡ offset_after first ts count
offset_for_is fold first [] local zero bound passed ahead = refl
offset_for_is fold first [] local (suc count) bound passed ahead = absurd (omega arith)
offset_for_is fold first (t ∷ ts) local zero bound passed ahead =
    let less = ahead (omega arith) in
    rw (before local (edge_by fold first t) less) refl
offset_for_is fold first (t ∷ ts) local (suc count) bound passed ahead =
    let up = passed 0 (omega arith) in
    rw (after local (edge_by fold first t) up)
    (offset_for_is fold t.offset ts local count (omega arith)
    (λ i below. subst (λ o. edge_by fold o (transition_at ts i) ≤ℤ local) (sym (after_first first t ts i)) (passed (suc i) (omega arith)))
    (λ inside. subst (λ o. local <ℤ edge_by fold o (transition_at ts count)) (sym (after_first first t ts count)) (ahead (omega arith)))
    ∙ after_first first t ts count)

-- the moment by the offset after so many transitions isn't before the next one
pub next_reached : (first : ℤ) (ts : List Transition) (local : ℤ) (n : ℕ) → ¬ (IsBeforeNext first ts n local)
    → ((transition_at ts n).moment +ℤ offset_after first ts n) ≤ℤ local
next_reached first ts local n none =
    not_less local ((transition_at ts n).moment +ℤ offset_after first ts n) (λ less. none (λ _. less))

-- there is a next one then
pub has_next : (first : ℤ) (ts : List Transition) (local : ℤ) (n : ℕ) → ¬ (IsBeforeNext first ts n local) → n < length ts
has_next first ts local n none = elim (side n (length ts)) [
  | inl less ↦ omega arith
  | inr more ↦ absurd (none (λ inside. absurd (omega arith)))
]

-- the offset before a change is that after all transitions that set clocks to the local time or to one before it, if the one before isn't
-- to be taken
pub first_at : (first : ℤ) (ts : List Transition) (local : ℤ) (count : ℕ) → IsInOrder first ts → IsPlaceOf shown_from ts local count
    → ((n : ℕ) → suc n ≡ count → ¬ (IsBeforeNext first ts n local)) → offset_for First first ts local ≡ offset_after first ts count
first_at first ts local count order place none =
    offset_for_is First first ts local count place.bound
    (λ i below.
    let bound = place.bound in
    let new = place.passed i below in
    first_passed ((transition_at ts i).moment +ℤ offset_after first ts i) (shown_from (transition_at ts i)) local
    (elim (one_of i count below) [
      | inl more ↦
          let next = order i (omega arith) in
          let old = next.past_old in
          let passed = place.passed (suc i) more in
          omega (arith, ints)
      | inr last ↦ next_reached first ts local i (none i last)
    ]) new)
    (λ inside. first_ahead_new ((transition_at ts count).moment +ℤ offset_after first ts count) (shown_from (transition_at ts count)) local
    (place.ahead count (omega arith) inside))

-- otherwise it is the one before the last of these transitions
pub first_before : (first : ℤ) (ts : List Transition) (local : ℤ) (count n : ℕ) → IsInOrder first ts → IsPlaceOf shown_from ts local count
    → suc n ≡ count → IsBeforeNext first ts n local → offset_for First first ts local ≡ offset_after first ts n
first_before first ts local count n order place last before_next =
    let bound = place.bound in
    offset_for_is First first ts local n (omega arith)
    (λ i below.
    let new = place.passed i (omega arith) in
    let next = order i (omega arith) in
    let old = next.past_old in
    let passed = place.passed (suc i) (omega arith) in
    first_passed ((transition_at ts i).moment +ℤ offset_after first ts i) (shown_from (transition_at ts i)) local (omega (arith, ints)) new)
    (λ inside. first_ahead_old ((transition_at ts n).moment +ℤ offset_after first ts n) (shown_from (transition_at ts n)) local (before_next inside))

-- the offset after a change is that after these transitions too, if the next one isn't reached
pub second_at : (first : ℤ) (ts : List Transition) (local : ℤ) (count : ℕ) → IsPlaceOf shown_from ts local count
    → IsBeforeNext first ts count local → offset_for Second first ts local ≡ offset_after first ts count
second_at first ts local count place next =
    offset_for_is Second first ts local count place.bound
    (λ i below. second_passed_new ((transition_at ts i).moment +ℤ offset_after first ts i) (shown_from (transition_at ts i)) local (place.passed i below))
    (λ inside. second_ahead ((transition_at ts count).moment +ℤ offset_after first ts count) (shown_from (transition_at ts count)) local (next inside) (place.ahead count (omega arith) inside))

-- otherwise it is the one after the next one
pub second_after : (first : ℤ) (ts : List Transition) (local : ℤ) (count : ℕ) → IsInOrder first ts → IsPlaceOf shown_from ts local count
    → ¬ (IsBeforeNext first ts count local) → offset_for Second first ts local ≡ offset_after first ts (suc count)
second_after first ts local count order place none =
    let inside = has_next first ts local count none in
    let reached = next_reached first ts local count none in
    offset_for_is Second first ts local (suc count) (omega arith)
    (λ i below. elim (last_of i count below) [
      | inl less ↦ second_passed_new ((transition_at ts i).moment +ℤ offset_after first ts i) (shown_from (transition_at ts i)) local (place.passed i less)
      | inr same ↦ second_passed_old ((transition_at ts i).moment +ℤ offset_after first ts i) (shown_from (transition_at ts i)) local
          (subst (λ j. ((transition_at ts j).moment +ℤ offset_after first ts j) ≤ℤ local) (sym same) reached)
    ])
    (λ more.
    let next = order count more in
    let later = next.later in
    let new = next.past_new in
    let ahead = place.ahead count (omega arith) inside in
    second_ahead ((transition_at ts (suc count)).moment +ℤ (transition_at ts count).offset) (shown_from (transition_at ts (suc count))) local (omega (arith, ints)) (omega (arith, ints)))

-- a local time that is skipped is by no offset before the next transition
pub skipped_by_none : (first : ℤ) (ts : List Transition) (end local : ℤ) (count j : ℕ) → IsInOrder first ts → IsPlaceOf shown_from ts local count
    → j ≤ count → IsSkipped (record { first = first; transitions = ts; end = end }) local → ¬ (IsBeforeNext first ts j local)
skipped_by_none first ts end local count j order place low skipped next =
    skipped (local -ℤ offset_after first ts j) (shown_by first ts end local count j order place low next)

-- just before a transition, the offset is the one before it
just_before : (first : ℤ) (ts : List Transition) (n : ℕ) → IsInOrder first ts → n < length ts
    → IsPlaceOf (λ t. t.moment) ts ((transition_at ts n).moment -ℤ pos 1) n
just_before first ts n order inside = record {
  bound = omega arith;
  passed = λ i below.
      let rise = moments_rise ts (rising first ts order) (suc i) n (omega arith) inside in
      let next = order i (omega arith) in
      let later = next.later in
      omega (arith, ints);
  ahead = λ i from within.
      let rise = moments_rise ts (rising first ts order) n i from within in
      omega (arith, ints);
}

-- and at it, the one after it
at_transition : (first : ℤ) (ts : List Transition) (n : ℕ) → IsInOrder first ts → n < length ts
    → IsPlaceOf (λ t. t.moment) ts (transition_at ts n).moment (suc n)
at_transition first ts n order inside = record {
  bound = omega arith;
  passed = λ i below. moments_rise ts (rising first ts order) i n (omega arith) inside;
  ahead = λ i from within.
      let next = order n (omega arith) in
      let later = next.later in
      let rise = moments_rise ts (rising first ts order) (suc n) i from within in
      omega (arith, ints);
}

-- clocks are set past a skipped local time at the next transition
passed_at : (first : ℤ) (ts : List Transition) (end local : ℤ) (count : ℕ) → IsInOrder first ts → IsPlaceOf shown_from ts local count
    → ¬ (IsBeforeNext first ts count local)
    → IsPassedAt (record { first = first; transitions = ts; end = end }) local (transition_at ts count).moment
passed_at first ts end local count order place none =
    let inside = has_next first ts local count none in
    let reached = next_reached first ts local count none in
    let ahead = place.ahead count (omega arith) inside in
    let old = offset_is first ts ((transition_at ts count).moment -ℤ pos 1) count (just_before first ts count order inside) in
    let new = offset_is first ts (transition_at ts count).moment (suc count) (at_transition first ts count order inside) in
    (omega (arith, ints), omega (arith, ints))

-- the moment of a skipped local time by the offset before that transition, and by the one after it
pub by_offset_before : (first : ℤ) (ts : List Transition) (end local m : ℤ) (count : ℕ) → IsInOrder first ts → IsPlaceOf shown_from ts local count
    → ¬ (IsBeforeNext first ts count local) → m ≡ local -ℤ offset_after first ts count
    → IsByOffset (record { first = first; transitions = ts; end = end }) local First m
by_offset_before first ts end local m count order place none is =
    let inside = has_next first ts local count none in
    let old = offset_is first ts ((transition_at ts count).moment -ℤ pos 1) count (just_before first ts count order inside) in
    ((transition_at ts count).moment, passed_at first ts end local count order place none, omega (arith, ints))

pub by_offset_after : (first : ℤ) (ts : List Transition) (end local m : ℤ) (count : ℕ) → IsInOrder first ts → IsPlaceOf shown_from ts local count
    → ¬ (IsBeforeNext first ts count local) → m ≡ local -ℤ offset_after first ts (suc count)
    → IsByOffset (record { first = first; transitions = ts; end = end }) local Second m
by_offset_after first ts end local m count order place none is =
    let inside = has_next first ts local count none in
    let new = offset_is first ts (transition_at ts count).moment (suc count) (at_transition first ts count order inside) in
    ((transition_at ts count).moment, passed_at first ts end local count order place none, omega (arith, ints))

-- a skipped local time is before no next transition
skipped_none : (first : ℤ) (ts : List Transition) (end local : ℤ) (count : ℕ) → IsInOrder first ts → IsPlaceOf shown_from ts local count
    → IsSkipped (record { first = first; transitions = ts; end = end }) local → (n : ℕ) → suc n ≡ count → ¬ (IsBeforeNext first ts n local)
skipped_none first ts end local count order place skipped n last =
    skipped_by_none first ts end local count n order place (omega arith) skipped

-- so there is a next one
pub skipped_inside : (first : ℤ) (ts : List Transition) (end local : ℤ) (count : ℕ) → IsInOrder first ts → IsPlaceOf shown_from ts local count
    → IsSkipped (record { first = first; transitions = ts; end = end }) local → count < length ts
skipped_inside first ts end local count order place skipped =
    has_next first ts local count (skipped_by_none first ts end local count count order place (omega arith) skipped)

-- its moment by the offset before that transition, and by the one after it
pub skipped_first : (first : ℤ) (ts : List Transition) (end local m offset : ℤ) (count : ℕ) (fold : Fold) → fold ≡ First → IsInOrder first ts
    → IsPlaceOf shown_from ts local count → IsSkipped (record { first = first; transitions = ts; end = end }) local
    → offset ≡ offset_after first ts count → m ≡ local -ℤ offset
    → (m ≡ local -ℤ offset_for fold first ts local) × IsByOffset (record { first = first; transitions = ts; end = end }) local fold m
skipped_first first ts end local m offset count fold is order place skipped at m_is =
    let none = skipped_by_none first ts end local count count order place (omega arith) skipped in
    let by = first_at first ts local count order place (skipped_none first ts end local count order place skipped) in
    let here = by_offset_before first ts end local m count order place none (omega (arith, ints)) in
    let same : m ≡ local -ℤ offset_for First first ts local = omega (arith, ints) in
    subst (λ f. (m ≡ local -ℤ offset_for f first ts local) × IsByOffset (record { first = first; transitions = ts; end = end }) local f m) (sym is) (same, here)

pub skipped_second : (first : ℤ) (ts : List Transition) (end local m offset : ℤ) (count : ℕ) (fold : Fold) → fold ≡ Second → IsInOrder first ts
    → IsPlaceOf shown_from ts local count → IsSkipped (record { first = first; transitions = ts; end = end }) local
    → offset ≡ offset_after first ts (suc count) → m ≡ local -ℤ offset
    → (m ≡ local -ℤ offset_for fold first ts local) × IsByOffset (record { first = first; transitions = ts; end = end }) local fold m
skipped_second first ts end local m offset count fold is order place skipped at m_is =
    let none = skipped_by_none first ts end local count count order place (omega arith) skipped in
    let by = second_after first ts local count order place none in
    let here = by_offset_after first ts end local m count order place none (omega (arith, ints)) in
    let same : m ≡ local -ℤ offset_for Second first ts local = omega (arith, ints) in
    subst (λ f. (m ≡ local -ℤ offset_for f first ts local) × IsByOffset (record { first = first; transitions = ts; end = end }) local f m) (sym is) (same, here)
