-- At which moments clocks show a local time.
use Rattle.std.proofs.Common.{◌≡◌, ◌⊎◌, ℕ, zero, suc, ◌≤◌, ◌<◌, ℤ, ◌+ℤ◌, ◌-ℤ◌, ◌≤ℤ◌, ◌<ℤ◌, List, Option, Some, None, MatchOption, refl}
use Rattle.std.proofs.Common.{sym, ap, subst, arith, inl, inr}
use Rattle.std.proofs.lemmas.Int.{ints}
use Rattle.tilt_zones.proofs.PlaceLemmas.{has_place, locals_rise, moments_rise, offset_is, rising}
use Rattle.tilt_zones.specs.Order.{IsInOrder, offset_after, shown_from, transition_at}
use Rattle.tilt_zones.specs.Place.{AreMoments, IsBeforeNext, IsPlaceOf, IsRising, moments_from}
use Rattle.tilt_zones.specs.Zone.{IsMomentOf, IsShownAt, offset_from}
use Rattle.tilt_zones.specs.declared.moments.Fold.{Fold}
use Rattle.tilt_zones.specs.declared.moments.Fold.TheVariants.{First, Second}
use Rattle.tilt_zones.specs.declared.transition.Transition.{Transition}

-- which side of a number another one is on
pub side : (j count : ℕ) → (suc j ≤ count) ⊎ (count ≤ j)
side j count = grind arith

either : (j n count : ℕ) → j ≤ count → count ≤ suc j → suc n ≡ count → (j ≡ n) ⊎ (j ≡ count)
either j n count low high last = grind arith

-- the transitions before a place come up to the moment of the offset after them
all_passed : (first : ℤ) (ts : List Transition) (local : ℤ) (count j : ℕ) → IsRising ts → IsPlaceOf shown_from ts local count → j ≤ count
    → (i : ℕ) → i < j → (transition_at ts i).moment ≤ℤ (local -ℤ offset_after first ts j)
all_passed first ts local count zero order place low i below = absurd (omega arith)
all_passed first ts local count (suc j) order place low i below =
    let bound = place.bound in
    let passed = place.passed j (omega arith) in
    let rise = moments_rise ts order i j (omega arith) (omega arith) in
    omega (arith, ints)

-- by the offset after transitions that set clocks to a local time or to one before it, clocks show it if the next one isn't reached
pub shown_by : (first : ℤ) (ts : List Transition) (end local : ℤ) (count j : ℕ) → IsInOrder first ts → IsPlaceOf shown_from ts local count
    → j ≤ count → IsBeforeNext first ts j local
    → IsShownAt (record { first = first; transitions = ts; end = end }) local (local -ℤ offset_after first ts j)
shown_by first ts end local count j order place low next =
    let rise = rising first ts order in
    let bound = place.bound in
    let here : IsPlaceOf (λ t. t.moment) ts (local -ℤ offset_after first ts j) j = record {
      bound = omega arith;
      passed = all_passed first ts local count j rise place low;
      ahead = λ i from inside.
          let before = next (omega arith) in
          let up = moments_rise ts rise j i from inside in
          omega (arith, ints);
    } in
    let offset = offset_is first ts (local -ℤ offset_after first ts j) j here in
    omega (arith, ints)

-- what is known of a moment at which clocks show a local time: after how many transitions it is, by the place of the local time
pub record IsOneOf (first : ℤ) (ts : List Transition) (local moment : ℤ) (count : ℕ) : Type 0 where
  pub after : ℕ
  pub low : after ≤ count
  pub high : count ≤ suc after
  pub next : IsBeforeNext first ts after local
  pub moment_is : moment ≡ local -ℤ offset_after first ts after

-- no more transitions have come than those that set clocks to the local time or to one before it
not_later : (first : ℤ) (ts : List Transition) (local moment : ℤ) (count j : ℕ) → IsPlaceOf shown_from ts local count
    → IsPlaceOf (λ t. t.moment) ts moment j → moment +ℤ offset_after first ts j ≡ local → j ≤ count
not_later first ts local moment count zero place here shown = omega arith
not_later first ts local moment count (suc j) place here shown = elim (side j count) [
  | inl less ↦ less
  | inr more ↦
      let bound = here.bound in
      let passed = here.passed j (omega arith) in
      let ahead = place.ahead j more (omega arith) in
      absurd (omega (arith, ints))
]

-- and at most one fewer
not_earlier : (first : ℤ) (ts : List Transition) (local moment : ℤ) (count j : ℕ) → IsInOrder first ts
    → IsPlaceOf shown_from ts local count → IsPlaceOf (λ t. t.moment) ts moment j → moment +ℤ offset_after first ts j ≡ local
    → count ≤ suc j
not_earlier first ts local moment count j order place here shown = elim (side (suc j) count) [
  | inl less ↦
      let bound = place.bound in
      let before = here.ahead j (omega arith) (omega arith) in
      let next = order j (omega arith) in
      let old = next.past_old in
      let passed = place.passed (suc j) (omega arith) in
      absurd (omega (arith, ints))
  | inr more ↦ more
]

pub only_by : (first : ℤ) (ts : List Transition) (end local : ℤ) (count : ℕ) → IsInOrder first ts → IsPlaceOf shown_from ts local count
    → (moment : ℤ) → IsShownAt (record { first = first; transitions = ts; end = end }) local moment → IsOneOf first ts local moment count
only_by first ts end local count order place moment shown =
    let found = has_place (λ t. t.moment) ts moment (moments_rise ts (rising first ts order)) in
    let j = found.0 in
    let here = found.1 in
    let offset = offset_is first ts moment j here in
    let shown_after : moment +ℤ offset_after first ts j ≡ local = omega (arith, ints) in
    record {
      after = j;
      low = not_later first ts local moment count j place here shown_after;
      high = not_earlier first ts local moment count j order place here shown_after;
      next = λ inside. let before = here.ahead j (omega arith) inside in omega (arith, ints);
      moment_is = omega (arith, ints);
    }

-- the moment by the offset after so many transitions, if it is before the next one
abbrev pub IsMomentBy : ℤ → List Transition → ℤ → ℕ → Option ℤ → Type 0
IsMomentBy first ts local count moment = MatchOption moment
    (¬ (IsBeforeNext first ts count local))
    (λ m. IsBeforeNext first ts count local × (m ≡ local -ℤ offset_after first ts count))

-- a moment after exactly so many transitions is the one that was found
found_at : (first : ℤ) (ts : List Transition) (local moment m : ℤ) (count n : ℕ) (one : IsOneOf first ts local moment count)
    → one.after ≡ n → m ≡ local -ℤ offset_after first ts n → moment ≡ m
found_at first ts local moment m count n one same is =
    let offset = ap (offset_after first ts) same in
    let at = one.moment_is in
    omega (arith, ints)

not_found_at : (first : ℤ) (ts : List Transition) (local moment : ℤ) (count n : ℕ) (one : IsOneOf first ts local moment count)
    → one.after ≡ n → ¬ (¬ (IsBeforeNext first ts n local))
not_found_at first ts local moment count n one same none =
    none (subst (λ j. IsBeforeNext first ts j local) same one.next)

-- before any transition sets clocks to the local time or to one before it, there is at most one moment
pub are_moments_first : (first : ℤ) (ts : List Transition) (end local : ℤ) (count : ℕ) (later : Option ℤ) → IsInOrder first ts
    → IsPlaceOf shown_from ts local count → count ≡ 0 → IsMomentBy first ts local count later
    → AreMoments (record { first = first; transitions = ts; end = end }) local (moments_from None later)
are_moments_first first ts end local count None order place at none = λ moment shown.
    let one = only_by first ts end local count order place moment shown in
    let low = one.low in
    not_found_at first ts local moment count count one (omega arith) none
are_moments_first first ts end local count (Some m) order place at some =
    let is = some.1 in (
      subst (λ z. IsShownAt (record { first = first; transitions = ts; end = end }) local z) (sym is) (shown_by first ts end local count count order place (omega arith) some.0),
      λ n shown.
          let one = only_by first ts end local count order place n shown in
          let low = one.low in
          found_at first ts local n m count count one (omega arith) is,
    )

-- a moment is after all of so many transitions, or after all except the last one
last_two : (first : ℤ) (ts : List Transition) (local moment : ℤ) (count n : ℕ) → suc n ≡ count
    → (one : IsOneOf first ts local moment count) → (one.after ≡ n) ⊎ (one.after ≡ count)
last_two first ts local moment count n last one =
    let low = one.low in
    let high = one.high in
    either one.after n count low high last

-- the moment by the offset before the last transition is the earlier one
pub earlier_first : (first : ℤ) (ts : List Transition) (local m k : ℤ) (count n : ℕ) → IsPlaceOf shown_from ts local count → suc n ≡ count
    → IsBeforeNext first ts n local → m ≡ local -ℤ offset_after first ts n → k ≡ local -ℤ offset_after first ts count → m <ℤ k
earlier_first first ts local m k count n place last next m_is k_is =
    let bound = place.bound in
    let before = next (omega arith) in
    let passed = place.passed n (omega arith) in
    let offset = ap (offset_after first ts) last in
    omega (arith, ints)

-- from then on, there are at most two
pub are_moments_next : (first : ℤ) (ts : List Transition) (end local : ℤ) (count n : ℕ) (earlier later : Option ℤ) → IsInOrder first ts
    → IsPlaceOf shown_from ts local count → suc n ≡ count → IsMomentBy first ts local n earlier → IsMomentBy first ts local count later
    → AreMoments (record { first = first; transitions = ts; end = end }) local (moments_from earlier later)
are_moments_next first ts end local count n None None order place last no_earlier no_later = λ moment shown.
    let one = only_by first ts end local count order place moment shown in
    elim (last_two first ts local moment count n last one) [
      | inl at ↦ not_found_at first ts local moment count n one at no_earlier
      | inr at ↦ not_found_at first ts local moment count count one at no_later
    ]
are_moments_next first ts end local count n None (Some m) order place last no_earlier some = (
  subst (λ z. IsShownAt (record { first = first; transitions = ts; end = end }) local z) (sym some.1) (shown_by first ts end local count count order place (omega arith) some.0),
  λ o shown.
      let one = only_by first ts end local count order place o shown in
      elim (last_two first ts local o count n last one) [
        | inl at ↦ absurd (not_found_at first ts local o count n one at no_earlier)
        | inr at ↦ found_at first ts local o m count count one at some.1
      ],
)
are_moments_next first ts end local count n (Some m) None order place last some no_later = (
  subst (λ z. IsShownAt (record { first = first; transitions = ts; end = end }) local z) (sym some.1) (shown_by first ts end local count n order place (omega arith) some.0),
  λ o shown.
      let one = only_by first ts end local count order place o shown in
      elim (last_two first ts local o count n last one) [
        | inl at ↦ found_at first ts local o m count n one at some.1
        | inr at ↦ absurd (not_found_at first ts local o count count one at no_later)
      ],
)
are_moments_next first ts end local count n (Some m) (Some k) order place last some some_later = (
  earlier_first first ts local m k count n place last some.0 some.1 some_later.1,
  subst (λ z. IsShownAt (record { first = first; transitions = ts; end = end }) local z) (sym some.1) (shown_by first ts end local count n order place (omega arith) some.0),
  subst (λ z. IsShownAt (record { first = first; transitions = ts; end = end }) local z) (sym some_later.1) (shown_by first ts end local count count order place (omega arith) some_later.0),
  λ o shown.
      let one = only_by first ts end local count order place o shown in
      elim (last_two first ts local o count n last one) [
        | inl at ↦ inl (found_at first ts local o m count n one at some.1)
        | inr at ↦ inr (found_at first ts local o k count count one at some_later.1)
      ],
)

pub side_of : (j count : ℕ) → j ≤ count → count ≤ suc j → (suc j ≡ count) ⊎ (j ≡ count)
side_of j count low high = grind arith

-- of two moments at which a local time is shown, the one before the last transition is the earlier one
pub before_last : (first : ℤ) (ts : List Transition) (local m k : ℤ) (count : ℕ) → IsPlaceOf shown_from ts local count
    → (one : IsOneOf first ts local m count) → suc one.after ≡ count → (other : IsOneOf first ts local k count) → other.after ≡ count
    → m <ℤ k
before_last first ts local m k count place one last other at =
    let offset = ap (offset_after first ts) at in
    let k_is = other.moment_is in
    earlier_first first ts local m k count one.after place last one.next one.moment_is (omega (arith, ints))

-- two moments after as many transitions are the same
pub same_after : (first : ℤ) (ts : List Transition) (local m k : ℤ) (count : ℕ) (one : IsOneOf first ts local m count) (other : IsOneOf first ts local k count)
    → one.after ≡ other.after → m ≡ k
same_after first ts local m k count one other at =
    let offset = ap (offset_after first ts) at in
    let m_is = one.moment_is in
    let k_is = other.moment_is in
    omega (arith, ints)

-- each moment is meant by the local time that is shown then, with one fold or the other
pub has_fold : (first : ℤ) (ts : List Transition) (end moment : ℤ) → IsInOrder first ts
    → (fold : Fold) × IsMomentOf (record { first = first; transitions = ts; end = end }) (moment +ℤ offset_from first ts moment) (Some fold) moment
has_fold first ts end moment order =
    let local = moment +ℤ offset_from first ts moment in
    let found = has_place shown_from ts local (locals_rise ts (rising first ts order)) in
    let count = found.0 in
    let place = found.1 in
    let one = only_by first ts end local count order place moment refl in
    elim (side_of one.after count one.low one.high) [
      | inl last ↦ (
        First,
        record {
          shown = refl;
          chosen = λ n there.
              let other = only_by first ts end local count order place n there in
              elim (side_of other.after count other.low other.high) [
                | inl also ↦ let same = same_after first ts local moment n count one other (omega arith) in omega (arith, ints)
                | inr at ↦ let less = before_last first ts local moment n count place one last other at in omega (arith, ints)
              ];
        },
      )
      | inr at ↦ (
        Second,
        record {
          shown = refl;
          chosen = λ n there.
              let other = only_by first ts end local count order place n there in
              elim (side_of other.after count other.low other.high) [
                | inl last ↦ let less = before_last first ts local n moment count place other last one at in omega (arith, ints)
                | inr also ↦ let same = same_after first ts local moment n count one other (omega arith) in omega (arith, ints)
              ];
        },
      )
    ]
