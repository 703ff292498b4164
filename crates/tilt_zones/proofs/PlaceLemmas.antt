-- Where numbers are among transitions whose keys rise.
use Rattle.std.proofs.Common.{◌≡◌, ◌⊎◌, ℕ, zero, suc, ◌≤◌, ◌<◌, ℤ, pos, ◌≤ℤ◌, ◌<ℤ◌, true, false, int_le, int_lt, List, [], ◌∷◌, length}
use Rattle.std.proofs.Common.{get_or, refl, ap, ◌∙◌, arith, inl, inr}
use Rattle.std.proofs.lemmas.Int.{ints}
use Rattle.std.proofs.lemmas.List.{get_or_default}
use Rattle.std.proofs.lemmas.List.Sums.{prefix_len_passes, prefix_len_stops, prefix_len-le-length}
use Rattle.std.specs.List.{prefix_len}
use Rattle.std.specs.List.Sorted.{IsPartitionPoint, IsPartitionedBy}
use Rattle.tilt_zones.specs.Order.{IsInOrder, offset_after, shown_from, transition_at}
use Rattle.tilt_zones.specs.Place.{IsPlaceOf, IsRising}
use Rattle.tilt_zones.specs.Zone.{offset_from}
use Rattle.tilt_zones.specs.declared.transition.Transition.{Transition}

-- what a read past the end of transitions gives
abbrev none : Transition
none = record { moment = pos 0; offset = pos 0 }

-- a number is at most the next one: it is that one, or at most the one before it
at_most : (i j : ℕ) → i ≤ suc j → (i ≡ suc j) ⊎ (i ≤ j)
at_most i j below = grind arith

-- tests and what they say
low : (a z : ℤ) → int_le a z ≡ true → a ≤ℤ z
low a z up = grind (arith, ints)

high : (a z : ℤ) → int_le a z ≡ false → z <ℤ a
high a z up = grind (arith, ints)

least : (a b z : ℤ) → a ≤ℤ b → int_le b z ≡ true → int_le a z ≡ true
least a b z low up = grind (arith, ints)

pub before : (m z : ℤ) → m <ℤ z → int_lt m z ≡ true
before m z less = grind (arith, ints)

pub after : (m z : ℤ) → z ≤ℤ m → int_lt m z ≡ false
after m z less = grind (arith, ints)

-- what rises from each place to the next rises over all places
pub rises : (f : ℕ → ℤ) (n : ℕ) → ((i : ℕ) → suc i < n → f i ≤ℤ f (suc i)) → (i j : ℕ) → i ≤ j → j < n → f i ≤ℤ f j
rises f n step i zero below inside =
    let same : i ≡ 0 = omega arith in
    let same_key = ap f same in
    omega (arith, ints)
rises f n step i (suc j) below inside = elim (at_most i j below) [
  | inl same ↦ let same_key = ap f same in omega (arith, ints)
  | inr less ↦
      let rest = rises f n step i j less (omega arith) in
      let next = step j inside in
      omega (arith, ints)
]

-- transitions in order come later and later, and set clocks to later and later local times
pub rising : (first : ℤ) (ts : List Transition) → IsInOrder first ts → IsRising ts
rising first ts order i inside =
    let next = order i inside in
    let later = next.later in
    (omega (arith, ints), next.past_new)

pub moments_rise : (ts : List Transition) → IsRising ts → (i j : ℕ) → i ≤ j → j < length ts
    → (transition_at ts i).moment ≤ℤ (transition_at ts j).moment
moments_rise ts order = rises (λ i. (transition_at ts i).moment) (length ts) (λ i inside. (order i inside).0)

pub locals_rise : (ts : List Transition) → IsRising ts → (i j : ℕ) → i ≤ j → j < length ts
    → shown_from (transition_at ts i) ≤ℤ shown_from (transition_at ts j)
locals_rise ts order = rises (λ i. shown_from (transition_at ts i)) (length ts) (λ i inside. (order i inside).1)

-- a key that rises parts transitions into those up to a number and those after it
pub parted : (key : Transition → ℤ) (ts : List Transition) (z : ℤ)
    → ((i j : ℕ) → i ≤ j → j < length ts → key (transition_at ts i) ≤ℤ key (transition_at ts j))
    → IsPartitionedBy (λ t. int_le (key t) z) ts
parted key ts z rise i j d below inside up =
    let at_i = get_or_default ts i d none (omega arith) in
    let at_j = get_or_default ts j d none inside in
    let key_i = ap key at_i in
    let key_j = ap key at_j in
    let step = rise i j below inside in
    least (key (get_or ts i d)) (key (get_or ts j d)) z (omega (arith, ints)) up

-- the partition point is the place of the number
pub place_of : (key : Transition → ℤ) (ts : List Transition) (z : ℤ) (count : ℕ) → count ≤ length ts
    → IsPartitionPoint (λ t. int_le (key t) z ≡ true) (λ t. int_le (key t) z ≡ false) ts count → IsPlaceOf key ts z count
place_of key ts z count bound point = record {
  bound = bound;
  passed = λ i below. low (key (transition_at ts i)) z (point.0 i none (omega arith) below);
  ahead = λ i from inside. high (key (transition_at ts i)) z (point.1 i none from inside);
}

-- the place of a number in the rest of transitions
later_place : (key : Transition → ℤ) (t : Transition) (ts : List Transition) (z : ℤ) (count : ℕ) → IsPlaceOf key (t ∷ ts) z (suc count)
    → IsPlaceOf key ts z count
later_place key t ts z count place = record {
  bound = let all = place.bound in omega arith;
  passed = λ i below. place.passed (suc i) (omega arith);
  ahead = λ i from inside. place.ahead (suc i) (omega arith) (omega arith);
}

-- the offset after more than one transition doesn't depend on the first one
pub after_first : (first : ℤ) (t : Transition) (ts : List Transition) (count : ℕ)
    → offset_after t.offset ts count ≡ offset_after first (t ∷ ts) (suc count)
after_first first t ts zero = refl
after_first first t ts (suc count) = refl

-- the offset at a moment is the one after the transitions that come up to it
pub offset_is : (first : ℤ) (ts : List Transition) (moment : ℤ) (count : ℕ) → IsPlaceOf (λ t. t.moment) ts moment count
    → offset_from first ts moment ≡ offset_after first ts count
offset_is first [] moment zero place = refl
offset_is first [] moment (suc count) place = absurd (let all = place.bound in omega arith)
offset_is first (t ∷ ts) moment zero place =
    let ahead = place.ahead 0 (omega arith) (omega arith) in
    rw (before moment t.moment ahead) refl
offset_is first (t ∷ ts) moment (suc count) place =
    let passed = place.passed 0 (omega arith) in
    rw (after moment t.moment passed) (offset_is t.offset ts moment count (later_place _ t ts moment count place) ∙ after_first first t ts count)

-- each number has its place
pub has_place : (key : Transition → ℤ) (ts : List Transition) (z : ℤ)
    → ((i j : ℕ) → i ≤ j → j < length ts → key (transition_at ts i) ≤ℤ key (transition_at ts j)) → (count : ℕ) × IsPlaceOf key ts z count
has_place key ts z rise = (
  prefix_len (λ t. int_le (key t) z) ts,
  record {
    bound = prefix_len-le-length (λ t. int_le (key t) z) ts;
    passed = λ i below. low (key (transition_at ts i)) z (prefix_len_passes (λ t. int_le (key t) z) ts i none below);
    ahead = λ i from inside.
        let stop = high (key (transition_at ts (prefix_len (λ t. int_le (key t) z) ts))) z (prefix_len_stops (λ t. int_le (key t) z) ts none (omega arith)) in
        let up = rise (prefix_len (λ t. int_le (key t) z) ts) i from inside in
        omega (arith, ints);
  },
)
