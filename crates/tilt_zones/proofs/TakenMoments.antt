-- The moments by the offsets before and after a change are those that are meant.
use Rattle.std.proofs.Common.{◌≡◌, ◌≢◌, ◌⊎◌, ℕ, zero, suc, ◌≤◌, ◌<◌, ◌^◌, ◌-◌, Bool, true, false, ◌&&◌, ℤ, pos, negsuc, ◌+ℤ◌, ◌-ℤ◌, ◌≤ℤ◌, ◌<ℤ◌, int_le, int_lt}
use Rattle.std.proofs.Common.{List, Option, Some, None, Result, Ok, Err, MatchResult, FitsSigned, w64, length, refl, sym, ap, subst, ◌∙◌, arith, inl, inr}
use Rattle.std.proofs.lemmas.Int.{ints}
use Rattle.std.specs.Ordering.{int_eq}
use Rattle.tilt_zones.proofs.OutcomeLemmas.{IsKnownBy}
use Rattle.tilt_zones.proofs.PlaceLemmas.{has_place, locals_rise, rising}
use Rattle.tilt_zones.proofs.ShownLemmas.{IsOneOf, before_last, earlier_first, only_by, same_after, shown_by, side_of}
use Rattle.tilt_zones.proofs.TakenLemmas.{first_at, first_before, second_at}
use Rattle.tilt_zones.specs.Order.{IsInOrder, offset_after, shown_from, transition_at}
use Rattle.tilt_zones.specs.Place.{IsBeforeNext, IsPlaceOf}
use Rattle.tilt_zones.specs.Taken.{is_shown, known, meant, moment_by, moment_taken, offset_for}
use Rattle.tilt_zones.specs.Zone.{IsBeyond, IsDoubled, IsKnown, IsMomentOf, IsShownAt, IsSkipped, ZoneParts, local_at}
use Rattle.tilt_zones.specs.declared.fault.LocalFault.{LocalFault}
use Rattle.tilt_zones.specs.declared.fault.LocalFault.TheVariants.{Skipped, Doubled, Beyond}
use Rattle.tilt_zones.specs.declared.moments.Fold.{Fold}
use Rattle.tilt_zones.specs.declared.moments.Fold.TheVariants.{First, Second}
use Rattle.tilt_zones.specs.declared.transition.Transition.{Transition}

-- a moment by the offset after so many transitions is before the next one, or not
nat_side : (a b : ℕ) → (a < b) ⊎ (b ≤ a)
nat_side a b = grind arith

int_side : (a b : ℤ) → (a <ℤ b) ⊎ (b ≤ℤ a)
int_side a b = grind (arith, ints)

decided : (first : ℤ) (ts : List Transition) (n : ℕ) (local : ℤ) → (IsBeforeNext first ts n local) ⊎ (¬ (IsBeforeNext first ts n local))
decided first ts n local = elim (nat_side n (length ts)) [
  | inr out ↦ inl (λ inside. absurd (omega arith))
  | inl inside ↦ elim (int_side local ((transition_at ts n).moment +ℤ offset_after first ts n)) [
    | inl less ↦ inl (λ _. less)
    | inr more ↦ inr (λ next. let less = next inside in omega (arith, ints))
  ]
]

-- after how many transitions the offset before a change is, by the place of the local time
pub data IsFirstAfter (first : ℤ) (ts : List Transition) (local : ℤ) (count : ℕ) : Type 0 where
  Before : (n : ℕ) → suc n ≡ count → IsBeforeNext first ts n local → offset_for First first ts local ≡ offset_after first ts n
      → IsFirstAfter first ts local count
  At : ((n : ℕ) → suc n ≡ count → ¬ (IsBeforeNext first ts n local)) → offset_for First first ts local ≡ offset_after first ts count
      → IsFirstAfter first ts local count

first_after : (first : ℤ) (ts : List Transition) (local : ℤ) (count : ℕ) → IsInOrder first ts → IsPlaceOf shown_from ts local count
    → IsFirstAfter first ts local count
first_after first ts local zero order place =
    let none : (n : ℕ) → suc n ≡ zero → ¬ (IsBeforeNext first ts n local) = λ n last. absurd (omega arith) in
    At none (first_at first ts local zero order place none)
first_after first ts local (suc n) order place = elim (decided first ts n local) [
  | inl next ↦ Before n refl next (first_before first ts local (suc n) n order place refl next)
  | inr over ↦
      let none : (j : ℕ) → suc j ≡ suc n → ¬ (IsBeforeNext first ts j local) =
      λ j last. let same : n ≡ j = omega arith in subst (λ k. ¬ (IsBeforeNext first ts k local)) same over in
      At none (first_at first ts local (suc n) order place none)
]

-- a moment at which the local time is shown, and the one by the offset before the change
first_least : (first : ℤ) (ts : List Transition) (local o : ℤ) (count : ℕ) → IsPlaceOf shown_from ts local count
    → IsFirstAfter first ts local count → (one : IsOneOf first ts local o count) → (local -ℤ offset_for First first ts local) ≤ℤ o
first_least first ts local o count place (Before n last next is) one = elim (side_of one.after count one.low one.high) [
  | inl also ↦
      let same : one.after ≡ n = omega arith in
      let offset = ap (offset_after first ts) same in
      let o_is = one.moment_is in
      omega (arith, ints)
  | inr at ↦
      let offset = ap (offset_after first ts) at in
      let o_is = one.moment_is in
      let less = earlier_first first ts local (local -ℤ offset_for First first ts local) o count n place last next (omega (arith, ints)) (omega (arith, ints)) in
      omega (arith, ints)
]
first_least first ts local o count place (At none is) one = elim (side_of one.after count one.low one.high) [
  | inl last ↦ absurd (none one.after last one.next)
  | inr at ↦
      let offset = ap (offset_after first ts) at in
      let o_is = one.moment_is in
      omega (arith, ints)
]

first_shown : (first : ℤ) (ts : List Transition) (end local o : ℤ) (count : ℕ) → IsInOrder first ts → IsPlaceOf shown_from ts local count
    → IsFirstAfter first ts local count → (one : IsOneOf first ts local o count)
    → IsShownAt (record { first = first; transitions = ts; end = end }) local (local -ℤ offset_for First first ts local)
first_shown first ts end local o count order place (Before n last next is) one =
    subst (λ x. IsShownAt (record { first = first; transitions = ts; end = end }) local (local -ℤ x)) (sym is)
    (shown_by first ts end local count n order place (omega arith) next)
first_shown first ts end local o count order place (At none is) one = elim (side_of one.after count one.low one.high) [
  | inl last ↦ absurd (none one.after last one.next)
  | inr at ↦
      subst (λ x. IsShownAt (record { first = first; transitions = ts; end = end }) local (local -ℤ x)) (sym is)
      (shown_by first ts end local count count order place (omega arith) (subst (λ k. IsBeforeNext first ts k local) at one.next))
]

-- two moments at which the local time is shown, and the one by the offset after the change
second_shown : (first : ℤ) (ts : List Transition) (end local m o : ℤ) (count : ℕ) → IsInOrder first ts → IsPlaceOf shown_from ts local count
    → (one : IsOneOf first ts local m count) → (other : IsOneOf first ts local o count) → m <ℤ o
    → IsShownAt (record { first = first; transitions = ts; end = end }) local (local -ℤ offset_for Second first ts local)
second_shown first ts end local m o count order place one other less = elim (side_of other.after count other.low other.high) [
  | inr at ↦
      let next = subst (λ k. IsBeforeNext first ts k local) at other.next in
      subst (λ x. IsShownAt (record { first = first; transitions = ts; end = end }) local (local -ℤ x)) (sym (second_at first ts local count place next))
      (shown_by first ts end local count count order place (omega arith) next)
  | inl last ↦ elim (side_of one.after count one.low one.high) [
    | inl also ↦ let same = same_after first ts local m o count one other (omega arith) in absurd (omega (arith, ints))
    | inr at ↦ let more = before_last first ts local o m count place other last one at in absurd (omega (arith, ints))
  ]
]

second_most : (first : ℤ) (ts : List Transition) (local o : ℤ) (count : ℕ) → IsPlaceOf shown_from ts local count
    → (two : IsOneOf first ts local (local -ℤ offset_for Second first ts local) count) → (one : IsOneOf first ts local o count)
    → o ≤ℤ (local -ℤ offset_for Second first ts local)
second_most first ts local o count place two one = elim (side_of one.after count one.low one.high) [
  | inl last ↦ elim (side_of two.after count two.low two.high) [
    | inl also ↦ let same = same_after first ts local o (local -ℤ offset_for Second first ts local) count one two (omega arith) in omega (arith, ints)
    | inr at ↦ let less = before_last first ts local o (local -ℤ offset_for Second first ts local) count place one last two at in omega (arith, ints)
  ]
  | inr at ↦
      let next = subst (λ k. IsBeforeNext first ts k local) at one.next in
      let is = second_at first ts local count place next in
      let offset = ap (offset_after first ts) at in
      let o_is = one.moment_is in
      omega (arith, ints)
]

-- what is known of the two moments
pub record AreEdges (zone : ZoneParts) (local before after : ℤ) : Type 0 where
  pub shown : (o : ℤ) → IsShownAt zone local o → IsShownAt zone local before
  pub least : (o : ℤ) → IsShownAt zone local o → before ≤ℤ o
  pub both : (m o : ℤ) → IsShownAt zone local m → IsShownAt zone local o → m <ℤ o → IsShownAt zone local after
  pub most : (o : ℤ) → IsShownAt zone local after → IsShownAt zone local o → o ≤ℤ after

pub are_edges : (zone : ZoneParts) (local : ℤ) → IsInOrder zone.first zone.transitions
    → AreEdges zone local (moment_by zone First local) (moment_by zone Second local)
are_edges zone local order =
    let found = has_place shown_from zone.transitions local (locals_rise zone.transitions (rising zone.first zone.transitions order)) in
    let count = found.0 in
    let place = found.1 in
    let at = first_after zone.first zone.transitions local count order place in
    let by = only_by zone.first zone.transitions zone.end local count order place in
    record {
      shown = λ o there. first_shown zone.first zone.transitions zone.end local o count order place at (by o there);
      least = λ o there. first_least zone.first zone.transitions local o count place at (by o there);
      both = λ m o here there less. second_shown zone.first zone.transitions zone.end local m o count order place (by m here) (by o there) less;
      most = λ o here there. second_most zone.first zone.transitions local o count place (by (moment_by zone Second local) here) (by o there);
    }

-- tests
same_test : (a b : ℤ) → a ≡ b → int_eq a b ≡ true
same_test a b same = grind (arith, ints)

other_test : (a b : ℤ) → a ≢ b → int_eq a b ≡ false
other_test a b other = grind (arith, ints)

test_same : (a b : ℤ) → int_eq a b ≡ true → a ≡ b
test_same a b same = grind (arith, ints)

-- the moment that is meant
meant_ok : (zone : ZoneParts) (local m before after : ℤ) (fold : Option Fold) (b : Bool) → AreEdges zone local before after
    → IsMomentOf zone local fold m → is_shown zone local after ≡ b → meant true b fold before after ≡ Ok m
meant_ok zone local m before after None false edges is test = ap Ok (is.chosen before (edges.shown m is.shown))
meant_ok zone local m before after (Some First) false edges is test =
    let low = is.chosen before (edges.shown m is.shown) in
    let high = edges.least m is.shown in
    let same : before ≡ m = omega (arith, ints) in ap Ok same
meant_ok zone local m before after (Some Second) false edges is test =
    let low = edges.least m is.shown in
    elim (int_side before m) [
      | inl less ↦ absurd (let both = edges.both before m (edges.shown m is.shown) is.shown less in let yes = same_test (local_at zone after) local both in cc)
      | inr more ↦ let same : before ≡ m = omega (arith, ints) in ap Ok same
    ]
meant_ok zone local m before after None true edges is test =
    let first = is.chosen before (edges.shown m is.shown) in
    let second = is.chosen after (test_same (local_at zone after) local test) in
    rw (same_test before after (first ∙ sym second)) (ap Ok first)
meant_ok zone local m before after (Some First) true edges is test =
    let low = is.chosen before (edges.shown m is.shown) in
    let high = edges.least m is.shown in
    let same : before ≡ m = omega (arith, ints) in ap Ok same
meant_ok zone local m before after (Some Second) true edges is test =
    let shown = test_same (local_at zone after) local test in
    let low = is.chosen after shown in
    let high = edges.most m shown is.shown in
    let same : after ≡ m = omega (arith, ints) in ap Ok same

shown_meant : (zone : ZoneParts) (local m before after : ℤ) (fold : Option Fold) → AreEdges zone local before after
    → IsMomentOf zone local fold m → meant (is_shown zone local before) (is_shown zone local after) fold before after ≡ Ok m
shown_meant zone local m before after fold edges is =
    ap (λ b. meant b (is_shown zone local after) fold before after) (same_test (local_at zone before) local (edges.shown m is.shown))
    ∙ meant_ok zone local m before after fold (is_shown zone local after) edges is refl

doubled_meant : (zone : ZoneParts) (local before after : ℤ) → AreEdges zone local before after → IsDoubled zone local
    → meant (is_shown zone local before) (is_shown zone local after) None before after ≡ Err Doubled
doubled_meant zone local before after edges doubled =
    let m = doubled.0 in
    let o = doubled.1 in
    let low_m = edges.least m doubled.3 in
    let low_o = edges.least o doubled.4 in
    let both : IsShownAt zone local after = elim (int_side m o) [
      | inl less ↦ edges.both m o doubled.3 doubled.4 less
      | inr more ↦ elim (int_side o m) [
        | inl less ↦ edges.both o m doubled.4 doubled.3 less
        | inr also ↦ absurd (doubled.2 (omega (arith, ints)))
      ]
    ] in
    let high_m = edges.most m both doubled.3 in
    let high_o = edges.most o both doubled.4 in
    let other : before ≢ after = λ same. doubled.2 (omega (arith, ints)) in
    rw (same_test (local_at zone before) local (edges.shown m doubled.3), same_test (local_at zone after) local both, other_test before after other) refl

-- neither is shown if the local time is skipped
pub skipped_meant : (zone : ZoneParts) (local before after : ℤ) (fold : Option Fold) → IsSkipped zone local
    → meant (is_shown zone local before) (is_shown zone local after) fold before after ≡ meant false false fold before after
skipped_meant zone local before after fold skipped =
    ap (λ b. meant b (is_shown zone local after) fold before after) (other_test (local_at zone before) local (skipped before))
    ∙ ap (λ b. meant false b fold before after) (other_test (local_at zone after) local (skipped after))

-- a moment that is known
fits_test : (m end : ℤ) → FitsSigned w64 m → m <ℤ end → (int_le (negsuc (2 ^ 63 - 1)) m && int_le m (pos (2 ^ 63 - 1)) && int_lt m end) ≡ true
fits_test m end fits less = grind (arith, ints)

no_fits_test : (m end : ℤ) → ¬ (FitsSigned w64 m × (m <ℤ end)) → (int_le (negsuc (2 ^ 63 - 1)) m && int_le m (pos (2 ^ 63 - 1)) && int_lt m end) ≡ false
no_fits_test m end none = grind (arith, ints)

known_ok : (zone : ZoneParts) (m : ℤ) → IsKnown zone m → known zone.end (Ok m) ≡ Ok m
known_ok zone m is = rw (fits_test m zone.end is.0 is.1) refl

beyond_known : (zone : ZoneParts) (m : ℤ) → ¬ (IsKnown zone m) → known zone.end (Ok m) ≡ Err Beyond
beyond_known zone m none = rw (no_fits_test m zone.end none) refl

-- what the result for a local time is
pub taken_ok : (zone : ZoneParts) (local m : ℤ) (fold : Option Fold) → IsInOrder zone.first zone.transitions → IsMomentOf zone local fold m
    → IsKnown zone m → Ok m ≡ moment_taken zone local fold
unfolding moment_taken
taken_ok zone local m fold order is here =
    sym (ap (known zone.end) (shown_meant zone local m (moment_by zone First local) (moment_by zone Second local) fold (are_edges zone local order) is)
    ∙ known_ok zone m here)

pub taken_beyond : (zone : ZoneParts) (local : ℤ) (fold : Option Fold) → IsInOrder zone.first zone.transitions → IsBeyond zone local fold
    → Err Beyond ≡ moment_taken zone local fold
unfolding moment_taken
taken_beyond zone local fold order beyond =
    sym (ap (known zone.end) (shown_meant zone local beyond.0 (moment_by zone First local) (moment_by zone Second local) fold (are_edges zone local order) beyond.1)
    ∙ beyond_known zone beyond.0 beyond.2)

pub taken_doubled : (zone : ZoneParts) (local : ℤ) (fold : Option Fold) → IsInOrder zone.first zone.transitions → fold ≡ None → IsDoubled zone local
    → Err Doubled ≡ moment_taken zone local fold
unfolding moment_taken
taken_doubled zone local (Some f) order none doubled = cc
taken_doubled zone local None order none doubled =
    sym (ap (known zone.end) (doubled_meant zone local (moment_by zone First local) (moment_by zone Second local) (are_edges zone local order) doubled))

pub taken_skipped : (zone : ZoneParts) (local : ℤ) (fold : Option Fold) → fold ≡ None → IsSkipped zone local → Err Skipped ≡ moment_taken zone local fold
unfolding moment_taken
taken_skipped zone local (Some f) none skipped = cc
taken_skipped zone local None none skipped =
    sym (ap (known zone.end) (skipped_meant zone local (moment_by zone First local) (moment_by zone Second local) None skipped))

-- the moment of a skipped local time, before the end or not
abbrev pub IsKnownOf : ZoneParts → ℤ → Result ℤ LocalFault → Type 0
IsKnownOf zone m r = MatchResult r (λ k. (k ≡ m) × IsKnown zone k) (λ e. (e ≡ Beyond) × (¬ (IsKnown zone m)))

pub known_of : (zone : ZoneParts) (m : ℤ) (r : Result ℤ LocalFault) → IsKnownBy zone.end m r → IsKnownOf zone m r
known_of zone m (Ok k) is = (is.0, subst (IsKnown zone) (sym is.0) (is.1, is.2))
known_of zone m (Err e) is = is

known_by : (zone : ZoneParts) (m : ℤ) (r : Result ℤ LocalFault) → IsKnownOf zone m r → r ≡ known zone.end (Ok m)
known_by zone m (Ok k) is = ap Ok is.0 ∙ sym (known_ok zone m (subst (IsKnown zone) is.0 is.1))
known_by zone m (Err e) is = ap Err is.0 ∙ sym (beyond_known zone m is.1)

fold_meant : (zone : ZoneParts) (local : ℤ) (fold : Fold)
    → meant false false (Some fold) (moment_by zone First local) (moment_by zone Second local) ≡ Ok (moment_by zone fold local)
fold_meant zone local First = refl
fold_meant zone local Second = refl

pub taken_by : (zone : ZoneParts) (local : ℤ) (fold : Option Fold) (f : Fold) (r : Result ℤ LocalFault) → fold ≡ Some f → IsSkipped zone local
    → IsKnownOf zone (moment_by zone f local) r → r ≡ moment_taken zone local fold
unfolding moment_taken
taken_by zone local fold f r some skipped is =
    known_by zone (moment_by zone f local) r is
    ∙ sym (ap (moment_taken zone local) some
    ∙ ap (known zone.end) (skipped_meant zone local (moment_by zone First local) (moment_by zone Second local) (Some f) skipped ∙ fold_meant zone local f))
