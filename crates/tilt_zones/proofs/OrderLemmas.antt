-- Which transitions are followed by the next one.
use Rattle.std.proofs.Common.{◌≡◌, ◌⊎◌, ℕ, zero, suc, ◌+◌, ◌-◌, ◌≤◌, ◌<◌, ℤ, List, length, arith, inl, inr, subst, sym}
use Rattle.tilt_zones.specs.Order.{IsFollowedBy, IsInOrder, offset_after, transition_at}
use Rattle.tilt_zones.specs.declared.transition.Transition.{Transition}

-- the transition at a place is followed by the next one
abbrev pub IsFollowedAt : ℤ → List Transition → ℕ → Type 0
IsFollowedAt first ts j = IsFollowedBy (offset_after first ts j) (transition_at ts j) (transition_at ts (suc j))

last_or_before : (j n : ℕ) → suc j < suc n + 1 → (j ≡ n) ⊎ (suc j < suc n)
last_or_before j n below = grind arith

-- one more place
pub more_followed : (first : ℤ) (ts : List Transition) (i : ℕ) → 1 ≤ i → ((j : ℕ) → suc j < i → IsFollowedAt first ts j)
    → IsFollowedBy (offset_after first ts (i - 1)) (transition_at ts (i - 1)) (transition_at ts i) → (j : ℕ) → suc j < i + 1
    → IsFollowedAt first ts j
more_followed first ts zero one before next j below = absurd (omega arith)
more_followed first ts (suc n) one before next j below =
    let same : suc n - 1 ≡ n = omega arith in
    let at_n : IsFollowedAt first ts n = rw same at next in
    elim (last_or_before j n below) [
      | inl last ↦ subst (IsFollowedAt first ts) (sym last) at_n
      | inr less ↦ before j less
    ]

-- transitions in order, at the place before one
pub followed_before : (first : ℤ) (ts : List Transition) (i : ℕ) → 1 ≤ i → i < length ts → IsInOrder first ts
    → IsFollowedBy (offset_after first ts (i - 1)) (transition_at ts (i - 1)) (transition_at ts i)
followed_before first ts zero one inside order = absurd (omega arith)
followed_before first ts (suc n) one inside order =
    let same : suc n - 1 ≡ n = omega arith in
    rw same (order n inside)
