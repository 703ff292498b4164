-- Which transitions make a zone.
use Rattle.std.specs.Prelude.{ℕ, zero, suc, ◌<◌, List, length, ℤ, pos, ◌+ℤ◌, ◌≤ℤ◌, ◌<ℤ◌, slice_index_or}
use Rattle.tilt_zones.specs.declared.transition.Transition.{Transition}

-- the transition at a place
abbrev pub transition_at : List Transition → ℕ → Transition
transition_at ts i = slice_index_or ts i (record { moment = pos 0; offset = pos 0 })

-- the offset after so many transitions
abbrev pub offset_after : ℤ → List Transition → ℕ → ℤ
offset_after first ts zero = first
offset_after first ts (suc n) = (transition_at ts n).offset

-- the local time to which clocks are set at a transition
abbrev pub shown_from : Transition → ℤ
shown_from t = t.moment +ℤ t.offset

-- a transition comes after another one. It sets clocks to no local time before the one to which that one set them, and to none before the
-- one that they showed just before that one. So clocks show no local time three times
pub record IsFollowedBy (before : ℤ) (t next : Transition) : Type 0 where
  pub later : t.moment <ℤ next.moment
  pub past_old : (t.moment +ℤ before) ≤ℤ shown_from next
  pub past_new : shown_from t ≤ℤ shown_from next

-- each transition is followed by the next one
abbrev pub IsInOrder : ℤ → List Transition → Type 0
IsInOrder first ts = (i : ℕ) → suc i < length ts → IsFollowedBy (offset_after first ts i) (transition_at ts i) (transition_at ts (suc i))
