use Rattle.std.proofs.Common.{ℕ, suc, ◌<◌}
use Rattle.tilt_zones.specs.Order.{IsFollowedBy, offset_after, transition_at}
use Rattle.tilt_zones.proofs.order.is_in_order.Given as goal

-- each transition before this one is followed by the next
abbrev pub invariant-loop-i : goal.invariant-loop-i
invariant-loop-i l = (j : ℕ) → suc j < l.i → IsFollowedBy (offset_after l.first l.transitions j) (transition_at l.transitions j) (transition_at l.transitions (suc j))
