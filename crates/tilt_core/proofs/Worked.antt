-- Needs of small queries, computed from the definition.
use Rattle.std.proofs.Common.{◌≡◌, ℕ, pos, negsuc, List, [], ◌∷◌, Option, Some, None, refl}
use Rattle.tilt_base.specs.declared.operator.Op2.TheVariants.{Sub, Gt, When}
use Rattle.tilt_base.specs.declared.reducer.Reducer.TheVariants.{Sum, Avg}
use Rattle.tilt_base.specs.Expression.{Leaf, Two}
use Rattle.tilt_core.specs.CoreTree.{Read, Reduce, CoreTree, Definition}
use Rattle.tilt_core.specs.Needs.{Need, needs, reach}

-- a definition on a grid of this period
taken_every : ℕ → CoreTree → Definition
taken_every period body = record { body = body; over = None; grid = record { period = pos period; offset = pos 0 } }

-- a need of so many ticks back and ahead
need : ℕ → ℕ → Option Need
need back ahead = Some (record { back = pos back; ahead = pos ahead })

-- `let y = x[t-2]; emit sum(y[t-3:t])`
shift_in_window : List Definition
shift_in_window = taken_every 1 (Leaf (Read 0 (negsuc 1))) ∷ taken_every 1 (Leaf (Reduce Sum 1 (negsuc 2) (pos 0))) ∷ []

shift_in_window_reach : reach 1 shift_in_window ≡ record { back = pos 4; ahead = pos 0 }
unfolding shift_in_window taken_every
shift_in_window_reach = refl

shift_in_window_needs : needs 1 shift_in_window ≡ need 4 0 ∷ need 2 0 ∷ need 0 0 ∷ []
unfolding shift_in_window taken_every need
shift_in_window_needs = refl

-- `emit sum(x[t-5:t]) every 5`
sum_on_grid_reach : reach 1 (taken_every 5 (Leaf (Reduce Sum 0 (negsuc 4) (pos 0))) ∷ []) ≡ record { back = pos 4; ahead = pos 4 }
unfolding taken_every
sum_on_grid_reach = refl

-- `let avg10 = avg(temp[t-10:t]) every 10; emit avg10 - limit when avg10 > limit`
two_sensors : List Definition
two_sensors =
    taken_every 10 (Leaf (Reduce Avg 0 (negsuc 9) (pos 0)))
    ∷ taken_every 1 (Two When (Two Sub (Leaf (Read 2 (pos 0))) (Leaf (Read 1 (pos 0)))) (Two Gt (Leaf (Read 2 (pos 0))) (Leaf (Read 1 (pos 0)))))
    ∷ []

two_sensors_reach : reach 2 two_sensors ≡ record { back = pos 9; ahead = pos 9 }
unfolding two_sensors taken_every
two_sensors_reach = refl

two_sensors_needs : needs 2 two_sensors ≡ need 9 9 ∷ need 0 0 ∷ need 0 0 ∷ need 0 0 ∷ []
unfolding two_sensors taken_every need
two_sensors_needs = refl

-- a definition that the emitted one doesn't reach has no need, nor does an input that only it reads
unused_needs : needs 2 (taken_every 1 (Leaf (Read 1 (negsuc 6))) ∷ taken_every 1 (Leaf (Read 0 (pos 3))) ∷ []) ≡ need 0 3 ∷ None ∷ None ∷ need 0 0 ∷ []
unfolding taken_every need
unused_needs = refl
