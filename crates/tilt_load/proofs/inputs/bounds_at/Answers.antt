use Rattle.std.proofs.Common.{◌≡◌, ◌≤◌, ◌<◌, ℕ, zero, suc, List, [], ◌∷◌, length, get_or, refl, arith}
use Rattle.tilt_load.specs.SeriesFiles.{bounds_in, no_bounds}
use Rattle.tilt_series.specs.Series.{Bounds}
use Rattle.tilt_load.proofs.inputs.bounds_at.Goals as goal

there : (bounds : List Bounds) (place : ℕ) (b : Bounds) → place < length bounds → b ≡ get_or bounds place b → b ≡ bounds_in bounds place
there [] place b low is = absurd (omega (arith, low))
there (x ∷ bounds) zero b low is = is
there (x ∷ bounds) (suc place) b low is = there bounds place b (omega (arith, low)) is

beyond : (bounds : List Bounds) (place : ℕ) → length bounds ≤ place → no_bounds ≡ bounds_in bounds place
beyond [] place high = refl
beyond (x ∷ bounds) zero high = absurd (omega (arith, high))
beyond (x ∷ bounds) (suc place) high = beyond bounds place (omega (arith, high))

pub returns-in-Some : goal.returns-in-Some
returns-in-Some c =
    let found = c.in-Some.ensures.lookup in
    there c.args.bounds.now c.args.place c.in-Some.bounds.now found.3.0 found.1

pub returns-in-None : goal.returns-in-None
returns-in-None c = beyond c.args.bounds.now c.args.place c.in-None.ensures.lookup.3
