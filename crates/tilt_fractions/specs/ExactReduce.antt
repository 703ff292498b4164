-- The reducers on a list of fractions. Each is null on the empty list, and only an average is rounded.
use Rattle.std.specs.Prelude.{ℕ, ℤ, pos, Bool, not, if◌then◌else◌, List, [], ◌∷◌, length, Option, Some, None, fold}
use Rattle.std.specs.List.{AllZip, list_any, list_all}
use Rattle.tilt_base.specs.Reduce.{reduce, total}
use Rattle.tilt_base.specs.declared.reducer.Reducer.{Reducer}
use Rattle.tilt_base.specs.declared.reducer.Reducer.TheVariants.{Sum, Avg, Min, Max, Count, First, Last, Any, All}
use Rattle.tilt_fractions.specs.Exact.{CellStandsFor, exact_truth}
use Rattle.tilt_fractions.specs.Fraction.{Fraction, StandsFor, parts, sum, quotient_in, is_less, is_zero}

-- the fractions among exact cells, in order: null ones are left out
abbrev pub fractions : List (Option Fraction) → List Fraction
fractions [] = []
fractions (None ∷ cells) = fractions cells
fractions (Some p ∷ cells) = p ∷ fractions cells

-- the exact sum
abbrev pub exact_total : List Fraction → Fraction
exact_total ps = fold sum (parts (pos 0) 1) ps

-- how many there are
abbrev pub how_many : List Fraction → Fraction
how_many ps = parts (pos (length ps)) 1

-- the smaller and the larger of two
abbrev pub smaller : Fraction → Fraction → Fraction
smaller p q = if is_less q p then q else p

abbrev pub larger : Fraction → Fraction → Fraction
larger p q = if is_less q p then p else q

-- the last of a list that starts with this fraction
abbrev pub last_fraction : Fraction → List Fraction → Fraction
last_fraction p [] = p
last_fraction p (next ∷ ps) = last_fraction next ps

-- any number but 0 is true
abbrev pub is_true_fraction : Fraction → Bool
is_true_fraction p = not (is_zero p)

-- what a reducer gives on a list that starts with this fraction
abbrev pub exact_reduce_some : ℕ → Reducer → Fraction → List Fraction → Option Fraction
exact_reduce_some scale Sum p ps = Some (exact_total (p ∷ ps))
exact_reduce_some scale Avg p ps = Some (quotient_in scale (exact_total (p ∷ ps)) (how_many (p ∷ ps)))
exact_reduce_some scale Min p ps = Some (fold smaller p ps)
exact_reduce_some scale Max p ps = Some (fold larger p ps)
exact_reduce_some scale Count p ps = Some (how_many (p ∷ ps))
exact_reduce_some scale First p ps = Some p
exact_reduce_some scale Last p ps = Some (last_fraction p ps)
exact_reduce_some scale Any p ps = exact_truth (list_any is_true_fraction (p ∷ ps))
exact_reduce_some scale All p ps = exact_truth (list_all is_true_fraction (p ∷ ps))

-- what a reducer gives on a list; an average is the exact one, truncated toward zero to whole parts at a scale
abbrev pub exact_reduce : ℕ → Reducer → List Fraction → Option Fraction
exact_reduce scale reducer [] = None
exact_reduce scale reducer (p ∷ ps) = exact_reduce_some scale reducer p ps

-- the reducers on whole numbers of which the sum may have any size
abbrev pub wide_reduce : Reducer → List ℤ → Option ℤ
wide_reduce Sum [] = None
wide_reduce Sum (n ∷ ns) = Some (total (n ∷ ns))
wide_reduce reducer ns = reduce reducer ns

-- the scale of what a reducer gives on numbers at a scale
abbrev pub reduced_scale : Reducer → ℕ → ℕ
reduced_scale Count scale = 1
reduced_scale Any scale = 1
reduced_scale All scale = 1
reduced_scale reducer scale = scale

-- a reducer on whole numbers at a scale gives a number at a scale that stands for what it gives on the fractions
abbrev pub ReducerStands : Reducer → ℕ → ℕ → Type 0
ReducerStands reducer scale result =
    (ns : List ℤ) (ps : List Fraction) → AllZip (StandsFor scale) ns ps
    → CellStandsFor result (wide_reduce reducer ns) (exact_reduce scale reducer ps)
