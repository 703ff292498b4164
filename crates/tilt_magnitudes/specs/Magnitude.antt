-- The interval of each expression of a query, and the first expression that can leave 64 bits.
use Rattle.std.specs.Prelude.{ℕ, suc, ◌+◌, ℤ, pos, List, [], ◌∷◌, ◌++◌, Option, Some, None, Result, Ok, Err, MatchResult, ◌≡◌, ⊤}
use Rattle.std.specs.Int.{int_gap}
use Rattle.std.specs.List.{slice_index_or}
use Rattle.tilt_base.specs.Expression.{Leaf, One, Two, If}
use Rattle.tilt_base.specs.Number.{within_64_bits}
use Rattle.tilt_core.specs.CoreTree.{Const, Read, Reduce, CoreTree, Definition, nodes}
use Rattle.tilt_magnitudes.specs.Interval.{Interval, only, hull, interval1, interval2, interval_reduced}
use Rattle.tilt_magnitudes.specs.Marks.{marks_in, snapshots_met}
use Rattle.tilt_magnitudes.specs.declared.met.Rate.{Rate}
use Rattle.tilt_magnitudes.specs.declared.overflow.Overflow.{Overflow}
use Rattle.tilt_magnitudes.specs.declared.fault.MagnitudeFault.{MagnitudeFault}
use Rattle.tilt_magnitudes.specs.declared.fault.MagnitudeFault.TheVariants as fault
use Rattle.tilt_units.specs.Scaling.{later}
use Rattle.tilt_units.specs.Translation.{start_of}
use Rattle.tilt_units.specs.declared.place.Place.{Place}

-- goes on with a result, unless there is an overflow
abbrev pub and_then : {A B : Type 0} → Result A Overflow → (A → Result B Overflow) → Result B Overflow
and_then (Ok a) next = next a
and_then (Err overflow) next = Err overflow

-- the interval of an expression at a place, if 64 bits hold both of its ends
abbrev pub if_both : Place → Interval → Option ℤ → Option ℤ → Result Interval Overflow
if_both place i (Some low) (Some high) = Ok (record { low = low; high = high })
if_both place i None high = Err (record { place = place; bounds = i })
if_both place i (Some low) None = Err (record { place = place; bounds = i })

abbrev pub narrowed : Place → Interval → Result Interval Overflow
narrowed place i = if_both place i (within_64_bits i.low) (within_64_bits i.high)

-- the interval of the source with a number; one that isn't known is null, so that any interval is right
abbrev pub interval_at : List Interval → ℕ → Interval
interval_at sources number = slice_index_or sources number (only (pos 0))

-- the interval of an expression at a place, over sources within intervals; or the first node that can leave 64 bits. Operands come before
-- their operator, from left to right. `marks` has how many marks each source can have in so many ticks
abbrev pub magnitude : (ℕ → List ℕ) → List Interval → Place → CoreTree → Result Interval Overflow
magnitude marks sources place (Leaf (Const number)) = Ok (only number)
magnitude marks sources place (Leaf (Read source offset)) = Ok (interval_at sources source)
magnitude marks sources place (Leaf (Reduce reducer source from to)) =
    narrowed place (interval_reduced reducer (snapshots_met (int_gap from to) (marks (int_gap from to)) source) (interval_at sources source))
magnitude marks sources place (One op a) =
    and_then (magnitude marks sources (later place 1) a) (λ x. narrowed place (interval1 op x))
magnitude marks sources place (Two op a b) =
    and_then (magnitude marks sources (later place 1) a) (λ x. and_then (magnitude marks sources (later place (1 + nodes a)) b)
    (λ y. narrowed place (interval2 op x y)))
magnitude marks sources place (If c a b) =
    and_then (magnitude marks sources (later place 1) c) (λ z. and_then (magnitude marks sources (later place (1 + nodes c)) a)
    (λ x. and_then (magnitude marks sources (later place (1 + nodes c + nodes a)) b) (λ y. narrowed place (hull x y))))

-- the intervals of sources, and of one more definition, which has a number. A grid and a span change no value, so that a definition has the
-- interval of its body
abbrev pub next_magnitudes : (ℕ → List ℕ) → ℕ → List Interval → Definition → Result (List Interval) Overflow
next_magnitudes marks number sources def = and_then (magnitude marks sources (start_of number) def.body) (λ i. Ok (sources ++ i ∷ []))

-- and of more definitions, of which the first has a number; each is over the sources before it
abbrev pub more_magnitudes : (ℕ → List ℕ) → ℕ → List Interval → List Definition → Result (List Interval) Overflow
more_magnitudes marks number sources [] = Ok sources
more_magnitudes marks number sources (def ∷ defs) = and_then (next_magnitudes marks number sources def) (λ next. more_magnitudes marks (suc number) next defs)

-- the intervals of the sources of a query, if the inputs are within these and have these rates: the inputs in order, then the definitions
abbrev pub magnitudes : List Interval → List Rate → List Definition → Result (List Interval) Overflow
magnitudes inputs rates defs = more_magnitudes (marks_in rates defs) 0 inputs defs

-- a fault has this overflow, or it is out of memory
abbrev pub IsFault : {A : Type 0} → Result A Overflow → MagnitudeFault → Type 0
IsFault answer (fault.CanOverflow overflow) = answer ≡ Err overflow
IsFault answer fault.OutOfMemory = ⊤

-- that result is given, unless memory ran out
abbrev pub Gives : {A B : Type 0} → (A → B) → Result A MagnitudeFault → Result B Overflow → Type 0
Gives seen given answer = MatchResult given (λ a. answer ≡ Ok (seen a)) (λ f. IsFault answer f)
