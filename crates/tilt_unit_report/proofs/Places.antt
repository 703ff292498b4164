-- The definition that an overflow is in is the first one that can leave 64 bits, and no other one is.
use Rattle.std.proofs.Common.{◌≡◌, ◌∙◌, ℕ, zero, suc, ◌+◌, ℤ, List, [], ◌∷◌, ◌++◌, Option, Some, None, Result, Ok, Err, take, ap, refl, sym, subst, arith, rules}
use Rattle.std.specs.Prelude.{⊤}
use Rattle.std.specs.Int.{int_gap}
use Rattle.std.specs.List.{slice_get}
use Rattle.tilt_base.specs.Expression.{Leaf, One, Two, If}
use Rattle.tilt_base.specs.Number.{within_64_bits}
use Rattle.tilt_core.specs.CoreTree.{Const, Read, Reduce, CoreTree, Definition, nodes}
use Rattle.tilt_magnitudes.specs.Interval.{Interval, hull, interval1, interval2, interval_reduced}
use Rattle.tilt_magnitudes.specs.Magnitude.{and_then, if_both, interval_at, magnitude, magnitudes, more_magnitudes, narrowed}
use Rattle.tilt_magnitudes.specs.Marks.{marks_in, snapshots_met}
use Rattle.tilt_magnitudes.specs.declared.met.Rate.{Rate}
use Rattle.tilt_magnitudes.specs.declared.overflow.Overflow.{Overflow}
use Rattle.tilt_unit_report.specs.IllScaled.{IsIllScaled}
use Rattle.tilt_units.specs.Scaling.{later}
use Rattle.tilt_units.specs.Translation.{start_of}
use Rattle.tilt_units.specs.declared.place.Place.{Place}

-- an overflow is in the definition with this number
abbrev InDefinition : ℕ → Result Interval Overflow → Type 0
InDefinition number (Ok i) = ⊤
InDefinition number (Err o) = o.place.definition ≡ number

both_in : (place : Place) (i : Interval) (low high : Option ℤ) → InDefinition place.definition (if_both place i low high)
both_in place i (Some low) (Some high) = tt
both_in place i None high = refl
both_in place i (Some low) None = refl

narrowed_in : (place : Place) (i : Interval) → InDefinition place.definition (narrowed place i)
narrowed_in place i = both_in place i (within_64_bits i.low) (within_64_bits i.high)

then_in : (number : ℕ) (r : Result Interval Overflow) (next : Interval → Result Interval Overflow) → InDefinition number r
    → ((i : Interval) → InDefinition number (next i)) → InDefinition number (and_then r next)
then_in number (Ok i) next h k = k i
then_in number (Err o) next h k = h

magnitude_in : (marks : ℕ → List ℕ) (sources : List Interval) (place : Place) (e : CoreTree)
    → InDefinition place.definition (magnitude marks sources place e)
magnitude_in marks sources place (Leaf (Const n)) = tt
magnitude_in marks sources place (Leaf (Read source offset)) = tt
magnitude_in marks sources place (Leaf (Reduce r source from to)) =
    narrowed_in place (interval_reduced r (snapshots_met (int_gap from to) (marks (int_gap from to)) source) (interval_at sources source))
magnitude_in marks sources place (One op a) =
    then_in place.definition (magnitude marks sources (later place 1) a) (λ x. narrowed place (interval1 op x))
    (magnitude_in marks sources (later place 1) a) (λ x. narrowed_in place (interval1 op x))
magnitude_in marks sources place (Two op a b) =
    then_in place.definition (magnitude marks sources (later place 1) a) _ (magnitude_in marks sources (later place 1) a)
    (λ x. then_in place.definition (magnitude marks sources (later place (1 + nodes a)) b) (λ y. narrowed place (interval2 op x y))
    (magnitude_in marks sources (later place (1 + nodes a)) b) (λ y. narrowed_in place (interval2 op x y)))
magnitude_in marks sources place (If c a b) =
    then_in place.definition (magnitude marks sources (later place 1) c) _ (magnitude_in marks sources (later place 1) c)
    (λ z. then_in place.definition (magnitude marks sources (later place (1 + nodes c)) a) _
    (magnitude_in marks sources (later place (1 + nodes c)) a)
    (λ x. then_in place.definition (magnitude marks sources (later place (1 + nodes c + nodes a)) b) (λ y. narrowed place (hull x y))
    (magnitude_in marks sources (later place (1 + nodes c + nodes a)) b) (λ y. narrowed_in place (hull x y))))

-- the first definition that can leave 64 bits, of definitions of which the first has a number
record IsFirst (marks : ℕ → List ℕ) (number : ℕ) (sources : List Interval) (defs : List Definition) (overflow : Overflow) : Type 0 where
  place : ℕ
  before : List Interval
  bounded : more_magnitudes marks number sources (take place defs) ≡ Ok before
  def : Definition
  at : slice_get defs place ≡ Some def
  leaves : magnitude marks before (start_of (place + number)) def.body ≡ Err overflow

-- one definition later
one_later : (marks : ℕ → List ℕ) (number : ℕ) (sources : List Interval) (def : Definition) (defs : List Definition) (overflow : Overflow) (i : Interval)
    → magnitude marks sources (start_of number) def.body ≡ Ok i
    → IsFirst marks (suc number) (sources ++ i ∷ []) defs overflow → IsFirst marks number sources (def ∷ defs) overflow
one_later marks number sources def defs overflow i h f = record {
  place = suc f.place;
  before = f.before;
  bounded = rw h f.bounded;
  def = f.def;
  at = f.at;
  leaves = subst (λ n. magnitude marks f.before (start_of n) f.def.body ≡ Err overflow) (omega arith) f.leaves;
}

by_result : (marks : ℕ → List ℕ) (number : ℕ) (sources : List Interval) (def : Definition) (defs : List Definition) (overflow : Overflow)
    (r : Result Interval Overflow) → magnitude marks sources (start_of number) def.body ≡ r
    → and_then (and_then r (λ i. Ok (sources ++ i ∷ []))) (λ next. more_magnitudes marks (suc number) next defs) ≡ Err overflow
    → ((next : List Interval) → more_magnitudes marks (suc number) next defs ≡ Err overflow → IsFirst marks (suc number) next defs overflow)
    → IsFirst marks number sources (def ∷ defs) overflow
by_result marks number sources def defs overflow (Ok i) is h again =
    one_later marks number sources def defs overflow i is (again (sources ++ i ∷ []) h)
by_result marks number sources def defs overflow (Err x) is h again =
    let same : x ≡ overflow = cc in
    record {
      place = zero;
      before = sources;
      bounded = refl;
      def = def;
      at = refl;
      leaves = subst (λ n. magnitude marks sources (start_of n) def.body ≡ Err overflow) (omega arith) (is ∙ ap Err same);
    }

first_of : (marks : ℕ → List ℕ) (number : ℕ) (sources : List Interval) (defs : List Definition) (overflow : Overflow)
    → more_magnitudes marks number sources defs ≡ Err overflow → IsFirst marks number sources defs overflow
first_of marks number sources [] overflow h = absurd (search rules)
first_of marks number sources (def ∷ defs) overflow h =
    by_result marks number sources def defs overflow (magnitude marks sources (start_of number) def.body) refl h
    (λ next k. first_of marks (suc number) next defs overflow k)

-- the first definition that can leave 64 bits is the one that the overflow is in
in_place : (marks : ℕ → List ℕ) (sources : List Interval) (number : ℕ) (e : CoreTree) (overflow : Overflow)
    → magnitude marks sources (start_of number) e ≡ Err overflow → overflow.place.definition ≡ number
in_place marks sources number e overflow is = subst (InDefinition number) is (magnitude_in marks sources (start_of number) e)

-- the same of a whole query
as_ill_scaled : (inputs : List Interval) (rates : List Rate) (defs : List Definition) (overflow : Overflow)
    → IsFirst (marks_in rates defs) 0 inputs defs overflow → IsIllScaled inputs rates defs overflow.place.definition
as_ill_scaled inputs rates defs overflow f =
    let leaves : magnitude (marks_in rates defs) f.before (start_of f.place) f.def.body ≡ Err overflow =
    subst (λ n. magnitude (marks_in rates defs) f.before (start_of n) f.def.body ≡ Err overflow) (omega arith) f.leaves in
    subst (IsIllScaled inputs rates defs) (sym (in_place (marks_in rates defs) f.before f.place f.def.body overflow leaves))
    (record { before = f.before; bounded = f.bounded; def = f.def; at = f.at; overflow = overflow; leaves = leaves })

pub ill_scaled_found : (inputs : List Interval) (rates : List Rate) (defs : List Definition) (overflow : Overflow)
    → magnitudes inputs rates defs ≡ Err overflow → IsIllScaled inputs rates defs overflow.place.definition
ill_scaled_found inputs rates defs overflow h =
    as_ill_scaled inputs rates defs overflow (first_of (marks_in rates defs) 0 inputs defs overflow h)

-- the other way: a first definition with an overflow makes it the overflow of all
here : (marks : ℕ → List ℕ) (number : ℕ) (sources before : List Interval) (d def : Definition) (defs : List Definition) (overflow : Overflow)
    → sources ≡ before → d ≡ def → magnitude marks before (start_of number) def.body ≡ Err overflow
    → more_magnitudes marks number sources (d ∷ defs) ≡ Err overflow
here marks number sources before d def defs overflow same is leaves = rw (same, is, leaves)

by_first : (marks : ℕ → List ℕ) (number : ℕ) (sources before : List Interval) (d : Definition) (some defs : List Definition) (overflow : Overflow)
    (r : Result Interval Overflow) → magnitude marks sources (start_of number) d.body ≡ r
    → and_then (and_then r (λ i. Ok (sources ++ i ∷ []))) (λ next. more_magnitudes marks (suc number) next some) ≡ Ok before
    → ((next : List Interval) → more_magnitudes marks (suc number) next some ≡ Ok before
    → more_magnitudes marks (suc number) next defs ≡ Err overflow)
    → more_magnitudes marks number sources (d ∷ defs) ≡ Err overflow
by_first marks number sources before d some defs overflow (Ok i) is h again = rw is (again (sources ++ i ∷ []) h)
by_first marks number sources before d some defs overflow (Err x) is h again = cc

first_is : (marks : ℕ → List ℕ) (number place : ℕ) (sources before : List Interval) (def : Definition) (defs : List Definition) (overflow : Overflow)
    → more_magnitudes marks number sources (take place defs) ≡ Ok before → slice_get defs place ≡ Some def
    → magnitude marks before (start_of (place + number)) def.body ≡ Err overflow → more_magnitudes marks number sources defs ≡ Err overflow
first_is marks number place sources before def [] overflow bounded at leaves = absurd (search rules)
first_is marks number zero sources before def (d ∷ defs) overflow bounded at leaves =
    let same : sources ≡ before = cc in
    let one : d ≡ def = cc in
    here marks number sources before d def defs overflow same one
    (subst (λ n. magnitude marks before (start_of n) def.body ≡ Err overflow) (omega arith) leaves)
first_is marks number (suc place) sources before def (d ∷ defs) overflow bounded at leaves =
    by_first marks number sources before d (take place defs) defs overflow (magnitude marks sources (start_of number) d.body) refl bounded
    (λ next k. first_is marks (suc number) place next before def defs overflow k at
    (subst (λ n. magnitude marks before (start_of n) def.body ≡ Err overflow) (omega arith) leaves))

pub ill_scaled_reported : (inputs : List Interval) (rates : List Rate) (defs : List Definition) (number : ℕ) → IsIllScaled inputs rates defs number
    → (overflow : Overflow) × (magnitudes inputs rates defs ≡ Err overflow) × (overflow.place.definition ≡ number)
ill_scaled_reported inputs rates defs number i =
    let leaves : magnitude (marks_in rates defs) i.before (start_of (number + 0)) i.def.body ≡ Err i.overflow =
    subst (λ n. magnitude (marks_in rates defs) i.before (start_of n) i.def.body ≡ Err i.overflow) (omega arith) i.leaves in (
      i.overflow,
      first_is (marks_in rates defs) 0 number inputs i.before i.def defs i.overflow i.bounded i.at leaves,
      in_place (marks_in rates defs) i.before number i.def.body i.overflow i.leaves,
    )
