-- Why a file isn't checked.
use Rattle.std.proofs.Common.{◌≡◌, ◌<◌, ◌+◌, ℕ, zero, suc, List, [], ◌∷◌, length, None, Some, Result, Ok, Err, arith, refl, sym, subst, inl, inr, slice_get}
use Rattle.std.proofs.lemmas.Bool.{cases_Bool}
use Rattle.std.specs.Prelude.{IfErr}
use Rattle.std.proofs.lemmas.Option.{slice_get_within}
use Rattle.tilt_input_scales.specs.Scales.{ScalesValue}
use Rattle.tilt_reading_options.specs.Scales.{missing_among}
use Rattle.tilt_unit_check.specs.Check.{IsNamed, IsNoCheck, IsUnchecked, in_bounds}
use Rattle.tilt_unit_check.specs.declared.fault.CheckFault.{CheckFault}
use Rattle.tilt_unit_check.specs.declared.fault.CheckFault.TheVariants.{NoInput, Unloaded}
use Rattle.tilt_core.specs.Core.{CoreParts}
use Rattle.tilt_syntax.specs.Tree.{StatementTree}
use Rattle.tilt_unit_check.specs.declared.check.Checked.{Checked}
use Rattle.tilt_unit_load.specs.UnitFile.{IsLoadedInUnits}
use Rattle.tilt_unit_report.specs.Bound.{has_name, unknown_bound}
use Rattle.tilt_unit_report.specs.declared.bound.InputBound.{InputBound}

-- the first bound of no input has a place, counted from the first one
record IsPlaced (bounds : List InputBound) (first n : ℕ) : Type 0 where
  place : ℕ
  at : n ≡ first + place
  bound : InputBound
  found : slice_get bounds place ≡ Some bound

one-more : (bound : InputBound) (bounds : List InputBound) (first n : ℕ) → IsPlaced bounds (suc first) n → IsPlaced (bound ∷ bounds) first n
one-more bound bounds first n placed =
    record { place = suc placed.place; at = omega (arith, placed.at); bound = placed.bound; found = placed.found }

placed-from : (inputs : List (List ℕ)) (first n : ℕ) (bounds : List InputBound) → unknown_bound inputs first bounds ≡ Some n → IsPlaced bounds first n
placed-from inputs first n [] none = absurd (cc none)
placed-from inputs first n (bound ∷ bounds) is =
    elim (cases_Bool (has_name inputs bound.name)) [
      | inl there ↦ one-more bound bounds first n (placed-from inputs (suc first) n bounds (rw there at is))
      | inr not ↦
          let same : Some first ≡ Some n = rw not at is in
          let e : first ≡ n = cc in
          record { place = zero; at = omega (arith, e); bound = bound; found = refl }
    ]

module _ (inputs : List (List ℕ)) (bounds : List InputBound) (n : ℕ) (is : unknown_bound inputs 0 bounds ≡ Some n) where
  there : (bound : InputBound) × (slice_get bounds n ≡ Some bound)
  there =
      let p = placed-from inputs 0 n bounds is in
      let e : p.place ≡ n = omega (arith, p.at) in
      (p.bound, subst (λ m. slice_get bounds m ≡ Some p.bound) e p.found)

  pub unknown-below : n < length bounds
  unknown-below = slice_get_within bounds n there.0 there.1

  named : (scales : ScalesValue) (bound : InputBound) (why : CheckFault) → missing_among scales.named inputs ≡ None → slice_get bounds n ≡ Some bound
      → IsNamed bound.name why → IsNoCheck scales bounds inputs why
  named scales bound (NoInput name) scaled found same = in_bounds n bound scaled is found (sym same)
  named scales bound (Unloaded why) scaled found none = none

  pub unknown-fault : (scales : ScalesValue) (why : CheckFault) → missing_among scales.named inputs ≡ None
      → ((bound : InputBound) → slice_get bounds n ≡ Some bound → IsNamed bound.name why) → IsNoCheck scales bounds inputs why
  unknown-fault scales why scaled all = named scales there.0 why scaled there.1 (all there.0 there.1)

-- a query that was loaded
module _ (scales : ScalesValue) (bounds : List InputBound) (tells : Type 0) (name bytes : List ℕ) (before after : ℕ) (query : List StatementTree)
    (core : CoreParts) (decimals : ℕ) (loaded : tells → IsLoadedInUnits bytes scales query core decimals) where
  why-unchecked : (why : CheckFault) → IsNoCheck scales bounds core.inputs why → IsUnchecked scales bounds tells name bytes before after why
  why-unchecked (NoInput unknown) is = (query, core, decimals, loaded, is)
  why-unchecked (Unloaded why) none = rw none tt

  pub loaded-unchecked : (result : Result Checked CheckFault) → IfErr result (λ why. IsNoCheck scales bounds core.inputs why)
      → IfErr result (λ why. IsUnchecked scales bounds tells name bytes before after why)
  loaded-unchecked (Ok found) none = none
  loaded-unchecked (Err why) is = why-unchecked why is
