-- What is given after several calls.
use Rattle.std.proofs.Common.{◌≡◌, ◌⊎◌, inl, inr, List, Result, Ok, Err, refl, sym, ap, subst}
use Rattle.tilt_core.specs.Core.{CoreParts}
use Rattle.tilt_syntax.specs.Tree.{StatementTree}
use Rattle.tilt_types.specs.declared.fault.CheckFault.{CheckFault}
use Rattle.tilt_types.specs.declared.fault.CheckFault.TheVariants as check
use Rattle.tilt_units.specs.Translation.{ScaledQuery}
use Rattle.tilt_units.specs.declared.fault.ScaleFault.{ScaleFault}
use Rattle.tilt_units.specs.declared.fault.ScaleFault.TheVariants as scale
use Rattle.tilt_unit_text.specs.Numbers.{and_then}
use Rattle.tilt_unit_text.specs.Reading.{Gives}
use Rattle.tilt_unit_text.specs.Units.{of_check, of_scale, with_fault}
use Rattle.tilt_unit_text.specs.declared.fault.UnitFault.{UnitFault}
use Rattle.tilt_unit_text.specs.declared.fault.UnitFault.TheVariants as fault

-- a fault of the first call is that of all
pub first_fault : {A B : Type 0} (r : Result A UnitFault) (next : A → Result B UnitFault) (f : UnitFault)
    → (f ≡ fault.OutOfMemory) ⊎ (r ≡ Err f) → (f ≡ fault.OutOfMemory) ⊎ (and_then r next ≡ Err f)
first_fault r next f h = elim h [ inl memory ↦ inl memory | inr e ↦ inr (rw e refl) ]

-- what is given after it is given by all
pub goes_on : {A B C : Type 0} (seen : C → B) (r : Result A UnitFault) (next : A → Result B UnitFault) (a : A) (given : Result C UnitFault)
    → r ≡ Ok a → Gives seen given (next a) → Gives seen given (and_then r next)
goes_on seen r next a given e g = subst (λ s. Gives seen given (and_then s next)) (sym e) g

pub check_fault : (r : Result CoreParts CheckFault) (f : CheckFault) → (f ≡ check.OutOfMemory) ⊎ (r ≡ Err f)
    → (of_check f ≡ fault.OutOfMemory) ⊎ (with_fault of_check r ≡ Err (of_check f))
check_fault r f h = elim h [ inl memory ↦ inl (ap of_check memory) | inr e ↦ inr (ap (with_fault of_check) e) ]

pub scale_fault : (query : List StatementTree) (r : Result ScaledQuery ScaleFault) (f : ScaleFault) → (f ≡ scale.OutOfMemory) ⊎ (r ≡ Err f)
    → (of_scale query f ≡ fault.OutOfMemory) ⊎ (with_fault (of_scale query) r ≡ Err (of_scale query f))
scale_fault query r f h = elim h [ inl memory ↦ inl (ap (of_scale query) memory) | inr e ↦ inr (ap (with_fault (of_scale query)) e) ]

-- a result that is no fault of a text was none before
pub faultless : {A E : Type 0} (of : E → UnitFault) (r : Result A E) (a : A) → with_fault of r ≡ Ok a → r ≡ Ok a
faultless of (Ok b) a h = let e : b ≡ a = cc h in ap Ok e
faultless of (Err f) a h = absurd (cc h)
