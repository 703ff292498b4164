-- What the results of the calls say.
use Rattle.std.specs.Prelude.{◌≡◌, ℕ, List, Option, Some, None, Result, Ok, Err, ⊤}
use Rattle.tilt_reading_options.specs.Values.{ChoiceValue}
use Rattle.tilt_reading_options.specs.declared.fault.ChoiceFault.{ChoiceFault}
use Rattle.tilt_reading_options.specs.declared.fault.ChoiceFault.TheVariants as choice
use Rattle.tilt_reading_options.specs.declared.fault.FormFault.{FormFault}
use Rattle.tilt_reading_options.specs.declared.fault.FormFault.TheVariants as form
use Rattle.tilt_reading_options.specs.declared.reading_option.ReadingOption.{ReadingOption}

-- the result, as plain data, is what was said, unless memory ran out
abbrev pub Says : {A B : Type 0} → (A → B) → Result A ChoiceFault → Result B ReadingOption → Type 0
Says plain (Ok made) said = said ≡ Ok (plain made)
Says plain (Err (choice.Bad option)) said = said ≡ Err option
Says plain (Err choice.OutOfMemory) said = ⊤

-- the result is the choice that was said, unless memory ran out
abbrev pub IsChoice : Result ChoiceValue ChoiceFault → Result ChoiceValue ReadingOption → Type 0
IsChoice result said = Says (λ choice. choice) result said

-- no name is missing, or it is the first one that is, unless memory ran out
abbrev pub IsMissing : {A : Type 0} → Result A FormFault → Option (List ℕ) → Type 0
IsMissing (Ok made) missing = missing ≡ None
IsMissing (Err (form.NoInput name)) missing = missing ≡ Some name
IsMissing (Err form.OutOfMemory) missing = ⊤
