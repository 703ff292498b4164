-- What options are set to (our own rule).
use Rattle.std.specs.Prelude.{◌≡◌, ◌≢◌, ℕ, ℤ, pos, neg_ℤ, Bool, false, List, [], ◌+ℤ◌, Option, None, Some, find, map, option_map, string_bytes}
use Rattle.std.specs.List.{list_any}
use Rattle.std.specs.Str.{bytes_eq}
use Rattle.tilt_base.specs.declared.limits.TheConstants.{T}
use Rattle.tilt_cli.specs.Number.{AreRising, AreUpTo, IsNumber}
use Rattle.tilt_cli.specs.Upto.{IsUpto, UptoValue, upto_of}
use Rattle.tilt_cli.specs.declared.option_table.Shape.{Shape}
use Rattle.tilt_cli.specs.declared.option_table.Shape.TheVariants as shape
use Rattle.tilt_cli.specs.declared.setting.Setting.{Setting}
use Rattle.tilt_cli.specs.declared.value.Value.{Value}
use Rattle.tilt_cli.specs.declared.value.Value.TheVariants as variant

-- what an option is set to
pub data OptionValue : Type 0 where
  flag : OptionValue
  text : (bytes : List ℕ) → OptionValue
  times : (ticks : List ℤ) → OptionValue
  numbers : (parts : List ℕ) → OptionValue
  cuts : (upto : UptoValue) → OptionValue
  span : (ticks : ℕ) → OptionValue

-- the word spells a value of this shape
abbrev pub IsValue : Shape → List ℕ → OptionValue → Type 0
IsValue shape.Flag word value = ⊥
IsValue shape.Text word (text bytes) = (bytes ≡ word) × (word ≢ [])
IsValue shape.Times word (times ticks) = AreRising (pos 0) (neg_ℤ T) T word ticks
IsValue shape.RisingTimes word (times ticks) = AreRising (pos 1) (neg_ℤ T) T word ticks
IsValue shape.Numbers word (numbers parts) = AreUpTo 4294967295 word parts
IsValue shape.Cuts word (cuts upto) = IsUpto word upto
IsValue shape.Ticks word (span ticks) = IsNumber (pos 0) (T +ℤ T) word (pos ticks)
IsValue form word value = ⊥

-- an option, and what it is set to
pub record SettingValue : Type 0 where
  pub option : List ℕ
  pub value : OptionValue

-- whether an option is set
abbrev pub is_set : List ℕ → List SettingValue → Bool
is_set option settings = list_any (λ setting. bytes_eq setting.option option) settings

-- what an option is set to
abbrev pub set_to : List ℕ → List SettingValue → Option OptionValue
set_to option settings = option_map (λ setting. setting.value) (find (λ setting. bytes_eq setting.option option) settings)

-- the text, the cuts, the number of ticks, the times and the numbers that an option is set to; no times and no numbers if it isn't set
abbrev pub text_of : Option OptionValue → Option (List ℕ)
text_of (Some (text bytes)) = Some bytes
text_of value = None

abbrev pub cuts_of : Option OptionValue → Option UptoValue
cuts_of (Some (cuts upto)) = Some upto
cuts_of value = None

abbrev pub ticks_of : Option OptionValue → Option ℕ
ticks_of (Some (span ticks)) = Some ticks
ticks_of value = None

abbrev pub times_of : Option OptionValue → List ℤ
times_of (Some (times ticks)) = ticks
times_of value = []

abbrev pub numbers_of : Option OptionValue → List ℕ
numbers_of (Some (numbers parts)) = parts
numbers_of value = []

-- options other than this one are set as they were
abbrev pub LeavesOthers : List ℕ → (old new : List SettingValue) → Type 0
LeavesOthers option old new = (other : List ℕ) → bytes_eq option other ≡ false → set_to other new ≡ set_to other old

-- what an option is set to, as bytes and numbers
abbrev pub value_of : Value → OptionValue
value_of variant.Flag = flag
value_of (variant.Text bytes) = text (string_bytes bytes)
value_of (variant.Times ticks) = times ticks.items
value_of (variant.Numbers parts) = numbers parts.items
value_of (variant.Cuts upto) = cuts (upto_of upto)
value_of (variant.Ticks ticks) = span ticks

-- an option and what it is set to, as bytes and numbers
abbrev pub setting_of : Setting → SettingValue
setting_of setting = record { option = setting.word.now; value = value_of setting.value }

-- each of them
abbrev pub settings_of : List Setting → List SettingValue
settings_of settings = map setting_of settings
