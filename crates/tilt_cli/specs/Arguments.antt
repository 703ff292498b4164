-- The arguments after a command's file: binds and options of a table, in any order (our own rule).
use Rattle.std.specs.Prelude.{◌≡◌, ℕ, false, List, [], ◌∷◌, ◌++◌, None, Some}
use Rattle.tilt_cli.specs.Binding.{Binding, IsBinding, binding_spelled, bindings_of}
use Rattle.tilt_cli.specs.Options.{IsValue, OptionValue, SettingValue, flag, is_set, settings_of}
use Rattle.tilt_cli.specs.Tables.{OptionEntry, option_of}
use Rattle.tilt_cli.specs.declared.arguments.Arguments.{Arguments}
use Rattle.tilt_cli.specs.declared.option_table.Shape.TheVariants as shape

-- what the arguments give a command in addition to its file: the binds, and what options are set to, in order
pub record ArgumentsValue : Type 0 where
  pub binds : List Binding
  pub settings : List SettingValue

-- what no arguments give
abbrev pub no_arguments : ArgumentsValue
no_arguments = record { binds = []; settings = [] }

-- the same, and one more option that is set
abbrev pub with_setting : ArgumentsValue → List ℕ → OptionValue → ArgumentsValue
with_setting old option value =
    let setting : SettingValue = record { option = option; value = value } in
    record old { settings = old.settings ++ setting ∷ [] }

-- The arguments start with a bind or an option of the table, and go on with the rest. The arguments before gave `old`, and with this one
-- they give `new`. An option is set once.
pub data Begins (table : List OptionEntry) : (old : ArgumentsValue) (words : List (List ℕ)) (new : ArgumentsValue) (rest : List (List ℕ))
    → Type 0 where
  -- a word that is no option, such as `NAME=FILE`
  bind : {old : ArgumentsValue} {word : List ℕ} {rest : List (List ℕ)} → option_of table word ≡ None → IsBinding (binding_spelled word)
      → Begins table old (word ∷ rest) (record old { binds = old.binds ++ binding_spelled word ∷ [] }) rest
  -- an option that has no value
  alone : {old : ArgumentsValue} {word : List ℕ} {rest : List (List ℕ)} {entry : OptionEntry} → option_of table word ≡ Some entry
      → is_set word old.settings ≡ false → entry.shape ≡ shape.Flag → Begins table old (word ∷ rest) (with_setting old word flag) rest
  -- an option, and its value as the next word
  valued : {old : ArgumentsValue} {word spelled : List ℕ} {rest : List (List ℕ)} {entry : OptionEntry} (value : OptionValue)
      → option_of table word ≡ Some entry → is_set word old.settings ≡ false → IsValue entry.shape spelled value
      → Begins table old (word ∷ spelled ∷ rest) (with_setting old word value) rest

-- these are arguments by the table, one after another; the arguments before them gave `old`, and with them they give `new`
pub data AreArguments (table : List OptionEntry) : (old : ArgumentsValue) (words : List (List ℕ)) (new : ArgumentsValue) → Type 0 where
  -- none are left
  none : {old : ArgumentsValue} → AreArguments table old [] old
  -- one, and then the rest
  more : {old between new : ArgumentsValue} {words rest : List (List ℕ)} → Begins table old words between rest
      → AreArguments table between rest new → AreArguments table old words new

-- the arguments, as bytes and numbers
abbrev pub arguments_of : Arguments → ArgumentsValue
arguments_of arguments = record { binds = bindings_of arguments.binds.items; settings = settings_of arguments.settings.items }
