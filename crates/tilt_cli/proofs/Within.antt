-- The numbers of a command lie between their bounds.
use Rattle.std.proofs.Common.{◌≡◌, inl, inr, ℕ, ℤ, pos, neg_ℤ, ◌≤ℤ◌, List, [], ◌∷◌, ◌++◌, Option, None, Some, codes, refl, sym, ap, ◌∙◌, subst, arith}
use Rattle.std.proofs.lemmas.Bool.{cases_Bool}
use Rattle.std.proofs.lemmas.Int.{ints}
use Rattle.std.proofs.lemmas.Option.{option_and_then_some, same_Some}
use Rattle.std.proofs.lemmas.Slice.Eq.{bytes_eq-Decides}
use Rattle.std.specs.List.{AllByRecursion}
use Rattle.std.specs.Prelude.{◌+ℤ◌, IfSome, option_map, ⊤}
use Rattle.std.specs.Str.{bytes_eq}
use Rattle.tilt_base.specs.declared.limits.TheConstants.{T}
use Rattle.tilt_cli.specs.Arguments.{ArgumentsValue, Begins, AreArguments, no_arguments}
use Rattle.tilt_cli.specs.Arguments as argument
use Rattle.tilt_cli.specs.Command.{CommandValue, IsCommand, IsWithin, command_with, fix, plain_of, resume_upto, saved_with, start, with_file, tries}
use Rattle.tilt_cli.specs.Number.{AreRising, ClimbFrom, RiseFrom, after_comma}
use Rattle.tilt_cli.specs.Options.{IsValue, OptionValue, SettingValue, cuts_of, flag, set_to, times_of}
use Rattle.tilt_cli.specs.Upto.{IsUptoWithin, UptoValue}
use Rattle.tilt_cli.specs.Tables.{CommandEntry}
use Rattle.tilt_cli.specs.declared.command_table.Form.{Form}
use Rattle.tilt_cli.specs.declared.command_table.Form.TheVariants as form
use Rattle.tilt_cli.specs.Tables.{OptionEntry, option_of, options}
use Rattle.tilt_cli.specs.declared.option_table.Shape.{Shape}
use Rattle.tilt_cli.specs.declared.option_table.Shape.TheVariants as shape
use Rattle.tilt_cli.proofs.UptoRead.{upto_within}
use Rattle.tilt_cli.proofs.Values.{only_cuts, only_rising, only_times}

rises : (low least greatest : ℤ) (word : List ℕ) (numbers : List ℤ) → low ≤ℤ least → AreRising (pos 0) least greatest word numbers → RiseFrom low greatest numbers
rises low least greatest word [] above are = absurd are
rises low least greatest word (number ∷ []) above is = (let from = is.low in omega (arith, ints), is.high, tt)
rises low least greatest word (number ∷ next ∷ more) above are = (
  let from = are.0.low in omega (arith, ints),
  are.0.high,
  rises number (number +ℤ pos 0) greatest (after_comma word) (next ∷ more) (omega (arith, ints)) are.1,
)

climbs : (least greatest : ℤ) (word : List ℕ) (numbers : List ℤ) → AreRising (pos 1) least greatest word numbers → ClimbFrom least greatest numbers
climbs least greatest word [] are = absurd are
climbs least greatest word (number ∷ []) is = (is.low, is.high, tt)
climbs least greatest word (number ∷ next ∷ more) are =
    (are.0.low, are.0.high, climbs (number +ℤ pos 1) greatest (after_comma word) (next ∷ more) are.1)

-- the numbers of a value
abbrev IsValueWithin : Shape → OptionValue → Type 0
IsValueWithin shape.Times value = RiseFrom (neg_ℤ T) T (times_of (Some value))
IsValueWithin shape.RisingTimes value = ClimbFrom (neg_ℤ T) T (times_of (Some value))
IsValueWithin shape.Cuts value = IfSome (cuts_of (Some value)) IsUptoWithin
IsValueWithin other value = ⊤

value_within : (kind : Shape) (word : List ℕ) (value : OptionValue) → IsValue kind word value → IsValueWithin kind value
value_within shape.Times word value is =
    let p = only_times word value is in
    subst (IsValueWithin shape.Times) (sym p.2) (rises (neg_ℤ T) (neg_ℤ T) T word p.0 (omega (arith, ints)) p.1)
value_within shape.RisingTimes word value is =
    let p = only_rising word value is in
    subst (IsValueWithin shape.RisingTimes) (sym p.2) (climbs (neg_ℤ T) T word p.0 p.1)
value_within shape.Cuts word value is =
    let p = only_cuts word value is in
    subst (IsValueWithin shape.Cuts) (sym p.2) (upto_within word p.0 p.1)
value_within kind word value is = tt

flag_within : (kind : Shape) → kind ≡ shape.Flag → IsValueWithin kind flag
flag_within kind e = subst (λ k. IsValueWithin k flag) (sym e) tt

-- of what options are set to
abbrev IsSettingWithin : SettingValue → Type 0
IsSettingWithin setting = (row : OptionEntry) → option_of options setting.option ≡ Some row → IsValueWithin row.shape setting.value

abbrev AreWithin : List SettingValue → Type 0
AreWithin settings = AllByRecursion IsSettingWithin settings

one_more : (settings : List SettingValue) (setting : SettingValue) → AreWithin settings → IsSettingWithin setting → AreWithin (settings ++ setting ∷ [])
one_more [] setting all is = (is, tt)
one_more (first ∷ settings) setting all is = (all.0, one_more settings setting all.1 is)

named_within : (word : List ℕ) (value : OptionValue) (row : OptionEntry) → option_of options word ≡ Some row → IsValueWithin row.shape value →
    IsSettingWithin (record { option = word; value = value })
named_within word value row named is =
    λ other e. subst (λ (r : OptionEntry). IsValueWithin r.shape value) (same_Some row other (sym named ∙ e)) is

one_within : {old new : ArgumentsValue} {words rest : List (List ℕ)} → Begins options old words new rest → AreWithin old.settings → AreWithin new.settings
one_within (argument.bind none is) before = before
one_within (argument.alone {old = old} {word = word} {entry = row} named fresh kind) before =
    one_more old.settings (record { option = word; value = flag }) before (named_within word flag row named (flag_within row.shape kind))
one_within (argument.valued {old = old} {word = word} {spelled = spelled} {entry = row} value named fresh is) before =
    one_more old.settings (record { option = word; value = value }) before (named_within word value row named (value_within row.shape spelled value is))

all_within : {old new : ArgumentsValue} {words : List (List ℕ)} → AreArguments options old words new → AreWithin old.settings → AreWithin new.settings
all_within argument.none before = before
all_within (argument.more begins are) before = all_within are (one_within begins before)

-- of what one option is set to
found_within : (option : List ℕ) (row : OptionEntry) → option_of options option ≡ Some row → (settings : List SettingValue) → AreWithin settings →
    IfSome (set_to option settings) (IsValueWithin row.shape)
found_within option row named [] all = tt
found_within option row named (setting ∷ settings) all =
    elim (cases_Bool (bytes_eq setting.option option)) [
      | inl so ↦ let same : setting.option ≡ option = (bytes_eq-Decides setting.option option).0 so in
          rw so (all.0 row (ap (option_of options) same ∙ named))
      | inr not ↦ rw not (found_within option row named settings all.1)
    ]

-- the options whose values have numbers
record HasShape (word : List ℕ) (kind : Shape) : Type 0 where
  row : OptionEntry
  named : option_of options word ≡ Some row
  is : row.shape ≡ kind

cut_shape : HasShape (codes "--cut") shape.Times
unfolding option_of options
cut_shape = record { row = _; named = refl; is = refl }

at_shape : HasShape (codes "--at") shape.RisingTimes
unfolding option_of options
at_shape = record { row = _; named = refl; is = refl }

upto_shape : HasShape (codes "--upto") shape.Cuts
unfolding option_of options
upto_shape = record { row = _; named = refl; is = refl }

of_shape : (word : List ℕ) (kind : Shape) → HasShape word kind → (settings : List SettingValue) → AreWithin settings →
    IfSome (set_to word settings) (IsValueWithin kind)
of_shape word kind has settings all =
    subst (λ k. IfSome (set_to word settings) (IsValueWithin k)) has.is (found_within word has.row has.named settings all)

rising_times : (value : Option OptionValue) → IfSome value (IsValueWithin shape.Times) → RiseFrom (neg_ℤ T) T (times_of value)
rising_times None is = tt
rising_times (Some value) is = is

climbing_times : (value : Option OptionValue) → IfSome value (IsValueWithin shape.RisingTimes) → ClimbFrom (neg_ℤ T) T (times_of value)
climbing_times None is = tt
climbing_times (Some value) is = is

some_cuts : (value : Option OptionValue) → IfSome value (IsValueWithin shape.Cuts) → IfSome (cuts_of value) IsUptoWithin
some_cuts None is = tt
some_cuts (Some value) is = is

saved_within : (session : UptoValue → List ℕ → CommandValue) → ((upto : UptoValue) (save : List ℕ) → IsUptoWithin upto → IsWithin (session upto save)) →
    (upto : Option UptoValue) (save : Option (List ℕ)) → IfSome upto IsUptoWithin → IfSome (saved_with session upto save) IsWithin
saved_within session each None save is = tt
saved_within session each (Some upto) None is = tt
saved_within session each (Some upto) (Some save) is = each upto save is

some_edits : (make : List ℕ → CommandValue) → ((edits : List ℕ) → IsWithin (make edits)) → (edits : Option (List ℕ)) → IfSome (option_map make edits) IsWithin
some_edits make each None = tt
some_edits make each (Some edits) = each edits

-- of a command
with_within : (kind : Form) (file : List ℕ) (given : ArgumentsValue) → AreWithin given.settings → IfSome (command_with kind file given) IsWithin
with_within form.Run file given all = rising_times _ (of_shape (codes "--cut") shape.Times cut_shape given.settings all)
with_within form.Parts file given all = climbing_times _ (of_shape (codes "--at") shape.RisingTimes at_shape given.settings all)
with_within form.Start file given all =
    saved_within (λ upto save. start file given.binds (plain_of given) upto save) (λ upto save is. is) _ _
    (some_cuts _ (of_shape (codes "--upto") shape.Cuts upto_shape given.settings all))
with_within form.ResumeUpto file given all =
    saved_within (λ upto save. resume_upto file given.binds (plain_of given) upto save) (λ upto save is. is) _ _
    (some_cuts _ (of_shape (codes "--upto") shape.Cuts upto_shape given.settings all))
with_within form.Fix file given all = some_edits (λ edits. fix file given.binds (plain_of given) edits) (λ edits. tt) _
with_within kind file given all = tt

pub within : (words : List (List ℕ)) (command : CommandValue) → IsCommand words command → IsWithin command
within words command (with_file is) =
    option_and_then_some (λ (row : CommandEntry). command_with row.form is.file is.given) _ command is.is_called
    (λ row named called. subst (λ c. IfSome c IsWithin) called (with_within row.form is.file is.given (all_within is.are_arguments tt)))
within words command (tries is) = (omega (arith, ints, is.is_seed.high), omega (arith, ints, is.is_count.high))
