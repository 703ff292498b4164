-- What a search through settings finds, and what it leaves that takes one out.
use Rattle.std.proofs.Common.{◌≡◌, ℕ, zero, suc, ◌<◌, ◌≤◌, ◌||◌, ◌&&◌, ◌==◌, Bool, ◌+◌, nat_lt, cond, true, false}
use Rattle.std.proofs.Common.{inl, inr, List, [], ◌∷◌, length, get_or, Option, Some, None, refl, sym, ap, ◌∙◌, subst, arith}
use Rattle.std.specs.List.{position, position_or_len, remove, list_all, list_any}
use Rattle.std.specs.Prelude.{find, map, option_map}
use Rattle.std.specs.Str.{bytes_eq}
use Rattle.std.proofs.lemmas.Bool.{cases_Bool, cases_lt}
use Rattle.std.proofs.lemmas.Bool.Decides.{nat_tests}
use Rattle.std.proofs.lemmas.List.Quantifiers.{position-Some}
use Rattle.std.proofs.lemmas.Slice.Eq.{bytes_eq-Decides}
use Rattle.tilt_cli.specs.Options.{LeavesOthers, SettingValue, is_set, set_to, setting_of, settings_of, value_of}
use Rattle.std.proofs.lemmas.List.{length-map}
use Rattle.std.proofs.lemmas.List.Folds.{list_all-map}
use Rattle.std.specs.Borrow.{Bor}
use Rattle.tilt_cli.specs.Arguments.{ArgumentsValue, arguments_of}
use Rattle.tilt_cli.specs.Binding.{binding_of}
use Rattle.tilt_cli.specs.Legal.{command_found, command_of_table, is_legal, is_listed}
use Rattle.tilt_cli.specs.Tables.{CommandEntry, OptionEntry, command_entry, commands, option_entries, option_entry, option_found, option_of}
use Rattle.tilt_cli.specs.declared.option_table.OptionRow.{OptionRow}
use Rattle.tilt_cli.specs.declared.arguments.Arguments.{Arguments}
use Rattle.tilt_cli.specs.declared.command_table.CommandRow.{CommandRow}
use Rattle.tilt_cli.specs.declared.setting.Setting.{Setting}

-- a search through elements as they are seen is a search through them
pub found_seen : {A B : Type 0} (seen : A → B) (test : B → Bool) (xs : List A) → find test (map seen xs) ≡ option_map seen (find (λ x. test (seen x)) xs)
found_seen seen test [] = refl
found_seen seen test (x ∷ xs) =
    elim (cases_Bool (test (seen x))) [ inl so ↦ rw so refl | inr not ↦ rw not (found_seen seen test xs) ]

pub any_seen : {A B : Type 0} (seen : A → B) (test : B → Bool) (xs : List A) → list_any test (map seen xs) ≡ list_any (λ x. test (seen x)) xs
any_seen seen test [] = refl
any_seen seen test (x ∷ xs) = ap (λ b. test (seen x) || b) (any_seen seen test xs)

-- what is at the first place that passes is what is found, and nothing is if no place does
found_at : {A : Type 0} (test : A → Bool) (xs : List A) (place : ℕ) (x : A) → place < length xs → test (get_or xs place x) ≡ true →
    ((k : ℕ) → k < place → test (get_or xs k x) ≡ false) → find test xs ≡ Some (get_or xs place x)
found_at test [] place x low hit before = absurd (omega arith)
found_at test (y ∷ ys) zero x low hit before = rw hit refl
found_at test (y ∷ ys) (suc place) x low hit before =
    let head : test y ≡ false = before 0 (omega arith) in
    rw head (found_at test ys place x (omega arith) hit (λ k under. before (suc k) (omega arith)))

found_none : {A : Type 0} (test : A → Bool) (xs : List A) → length xs ≤ position_or_len test xs → find test xs ≡ None
found_none test [] end = refl
found_none test (x ∷ xs) end =
    elim (cases_Bool (test x)) [
      | inl so ↦ let first : position_or_len test (x ∷ xs) ≡ 0 = rw so refl in absurd (omega (arith, first))
      | inr not ↦ let later : position_or_len test (x ∷ xs) ≡ 1 + position_or_len test xs = rw not refl in rw not (found_none test xs (omega (arith, later)))
    ]

no_place : {A : Type 0} (test : A → Bool) (xs : List A) → position test xs ≡ None → length xs ≤ position_or_len test xs
no_place test xs e =
    elim (cases_lt (position_or_len test xs) (length xs)) [
      | inl low ↦ let tested : nat_lt (position_or_len test xs) (length xs) ≡ true = grind (arith, nat_tests) in
          let bad : Some (position_or_len test xs) ≡ None = sym (ap (λ b. cond b (Some (position_or_len test xs)) None) tested) ∙ e in
          cc
      | inr end ↦ end
    ]

module _ (word : List ℕ) (settings : List Setting) where
  -- no place has the option: it isn't set
  pub not_set : position (λ (s : Setting). bytes_eq s.word.now word) settings ≡ None → set_to word (settings_of settings) ≡ None
  not_set e =
      let none = found_none (λ (s : Setting). bytes_eq s.word.now word) settings (no_place (λ (s : Setting). bytes_eq s.word.now word) settings e) in
      ap (option_map (λ (s : SettingValue). s.value)) (found_seen setting_of (λ (s : SettingValue). bytes_eq s.option word) settings ∙ ap (option_map setting_of) none)

  -- a place has it: that is what it is set to
  pub set_at : (place : ℕ) (setting : Setting) → position (λ (s : Setting). bytes_eq s.word.now word) settings ≡ Some place →
      setting ≡ get_or settings place setting → set_to word (settings_of settings) ≡ Some (value_of setting.value)
  set_at place setting e is =
      let at = position-Some (λ (s : Setting). bytes_eq s.word.now word) settings place setting e in
      let found = found_at (λ (s : Setting). bytes_eq s.word.now word) settings place setting at.0 at.1 at.2 ∙ ap Some (sym is) in
      ap (option_map (λ (s : SettingValue). s.value)) (found_seen setting_of (λ (s : SettingValue). bytes_eq s.option word) settings ∙ ap (option_map setting_of) found)

-- an option that is taken out leaves the others
found_left : (word other : List ℕ) (xs : List Setting) (place : ℕ) (x : Setting) → place < length xs →
    bytes_eq (get_or xs place x).word.now word ≡ true → bytes_eq word other ≡ false →
    find (λ (s : Setting). bytes_eq s.word.now other) (remove xs place) ≡ find (λ (s : Setting). bytes_eq s.word.now other) xs
found_left word other [] place x low is differs = absurd (omega arith)
found_left word other (y ∷ ys) zero x low is differs =
    let same : y.word.now ≡ word = (bytes_eq-Decides y.word.now word).0 is in
    let off : bytes_eq y.word.now other ≡ false = subst (λ w. bytes_eq w other ≡ false) (sym same) differs in
    rw off refl
found_left word other (y ∷ ys) (suc place) x low is differs =
    ap (λ found. cond (bytes_eq y.word.now other) (Some y) found) (found_left word other ys place x (omega arith) is differs)

pub others_left : (word : List ℕ) (settings : List Setting) (place : ℕ) (setting : Setting) →
    position (λ (s : Setting). bytes_eq s.word.now word) settings ≡ Some place →
    LeavesOthers word (settings_of settings) (settings_of (remove settings place))
others_left word settings place setting e = λ other differs.
    let at = position-Some (λ (s : Setting). bytes_eq s.word.now word) settings place setting e in
    let left = found_left word other settings place setting at.0 at.1 differs in
    ap (option_map (λ (s : SettingValue). s.value)) (found_seen setting_of (λ (s : SettingValue). bytes_eq s.option other) (remove settings place)
    ∙ ap (option_map setting_of) left ∙ sym (found_seen setting_of (λ (s : SettingValue). bytes_eq s.option other) settings))

-- whether a row can have arguments, over the lists as the program has them
module _ (row : CommandRow) (arguments : Arguments) where
  abbrev pub HasRequired : Bool
  HasRequired = list_all (λ (o : Bor (List ℕ)). is_set o.now (arguments_of arguments).settings) row.required.now

  abbrev pub TakesOptions : Bool
  TakesOptions = list_all (λ (s : Setting). is_listed (command_entry row).required s.word.now || is_listed (command_entry row).allowed s.word.now) arguments.settings.items

  legal_seen : is_legal (command_entry row) (arguments_of arguments) ≡ (HasRequired && TakesOptions && (row.takes_binds || length arguments.binds.items == 0))
  legal_seen =
      let required = list_all-map (λ (w : List ℕ). is_set w (arguments_of arguments).settings) (λ (o : Bor (List ℕ)). o.now) row.required.now in
      let own = list_all-map (λ (s : SettingValue). is_listed (command_entry row).required s.option || is_listed (command_entry row).allowed s.option) setting_of arguments.settings.items in
      let binds = length-map arguments.binds.items binding_of in
      λ i. required i && own i && (row.takes_binds || binds i == 0)

  pub not_complete : HasRequired ≡ false → false ≡ is_legal (command_entry row) (arguments_of arguments)
  not_complete e = sym (legal_seen ∙ ap (λ (b : Bool). b && TakesOptions && (row.takes_binds || length arguments.binds.items == 0)) e)

  pub not_own : HasRequired ≡ true → TakesOptions ≡ false → false ≡ is_legal (command_entry row) (arguments_of arguments)
  not_own has own = sym (legal_seen ∙ (λ i. has i && own i && (row.takes_binds || length arguments.binds.items == 0)))

  pub by_binds : HasRequired ≡ true → TakesOptions ≡ true → (allowed : Bool) → allowed ≡ (row.takes_binds || length arguments.binds.items == 0) →
      allowed ≡ is_legal (command_entry row) (arguments_of arguments)
  by_binds has own allowed e = e ∙ sym (legal_seen ∙ (λ i. has i && own i && (row.takes_binds || length arguments.binds.items == 0)))

-- a row that is found in the program's tables is found in the definition's
pub option_seen : (rows : List OptionRow) (word : List ℕ) (found : Option OptionRow) → found ≡ option_found rows word →
    option_map option_entry found ≡ option_of (option_entries rows) word
unfolding option_of option_found
option_seen rows word found is =
    ap (option_map option_entry) is ∙ sym (found_seen option_entry (λ (e : OptionEntry). bytes_eq e.word word) rows)

pub command_seen : (rows : List CommandRow) (word : List ℕ) (given : ArgumentsValue) (found : Option CommandRow) → map command_entry rows ≡ commands →
    found ≡ command_found rows word given → option_map command_entry found ≡ command_of_table word given
unfolding command_of_table command_found
command_seen rows word given found same is =
    ap (option_map command_entry) is ∙ sym (found_seen command_entry (λ (e : CommandEntry). bytes_eq e.word word && is_legal e given) rows)
    ∙ ap (find (λ (e : CommandEntry). bytes_eq e.word word && is_legal e given)) same
