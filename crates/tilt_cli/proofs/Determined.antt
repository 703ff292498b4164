-- Arguments start with one bind or option at most, and it gives one thing.
use Rattle.std.proofs.Common.{◌≡◌, ◌⊎◌, inl, inr, ℕ, false, List, [], ◌∷◌, ◌++◌, Some, None, refl, sym, ap, ◌∙◌, subst}
use Rattle.std.proofs.lemmas.Option.{none-some, same_Some}
use Rattle.tilt_cli.specs.Arguments.{ArgumentsValue, Begins, AreArguments, with_setting}
use Rattle.tilt_cli.specs.Arguments as argument
use Rattle.tilt_cli.specs.Binding.{IsBinding, binding_spelled}
use Rattle.tilt_cli.specs.Options.{IsValue, OptionValue, flag, is_set}
use Rattle.tilt_cli.specs.Tables.{OptionEntry, option_of}
use Rattle.tilt_cli.specs.declared.option_table.Shape.TheVariants as shape
use Rattle.tilt_cli.proofs.Values.{same_value}

-- what arguments give that start with an option: it is alone, or it has a value
pub record GivesAlone (old new : ArgumentsValue) (word : List ℕ) (row : OptionEntry) (rest tail : List (List ℕ)) : Type 0 where
  pub is_flag : row.shape ≡ shape.Flag
  pub gives : new ≡ with_setting old word flag
  pub rests : rest ≡ tail

pub record GivesValue (old new : ArgumentsValue) (word : List ℕ) (row : OptionEntry) (rest tail : List (List ℕ)) : Type 0 where
  pub spelled : List ℕ
  pub value : OptionValue
  pub is_value : IsValue row.shape spelled value
  pub gives : new ≡ with_setting old word value
  pub rests : tail ≡ spelled ∷ rest

pub record GivesOption (old new : ArgumentsValue) (word : List ℕ) (row : OptionEntry) (rest tail : List (List ℕ)) : Type 0 where
  pub fresh : is_set word old.settings ≡ false
  pub gives : GivesAlone old new word row rest tail ⊎ GivesValue old new word row rest tail

one_row : (table : List OptionEntry) (x y : OptionEntry) (word other : List ℕ) → word ≡ other → option_of table word ≡ Some x
    → option_of table other ≡ Some y → x ≡ y
one_row table x y word other same a b = same_Some x y (sym a ∙ ap (option_of table) same ∙ b)

no_row : (table : List OptionEntry) (x : OptionEntry) (word other : List ℕ) → word ≡ other → option_of table word ≡ Some x
    → option_of table other ≡ None → ⊥
no_row table x word other same a b = none-some x (sym b ∙ ap (option_of table) (sym same) ∙ a)

pub no_flag_value : (row : OptionEntry) (spelled : List ℕ) (value : OptionValue) → row.shape ≡ shape.Flag → IsValue row.shape spelled value → ⊥
no_flag_value row spelled value e is = subst (λ form. IsValue form spelled value) e is

pub after_option : {table : List OptionEntry} {old new : ArgumentsValue} {words rest : List (List ℕ)} → Begins table old words new rest → (word : List ℕ)
    (tail : List (List ℕ)) (row : OptionEntry) → words ≡ word ∷ tail → option_of table word ≡ Some row → GivesOption old new word row rest tail
after_option (argument.bind {word = w} none is) word tail row e named =
    let same : word ≡ w = cc in
    absurd (no_row _ row word w same named none)
after_option (argument.alone {old = old} {word = w} {rest = rest} {entry = r} is fresh form) word tail row e named =
    let same : w ≡ word = cc in
    let rows = one_row _ r row w word same is named in
    let rests : rest ≡ tail = cc in
    record {
      fresh = subst (λ v. is_set v old.settings ≡ false) same fresh;
      gives = inl (record { is_flag = ap (λ (x : OptionEntry). x.shape) (sym rows) ∙ form; gives = ap (λ v. with_setting old v flag) same; rests = rests });
    }
after_option (argument.valued {old = old} {word = w} {spelled = s} {rest = rest} {entry = r} value is fresh valued) word tail row e named =
    let same : w ≡ word = cc in
    let rows = one_row _ r row w word same is named in
    let rests : tail ≡ s ∷ rest = cc in
    record {
      fresh = subst (λ v. is_set v old.settings ≡ false) same fresh;
      gives = inr (record {
        spelled = s;
        value = value;
        is_value = subst (λ (x : OptionEntry). IsValue x.shape s value) rows valued;
        gives = ap (λ v. with_setting old v value) same;
        rests = rests;
      });
    }

-- what arguments give that start with no option
pub after_bind : {table : List OptionEntry} {old new : ArgumentsValue} {words rest : List (List ℕ)} → Begins table old words new rest → (word : List ℕ)
    (tail : List (List ℕ)) → words ≡ word ∷ tail → option_of table word ≡ None →
    IsBinding (binding_spelled word) × (new ≡ record old { binds = old.binds ++ binding_spelled word ∷ [] }) × (rest ≡ tail)
after_bind (argument.bind {old = old} {word = w} none is) word tail e no_option =
    let same : w ≡ word = cc in
    (subst (λ v. IsBinding (binding_spelled v)) same is, (cc), (cc))
after_bind (argument.alone {word = w} {entry = r} is fresh form) word tail e no_option =
    let same : w ≡ word = cc in
    absurd (no_row _ r w word same is no_option)
after_bind (argument.valued {word = w} {entry = r} value is fresh valued) word tail e no_option =
    let same : w ≡ word = cc in
    absurd (no_row _ r w word same is no_option)

-- arguments start with one of them, and give one thing with it
pub same_begins : {table : List OptionEntry} {old new other : ArgumentsValue} {words rest others : List (List ℕ)} → Begins table old words new rest →
    Begins table old words other others → (new ≡ other) × (rest ≡ others)
same_begins (argument.bind {word = word} {rest = rest} none is) b = let g = after_bind b word rest refl none in (sym g.1, sym g.2)
same_begins (argument.alone {word = word} {rest = rest} {entry = row} is fresh form) b =
    elim (after_option b word rest row refl is).gives [
      | inl alone ↦ (sym alone.gives, sym alone.rests)
      | inr valued ↦ absurd (no_flag_value row valued.spelled valued.value form valued.is_value)
    ]
same_begins {others = others} (argument.valued {old = old} {word = word} {spelled = spelled} {rest = rest} {entry = row} value is fresh valued) b =
    elim (after_option b word (spelled ∷ rest) row refl is).gives [
      | inl alone ↦ absurd (no_flag_value row spelled value alone.is_flag valued)
      | inr other ↦
          let tails : spelled ∷ rest ≡ other.spelled ∷ others = other.rests in
          let word_same : other.spelled ≡ spelled = cc in
          let rests : rest ≡ others = cc in
          let same = same_value row.shape spelled value other.value valued (subst (λ s. IsValue row.shape s other.value) word_same other.is_value) in
          (ap (with_setting old word) same ∙ sym other.gives, rests)
    ]

-- no arguments start with none
pub no_begins : {table : List OptionEntry} {old new : ArgumentsValue} {words rest : List (List ℕ)} → Begins table old words new rest → words ≡ [] → ⊥
no_begins (argument.bind none is) e = cc
no_begins (argument.alone is fresh form) e = cc
no_begins (argument.valued value is fresh valued) e = cc

-- what no arguments give, and what arguments give after their first bind or option
pub behind_none : {table : List OptionEntry} {old new : ArgumentsValue} {words : List (List ℕ)} → AreArguments table old words new → words ≡ [] → new ≡ old
behind_none argument.none e = refl
behind_none (argument.more b r) e = absurd (no_begins b e)

pub behind_first : {table : List OptionEntry} {old between new : ArgumentsValue} {words rest : List (List ℕ)} → AreArguments table old words new →
    Begins table old words between rest → AreArguments table between rest new
behind_first argument.none b = absurd (no_begins b refl)
behind_first {table = table} {between = between} {new = new} {rest = rest} (argument.more {between = other} {rest = others} c r) b =
    let same = same_begins c b in
    subst (λ m. AreArguments table m rest new) same.0 (subst (λ l. AreArguments table other l new) same.1 r)

-- strings that are arguments by the table start with one
pub first_begins : {table : List OptionEntry} {old new : ArgumentsValue} {words : List (List ℕ)} → AreArguments table old words new →
    ((between : ArgumentsValue) (rest : List (List ℕ)) → Begins table old words between rest → ⊥) → words ≡ []
first_begins argument.none refused = refl
first_begins (argument.more {between = between} {rest = rest} b r) refused = absurd (refused between rest b)

-- arguments give one thing
pub same_arguments : {table : List OptionEntry} {old new other : ArgumentsValue} {words : List (List ℕ)} → AreArguments table old words new → AreArguments table old words other →
    new ≡ other
same_arguments argument.none b = sym (behind_none b refl)
same_arguments (argument.more b r) c = same_arguments r (behind_first c b)
