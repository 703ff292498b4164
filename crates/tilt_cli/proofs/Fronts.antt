-- What arguments start with, from what was read of them.
use Rattle.std.proofs.Common.{◌≡◌, ℕ, ◌<◌, inl, inr, true, false, List, [], ◌∷◌, length, get_or, drop, Some, String, string_bytes, sym, ap, ◌∙◌, subst, arith}
use Rattle.std.specs.Prelude.{find}
use Rattle.std.specs.Str.{bytes_eq}
use Rattle.std.specs.declared.alloc.Global.{Global}
use Rattle.std.proofs.lemmas.Bool.{cases_Bool, false≢true}
use Rattle.std.proofs.lemmas.Option.{none-some, same_Some}
use Rattle.std.proofs.lemmas.Slice.Eq.{bytes_eq-Decides}
use Rattle.tilt_cli.specs.Arguments.{ArgumentsValue, Begins, with_setting}
use Rattle.tilt_cli.specs.Arguments as argument
use Rattle.tilt_cli.specs.Command.{texts}
use Rattle.tilt_cli.specs.Options.{IsValue, OptionValue, flag, is_set}
use Rattle.tilt_cli.specs.Tables.{OptionEntry, option_of}
use Rattle.tilt_cli.specs.declared.option_table.Shape.TheVariants as shape
use Rattle.tilt_cli.proofs.Determined.{after_option}

-- the text of the first word, and the others
pub first_text : (words : List (String Global)) (word : String Global) (text : List ℕ) → 0 < length words →
    word ≡ get_or words 0 word → text ≡ string_bytes word → texts words ≡ text ∷ drop 1 (texts words)
first_text [] word text some is same = absurd (omega arith)
first_text (w ∷ ws) word text some is same = λ i. (sym (ap string_bytes is) ∙ sym same) i ∷ texts ws

-- equal arguments start so, and give the same
pub moved : {table : List OptionEntry} {old new new' : ArgumentsValue} {words words' rest : List (List ℕ)} → Begins table old words new rest → words' ≡ words →
    new' ≡ new → Begins table old words' new' rest
moved {table} {old} {new} {new'} {words} {words'} {rest} begins w n =
    subst (λ v. Begins table old v new' rest) (sym w) (subst (λ m. Begins table old words m rest) (sym n) begins)

-- the option that is found is the word
found_word : (entries : List OptionEntry) (word : List ℕ) (entry : OptionEntry) → find (λ (e : OptionEntry). bytes_eq e.word word) entries ≡ Some entry →
    entry.word ≡ word
found_word [] word entry e = absurd (none-some entry e)
found_word (first ∷ entries) word entry e =
    elim (cases_Bool (bytes_eq first.word word)) [
      | inl so ↦ let same = same_Some first entry (rw so at e) in
          ap (λ (x : OptionEntry). x.word) (sym same) ∙ (bytes_eq-Decides first.word word).0 so
      | inr not ↦ found_word entries word entry (rw not at e)
    ]

pub option_word : (table : List OptionEntry) (word : List ℕ) (entry : OptionEntry) → option_of table word ≡ Some entry → entry.word ≡ word
unfolding option_of
option_word table word entry e = found_word table word entry e

-- the arguments start with an option
module _ (table : List OptionEntry) (old : ArgumentsValue) (words : List (List ℕ)) (word : List ℕ) (tail : List (List ℕ)) (row : OptionEntry)
    (front : words ≡ word ∷ tail) (named : option_of table word ≡ Some row) where
  same_word : row.word ≡ word
  same_word = option_word table word row named

  pub set_before : is_set row.word old.settings ≡ true → (new : ArgumentsValue) (rest : List (List ℕ)) → Begins table old words new rest → ⊥
  set_before set new rest begins =
      let fresh = (after_option begins word tail row front named).fresh in
      false≢true (sym fresh ∙ subst (λ w. is_set w old.settings ≡ true) same_word set)

  pub sets_flag : (new : ArgumentsValue) → is_set row.word old.settings ≡ false → row.shape ≡ shape.Flag →
      new ≡ with_setting old row.word flag → Begins table old words new tail
  sets_flag new fresh kind gives =
      moved (argument.alone named (subst (λ w. is_set w old.settings ≡ false) same_word fresh) kind) front
      (gives ∙ ap (λ w. with_setting old w flag) same_word)

  pub sets_value : (new : ArgumentsValue) (spelled : List ℕ) (more : List (List ℕ)) (value : OptionValue) → tail ≡ spelled ∷ more →
      is_set row.word old.settings ≡ false → IsValue row.shape spelled value → new ≡ with_setting old row.word value → Begins table old words new more
  sets_value new spelled more value second fresh is gives =
      moved (argument.valued value named (subst (λ w. is_set w old.settings ≡ false) same_word fresh) is) (front ∙ ap (λ t. word ∷ t) second)
      (gives ∙ ap (λ w. with_setting old w value) same_word)
