-- Whether arguments are a command is decided: they are one, or none.
use Rattle.std.proofs.Common.{◌≡◌, ◌≢◌, ◌⊎◌, inl, inr, ℕ, suc, zero, ◌<◌, ◌≤◌, pos, true, false}
use Rattle.std.proofs.Common.{List, [], ◌∷◌, ◌++◌, length, Option, None, Some, codes, refl, sym, subst, arith}
use Rattle.std.proofs.lemmas.Option.{none-some}
use Rattle.tilt_lexer.specs.Word.{IsWord, is_word}
use Rattle.tilt_cli.specs.Arguments.{ArgumentsValue, no_arguments, Begins, AreArguments, with_setting}
use Rattle.tilt_cli.specs.Arguments as argument
use Rattle.tilt_cli.specs.Binding.{Binding, IsBinding, binding_spelled}
use Rattle.tilt_cli.specs.Command.{CommandValue, IsCommand, IsFile, IsFileCommand, command_called, try, with_file, tries}
use Rattle.tilt_cli.specs.Number.{IsNumber}
use Rattle.tilt_cli.specs.Options.{IsValue, flag, is_set}
use Rattle.tilt_cli.specs.Tables.{OptionEntry, option_of, options}
use Rattle.tilt_cli.specs.declared.option_table.Shape.{Shape}
use Rattle.tilt_cli.specs.declared.option_table.Shape.TheVariants as shape
use Rattle.tilt_cli.proofs.Answered.{try_texts}
use Rattle.tilt_cli.proofs.Determined.{after_bind, after_option, no_begins, behind_first, first_begins}
use Rattle.tilt_cli.proofs.OneCommand.{called_with, only_try, only_file, parts_same, two_words}
use Rattle.tilt_cli.proofs.ValuesDecided.{Either, Known, both, known_as, part_or_none, same_bools, same_bytes, same_numbers, some_bytes, value_or_none}

known_binding : (binding : Binding) → Known (IsBinding binding)
known_binding binding =
    known_as (λ (h : IsWord binding.name × (binding.file ≢ [])). record { named = h.0; file_named = h.1 }) (λ is. (is.named, is.file_named))
    (both (same_bools (is_word binding.name) true) (some_bytes binding.file))

record Begun (table : List OptionEntry) (old : ArgumentsValue) (words : List (List ℕ)) : Type 0 where
  new : ArgumentsValue
  rest : List (List ℕ)
  begins : Begins table old words new rest
  shorter : length rest < length words

abbrev MayBegin : List OptionEntry → ArgumentsValue → List (List ℕ) → Type 0
MayBegin table old words = Begun table old words ⊎ ((new : ArgumentsValue) (rest : List (List ℕ)) → Begins table old words new rest → ⊥)

known_flag : (form : Shape) → Known (form ≡ shape.Flag)
known_flag shape.Flag = inl refl
known_flag form = inr (λ e. cc)

module _ (table : List OptionEntry) (old : ArgumentsValue) (word : List ℕ) where
  by_bind : (tail : List (List ℕ)) → option_of table word ≡ None → MayBegin table old (word ∷ tail)
  by_bind tail no_option =
      elim (known_binding (binding_spelled word)) [
        | inl is ↦ inl (record {
          new = record old { binds = old.binds ++ binding_spelled word ∷ [] };
          rest = tail;
          begins = argument.bind no_option is;
          shorter = omega arith;
        })
        | inr none ↦ inr (λ new rest begins. none (after_bind begins word tail refl no_option).0)
      ]

  module _ (row : OptionEntry) (named : option_of table word ≡ Some row) where
    by_flag : (tail : List (List ℕ)) → is_set word old.settings ≡ false → row.shape ≡ shape.Flag → MayBegin table old (word ∷ tail)
    by_flag tail fresh form =
        inl (record { new = with_setting old word flag; rest = tail; begins = argument.alone named fresh form; shorter = omega arith })

    by_value : (tail : List (List ℕ)) → is_set word old.settings ≡ false → (row.shape ≡ shape.Flag → ⊥) → MayBegin table old (word ∷ tail)
    by_value [] fresh form =
        inr (λ new rest begins. elim (after_option begins word [] row refl named).gives [
          | inl alone ↦ form alone.is_flag
          | inr valued ↦ let none : [] ≡ valued.spelled ∷ rest = valued.rests in cc
        ])
    by_value (spelled ∷ tail) fresh form =
        elim (value_or_none row.shape spelled) [
          | inl value ↦ inl (record {
            new = with_setting old word value.0;
            rest = tail;
            begins = argument.valued value.0 named fresh value.1;
            shorter = omega arith;
          })
          | inr none ↦ inr (λ new rest begins. elim (after_option begins word (spelled ∷ tail) row refl named).gives [
            | inl alone ↦ form alone.is_flag
            | inr valued ↦
                let tails : spelled ∷ tail ≡ valued.spelled ∷ rest = valued.rests in
                let same : valued.spelled ≡ spelled = cc in
                none valued.value (subst (λ s. IsValue row.shape s valued.value) same valued.is_value)
          ])
        ]

    by_option : (tail : List (List ℕ)) → MayBegin table old (word ∷ tail)
    by_option tail =
        elim (same_bools (is_set word old.settings) false) [
          | inl fresh ↦ elim (known_flag row.shape) [ inl form ↦ by_flag tail fresh form | inr form ↦ by_value tail fresh form ]
          | inr set ↦ inr (λ new rest begins. set (after_option begins word tail row refl named).fresh)
        ]

  by_row : (row : Option OptionEntry) (tail : List (List ℕ)) → option_of table word ≡ row → MayBegin table old (word ∷ tail)
  by_row None tail e = by_bind tail e
  by_row (Some row) tail e = by_option row e tail

begun_or_none : (table : List OptionEntry) (old : ArgumentsValue) (words : List (List ℕ)) → MayBegin table old words
begun_or_none table old [] = inr (λ new rest begins. no_begins begins refl)
begun_or_none table old (word ∷ tail) = by_row table old word (option_of table word) tail refl

arguments_within : (table : List OptionEntry) (most : ℕ) (old : ArgumentsValue) (words : List (List ℕ)) → length words ≤ most
    → Either (AreArguments table old words)
arguments_within table most old [] fits = inl (old, argument.none)
arguments_within table zero old (word ∷ tail) fits = absurd (omega arith)
arguments_within table (suc most) old (word ∷ tail) fits =
    elim (begun_or_none table old (word ∷ tail)) [
      | inl b ↦ elim (arguments_within table most b.new b.rest (let shorter = b.shorter in omega arith)) [
        | inl s ↦ inl (s.0, argument.more b.begins s.1)
        | inr none ↦ inr (λ new are. none new (behind_first are b.begins))
      ]
      | inr none ↦ inr (λ new are. let empty : word ∷ tail ≡ [] = first_begins are none in cc)
    ]

arguments_or_none : (table : List OptionEntry) (words : List (List ℕ)) → Either (AreArguments table no_arguments words)
arguments_or_none table words = arguments_within table (length words) no_arguments words (omega arith)

-- commands with a file
known_file : (file : List ℕ) → Known (IsFile file)
known_file [] = inr (λ is. is.named refl)
known_file (a ∷ []) = inl (record { named = λ e. cc; no_option = λ rest e. cc })
known_file (a ∷ b ∷ file) =
    elim (both (same_numbers a 45) (same_numbers b 45)) [
      | inl dashes ↦ inr (λ is. is.no_option file (λ i. dashes.0 i ∷ dashes.1 i ∷ file))
      | inr n ↦ inl (record {
        named = λ e. cc;
        no_option = λ rest e. let first : a ≡ 45 = cc in let second : b ≡ 45 = cc in n (first, second);
      })
    ]

some_or_none : {A : Type 0} (found : Option A) → Either (λ x. found ≡ Some x)
some_or_none None = inr (λ x e. none-some x e)
some_or_none (Some x) = inl (x, refl)

file_or_none : (name file : List ℕ) (rest : List (List ℕ)) → Either (IsFileCommand (name ∷ file ∷ rest))
file_or_none name file rest =
    elim (known_file file) [
      | inl is_file ↦ elim (arguments_or_none options rest) [
        | inl given ↦ elim (some_or_none (command_called name file given.0)) [
          | inl called ↦ inl (
            called.0,
            record {
              name = name;
              file = file;
              rest = rest;
              given = given.0;
              words_are = refl;
              is_file = is_file;
              are_arguments = given.1;
              is_called = called.1;
            },
          )
          | inr none ↦ inr (λ command is. none command (called_with name file rest given.0 given.1 command is))
        ]
        | inr none ↦ inr (λ command is. let same = parts_same name file rest command is in none is.given same.are)
      ]
      | inr none ↦ inr (λ command is. none (parts_same name file rest command is).is_file)
    ]

-- `try`
try_or_none : (second : List ℕ) (rest : List (List ℕ)) → Either (IsCommand (codes "try" ∷ second ∷ rest))
try_or_none second [] = inr (λ command is.
    let a_try = only_try (codes "try" ∷ second ∷ []) command (second ∷ []) refl is in
    let same = (try_texts (codes "try") second [] a_try.seed a_try.count a_try.words_are).1 in
    cc)
try_or_none second (third ∷ fourth ∷ rest) = inr (λ command is.
    let a_try = only_try (codes "try" ∷ second ∷ third ∷ fourth ∷ rest) command (second ∷ third ∷ fourth ∷ rest) refl is in
    let same = (try_texts (codes "try") second (third ∷ fourth ∷ rest) a_try.seed a_try.count a_try.words_are).1 in
    cc)
try_or_none second (third ∷ []) =
    elim (part_or_none 2147483647 (pos 0) second) [
      | inl seed ↦ elim (part_or_none 1000000 (pos 0) third) [
        | inl count ↦ inl (
          try seed.0 count.0,
          tries (record {
            seed_word = second;
            count_word = third;
            words_are = refl;
            is_seed = seed.1;
            is_count = count.1;
          }),
        )
        | inr none ↦ inr (λ command is.
            let a_try = only_try (codes "try" ∷ second ∷ third ∷ []) command (second ∷ third ∷ []) refl is in
            let same = (try_texts (codes "try") second (third ∷ []) a_try.seed a_try.count a_try.words_are).1 in
            let word : a_try.words_are.count_word ≡ third = cc in
            none a_try.count (subst (λ w. IsNumber (pos 0) (pos 1000000) w (pos a_try.count)) word a_try.words_are.is_count))
      ]
      | inr none ↦ inr (λ command is.
          let a_try = only_try (codes "try" ∷ second ∷ third ∷ []) command (second ∷ third ∷ []) refl is in
          let word = (try_texts (codes "try") second (third ∷ []) a_try.seed a_try.count a_try.words_are).0 in
          none a_try.seed (subst (λ w. IsNumber (pos 0) (pos 2147483647) w (pos a_try.seed)) word a_try.words_are.is_seed))
    ]

-- all arguments
pub command_or_none : (words : List (List ℕ)) → ((command : CommandValue) × IsCommand words command) ⊎ ((command : CommandValue) → ¬ (IsCommand words command))
command_or_none [] = inr (λ command is. let two = two_words [] command is in omega arith)
command_or_none (name ∷ []) = inr (λ command is. let two = two_words (name ∷ []) command is in omega arith)
command_or_none (name ∷ second ∷ rest) =
    elim (same_bytes name (codes "try")) [
      | inl e ↦ subst (λ n. Either (IsCommand (n ∷ second ∷ rest))) (sym e) (try_or_none second rest)
      | inr no_try ↦ elim (file_or_none name second rest) [
        | inl c ↦ inl (c.0, with_file c.1)
        | inr none ↦ inr (λ command is. none command (only_file (name ∷ second ∷ rest) command name (second ∷ rest) refl no_try is))
      ]
    ]
