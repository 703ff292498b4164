-- Arguments are one command at most.
use Rattle.std.proofs.Common.{◌≡◌, ◌≢◌, ◌⊎◌, inl, inr, ℕ, ◌≤◌, pos, List, [], ◌∷◌, length, Some, None, codes, refl, sym, ap, ◌∙◌, subst, arith}
use Rattle.std.proofs.lemmas.Option.{same_Some, none-some}
use Rattle.std.specs.Prelude.{option_and_then}
use Rattle.tilt_base.specs.Number.{integer_spelled}
use Rattle.tilt_cli.specs.Arguments.{ArgumentsValue, no_arguments, AreArguments}
use Rattle.tilt_cli.specs.Command.{CommandValue, IsCommand, IsFile, IsFileCommand, IsTry, command_called, command_with, with_file, tries, try}
use Rattle.tilt_cli.specs.Legal.{command_of_table}
use Rattle.tilt_cli.specs.Tables.{CommandEntry, commands, options}
use Rattle.tilt_cli.proofs.Determined.{same_arguments}

-- `try` isn't in the table
no_try_row : (given : ArgumentsValue) → command_of_table (codes "try") given ≡ None
unfolding command_of_table commands
no_try_row given = refl

-- the parts of a command with a file
pub record SameParts (name file : List ℕ) (rest : List (List ℕ)) (command : CommandValue) (is : IsFileCommand (name ∷ file ∷ rest) command)
    : Type 0 where
  pub named : is.name ≡ name
  pub filed : is.file ≡ file
  pub is_file : IsFile file
  pub are : AreArguments options no_arguments rest is.given

pub parts_same : (name file : List ℕ) (rest : List (List ℕ)) (command : CommandValue) → (is : IsFileCommand (name ∷ file ∷ rest) command) →
    SameParts name file rest command is
parts_same name file rest command is =
    let words : is.name ∷ is.file ∷ is.rest ≡ name ∷ file ∷ rest = sym is.words_are in
    let names : is.name ≡ name = cc in
    let files : is.file ≡ file = cc in
    let rests : is.rest ≡ rest = cc in
    record {
      named = names;
      filed = files;
      is_file = subst IsFile files is.is_file;
      are = subst (λ r. AreArguments options no_arguments r is.given) rests is.are_arguments;
    }

-- it is the one that these arguments call
pub called_with : (name file : List ℕ) (rest : List (List ℕ)) (given : ArgumentsValue) → AreArguments options no_arguments rest given →
    (command : CommandValue) → IsFileCommand (name ∷ file ∷ rest) command → command_called name file given ≡ Some command
called_with name file rest given are command is =
    let same = parts_same name file rest command is in
    let givens : is.given ≡ given = same_arguments same.are are in
    subst (λ n. command_called n file given ≡ Some command) same.named
    (subst (λ f. command_called is.name f given ≡ Some command) same.filed
    (subst (λ g. command_called is.name is.file g ≡ Some command) givens is.is_called))

no_try : (words : List (List ℕ)) (command : CommandValue) → (is : IsFileCommand words command) → is.name ≡ codes "try" → ⊥
no_try words command is name =
    let none : command_called is.name is.file is.given ≡ None =
    ap (option_and_then (λ (row : CommandEntry). command_with row.form is.file is.given)) (ap (λ n. command_of_table n is.given) name ∙ no_try_row is.given) in
    none-some command (sym none ∙ is.is_called)

-- a command is one with a file, or it is `try`
pub record IsTryOf (words : List (List ℕ)) (command : CommandValue) : Type 0 where
  pub seed : ℕ
  pub count : ℕ
  pub is : command ≡ try seed count
  pub words_are : IsTry words seed count

kinds : {words : List (List ℕ)} {command : CommandValue} → IsCommand words command → IsFileCommand words command ⊎ IsTryOf words command
kinds (with_file is) = inl is
kinds (tries {seed = seed} {count = count} is) = inr (record { seed = seed; count = count; is = refl; words_are = is })

module _ (words : List (List ℕ)) where
  pub only_try : (command : CommandValue) (rest : List (List ℕ)) → words ≡ codes "try" ∷ rest → IsCommand words command →
      IsTryOf words command
  only_try command rest e is =
      elim (kinds is) [
        | inl file ↦ let same : file.name ∷ file.file ∷ file.rest ≡ codes "try" ∷ rest = sym file.words_are ∙ e in
            let name : file.name ≡ codes "try" = cc in
            absurd (no_try words command file name)
        | inr a_try ↦ a_try
      ]

  pub only_file : (command : CommandValue) (name : List ℕ) (rest : List (List ℕ)) → words ≡ name ∷ rest → name ≢ codes "try" →
      IsCommand words command → IsFileCommand words command
  only_file command name rest e differs is =
      elim (kinds is) [
        | inl file ↦ file
        | inr a_try ↦ let same : name ∷ rest ≡ codes "try" ∷ a_try.words_are.seed_word ∷ a_try.words_are.count_word ∷ [] = sym e ∙ a_try.words_are.words_are in
            let name_is : name ≡ codes "try" = cc in
            absurd (differs name_is)
      ]

  -- it has at least two arguments
  pub two_words : (command : CommandValue) → IsCommand words command → 2 ≤ length words
  two_words command is =
      elim (kinds is) [
        | inl file ↦ omega (arith, ap length file.words_are)
        | inr a_try ↦ omega (arith, ap length a_try.words_are.words_are)
      ]

  same_file_command : (command other : CommandValue) → IsFileCommand words command → IsFileCommand words other → command ≡ other
  same_file_command command other a b =
      let called = called_with b.name b.file b.rest b.given b.are_arguments command (subst (λ w. IsFileCommand w command) b.words_are a) in
      same_Some command other (sym called ∙ b.is_called)

  same_try : (command other : CommandValue) → IsTryOf words command → IsTryOf words other → command ≡ other
  same_try command other a b =
      let words_same : codes "try" ∷ a.words_are.seed_word ∷ a.words_are.count_word ∷ [] ≡ codes "try" ∷ b.words_are.seed_word ∷ b.words_are.count_word ∷ [] =
      sym a.words_are.words_are ∙ b.words_are.words_are in
      let seed_words : a.words_are.seed_word ≡ b.words_are.seed_word = cc in
      let count_words : a.words_are.count_word ≡ b.words_are.count_word = cc in
      let seeds : pos a.seed ≡ pos b.seed =
      same_Some _ _ (sym a.words_are.is_seed.spelled ∙ ap integer_spelled seed_words ∙ b.words_are.is_seed.spelled) in
      let counts : pos a.count ≡ pos b.count =
      same_Some _ _ (sym a.words_are.is_count.spelled ∙ ap integer_spelled count_words ∙ b.words_are.is_count.spelled) in
      let seeds_same : a.seed ≡ b.seed = cc in
      let counts_same : a.count ≡ b.count = cc in
      a.is ∙ (λ i. try (seeds_same i) (counts_same i)) ∙ sym b.is

  not_both : (command other : CommandValue) → IsFileCommand words command → IsTryOf words other → ⊥
  not_both command other a b =
      let words_same : a.name ∷ a.file ∷ a.rest ≡ codes "try" ∷ b.words_are.seed_word ∷ b.words_are.count_word ∷ [] =
      sym a.words_are ∙ b.words_are.words_are in
      let name : a.name ≡ codes "try" = cc in
      no_try words command a name

  pub one_command : (command other : CommandValue) → IsCommand words command → IsCommand words other → command ≡ other
  one_command command other a b =
      elim (kinds a) [
        | inl file ↦ elim (kinds b) [ inl again ↦ same_file_command command other file again | inr a_try ↦ absurd (not_both command other file a_try) ]
        | inr a_try ↦ elim (kinds b) [ inl file ↦ absurd (not_both other command file a_try) | inr again ↦ same_try command other a_try again ]
      ]
