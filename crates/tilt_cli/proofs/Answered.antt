-- What a result says that is a command of the arguments, or that they are none.
use Rattle.std.proofs.Common.{◌≡◌, ◌≢◌, ℕ, ◌-◌, ◌<◌, ◌≤◌, List, [], ◌∷◌, length, get_or, take, drop}
use Rattle.std.proofs.Common.{Option, Some, None, Result, Ok, Err, IfOk, IfErr, IsErr, MatchOption, MatchResult, codes, String, string_bytes, refl, sym, ap, ◌∙◌, arith}
use Rattle.std.specs.declared.alloc.Global.{Global}
use Rattle.std.specs.Option.{ok_or}
use Rattle.std.proofs.lemmas.List.{take_rest}
use Rattle.tilt_cli.specs.declared.command.Command.{Command}
use Rattle.tilt_cli.specs.declared.fault.WordsFault.{WordsFault}
use Rattle.tilt_cli.specs.declared.fault.WordsFault.TheVariants.{Usage, OutOfMemory}
use Rattle.std.proofs.lemmas.Option.{none-some}
use Rattle.std.specs.Prelude.{option_and_then, option_map}
use Rattle.tilt_cli.specs.Arguments.{ArgumentsValue, no_arguments, AreArguments}
use Rattle.tilt_cli.specs.Command.{CommandValue, IsCommand, IsFile, IsFileCommand, IsTry, IsWithin, command_of, command_with, texts, with_file}
use Rattle.tilt_cli.specs.Legal.{command_of_table}
use Rattle.tilt_cli.specs.Tables.{CommandEntry, options}
use Rattle.tilt_cli.proofs.Within.{within}
use Rattle.tilt_cli.proofs.OneCommand.{called_with, one_command, only_try, only_file}

-- the texts of two words and of the others
pub two_texts : (words : List (String Global)) (a b : String Global) (x y : List ℕ) → 2 ≤ length words → a ≡ get_or words 0 a →
    b ≡ get_or words 1 b → x ≡ string_bytes a → y ≡ string_bytes b →
    texts words ≡ x ∷ y ∷ texts (take (length words - 2) (drop 2 words))
two_texts [] a b x y some p q e f = absurd (omega arith)
two_texts (w ∷ []) a b x y some p q e f = absurd (omega arith)
two_texts (w ∷ v ∷ ws) a b x y some p q e f =
    let first = sym (ap string_bytes p) ∙ sym e in
    let second = sym (ap string_bytes q) ∙ sym f in
    let rest : take (length (w ∷ v ∷ ws) - 2) (drop 2 (w ∷ v ∷ ws)) ≡ ws = take_rest (w ∷ v ∷ ws) 2 in
    λ i. first i ∷ second i ∷ sym (ap texts rest) i

-- no row of the table has the first word and can have the arguments: these are no command that has a file
pub not_called : (name file : List ℕ) (rest : List (List ℕ)) (given : ArgumentsValue) → AreArguments options no_arguments rest given →
    command_of_table name given ≡ None → (command : CommandValue) → IsFileCommand (name ∷ file ∷ rest) command → ⊥
not_called name file rest given are none command is =
    let called = called_with name file rest given are command is in
    none-some command (sym (ap (option_and_then (λ (row : CommandEntry). command_with row.form file given)) none) ∙ called)

-- a row does: the arguments are the command that it makes
pub called : (name file : List ℕ) (rest : List (List ℕ)) (given : ArgumentsValue) (row : CommandEntry) (result : Option Command) → IsFile file →
    AreArguments options no_arguments rest given → command_of_table name given ≡ Some row → option_map command_of result ≡ command_with row.form file given →
    MatchResult (ok_or result Usage) (λ command. IsFileCommand (name ∷ file ∷ rest) (command_of command))
    (λ fault. fault ≡ Usage → (command : CommandValue) → ¬ (IsFileCommand (name ∷ file ∷ rest) command))
called name file rest given row (Some command) is_file are named made = record {
  name = name;
  file = file;
  rest = rest;
  given = given;
  words_are = refl;
  is_file = is_file;
  are_arguments = are;
  is_called = ap (option_and_then (λ (r : CommandEntry). command_with r.form file given)) named ∙ sym made;
}
called name file rest given row None is_file are named made = λ usage command is.
    let none = ap (option_and_then (λ (r : CommandEntry). command_with r.form file given)) named ∙ sym made in
    none-some command (sym none ∙ called_with name file rest given are command is)

-- `try` has one word after the second
pub try_texts : (first second : List ℕ) (rest : List (List ℕ)) (seed count : ℕ) → (is : IsTry (first ∷ second ∷ rest) seed count) →
    (is.seed_word ≡ second) × (is.count_word ∷ [] ≡ rest)
try_texts first second rest seed count is =
    let words : codes "try" ∷ is.seed_word ∷ is.count_word ∷ [] ≡ first ∷ second ∷ rest = sym is.words_are in
    ((cc), (cc))

pub try_count : (rest : List (String Global)) (word : String Global) (text : List ℕ) → word ≡ get_or rest 0 word →
    text ∷ [] ≡ texts rest → text ≡ string_bytes word
try_count [] word text is same = cc
try_count (w ∷ ws) word text is same = let heads : text ≡ string_bytes w = cc in heads ∙ sym (ap string_bytes is)

-- the text of one word
pub one_text : (words : List (String Global)) (word : String Global) (text : List ℕ) → 1 ≤ length words → length words < 2 → word ≡ get_or words 0 word →
    text ≡ string_bytes word → texts words ≡ text ∷ []
one_text [] word text some few is same = absurd (omega arith)
one_text (w ∷ []) word text some few is same = λ i. (sym (ap string_bytes is) ∙ sym same) i ∷ []
one_text (w ∷ v ∷ ws) word text some few is same = absurd (omega arith)

module _ (words : List (List ℕ)) where
  abbrev pub IsAnswer : Result Command WordsFault → Type 0
  IsAnswer result =
      MatchResult result (λ found. IsCommand words (command_of found)) (λ fault. fault ≡ Usage → (command : CommandValue) → ¬ (IsCommand words command))

  pub by_try : (rest : List (List ℕ)) (result : Option Command) → words ≡ codes "try" ∷ rest →
      MatchOption result ((seed count : ℕ) → ¬ (IsTry words seed count)) (λ command. IsCommand words (command_of command)) →
      IsAnswer (ok_or result Usage)
  by_try rest (Some command) e answer = answer
  by_try rest None e answer =
      λ usage command is. let a_try = only_try words command rest e is in answer a_try.seed a_try.count a_try.words_are

  pub by_call : (name : List ℕ) (rest : List (List ℕ)) (result : Result Command WordsFault) → words ≡ name ∷ rest → name ≢ codes "try" →
      MatchResult result (λ command. IsFileCommand words (command_of command)) (λ fault. fault ≡ Usage → (command : CommandValue) → ¬ (IsFileCommand words command)) → IsAnswer result
  by_call name rest (Ok found) e differs answer = with_file answer
  by_call name rest (Err fault) e differs answer = λ usage command is. answer usage command (only_file words command name rest e differs is)

  -- the parts of a result
  pub command_part : (result : Result Command WordsFault) → IsAnswer result → IfOk result (λ found. IsCommand words (command_of found))
  command_part (Ok found) answer = answer
  command_part (Err fault) answer = tt

  pub usage_part : (result : Result Command WordsFault) → IsAnswer result →
      IfErr result (λ fault. fault ≡ Usage → (command : CommandValue) → ¬ (IsCommand words command))
  usage_part (Ok found) answer = tt
  usage_part (Err fault) answer = answer

  pub within_part : (result : Result Command WordsFault) → IsAnswer result → IfOk result (λ found. IsWithin (command_of found))
  within_part (Ok found) answer = within words (command_of found) answer
  within_part (Err fault) answer = tt

  -- no other is returned, and none if the arguments are none
  pub only_part : (result : Result Command WordsFault) → IsAnswer result → (command : CommandValue) → IsCommand words command →
      MatchResult result (λ found. command_of found ≡ command) (λ fault. fault ≡ OutOfMemory)
  only_part (Ok found) answer command is = one_command words (command_of found) command answer is
  only_part (Err Usage) answer command is = absurd (answer refl command is)
  only_part (Err OutOfMemory) answer command is = refl

  pub none_part : (result : Result Command WordsFault) → IsAnswer result →
      ((command : CommandValue) → ¬ (IsCommand words command)) → IsErr result
  none_part (Ok found) answer none = absurd (none (command_of found) answer)
  none_part (Err fault) answer none = refl
