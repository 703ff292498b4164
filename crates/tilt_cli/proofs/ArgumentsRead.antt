-- What the loop over the arguments keeps: the arguments so far gave these settings, and with the rest they give what all give.
use Rattle.std.proofs.Common.{◌≡◌, ℕ, ◌+◌, ◌-◌, ◌<◌, ◌≤◌, List, length, take, drop, String, string_bytes, sym, ap, ◌∙◌, subst, arith, length-drop}
use Rattle.std.specs.declared.alloc.Global.{Global}
use Rattle.std.proofs.lemmas.List.{take_rest, drop_all, drop-drop, drop-map}
use Rattle.tilt_cli.specs.Arguments.{ArgumentsValue, no_arguments, Begins, AreArguments, none, more}
use Rattle.tilt_cli.specs.Command.{texts}
use Rattle.tilt_cli.specs.Tables.{OptionEntry}
use Rattle.tilt_cli.proofs.Determined.{behind_first, first_begins, same_arguments}

pub record ArgumentsBefore (table : List OptionEntry) (words : List (List ℕ)) (at : ℕ) (given : ArgumentsValue) : Type 0 where
  pub within : at ≤ length words
  pub go_on : (new : ArgumentsValue) → AreArguments table given (drop at words) new → AreArguments table no_arguments words new
  pub back : (new : ArgumentsValue) → AreArguments table no_arguments words new → AreArguments table given (drop at words) new

-- the texts of the arguments after a place
pub texts_behind : (words : List (String Global)) (at : ℕ) → texts (take (length words - at) (drop at words)) ≡ drop at (texts words)
texts_behind words at = ap texts (take_rest words at) ∙ sym (drop-map (λ w. string_bytes w) at words)

module _ (table : List OptionEntry) (words : List (List ℕ)) where
  module _ (at : ℕ) (given : ArgumentsValue) (before : ArgumentsBefore table words at given) where
    pub before_next : (count : ℕ) (new : ArgumentsValue) → count ≤ length (drop at words) →
        Begins table given (drop at words) new (drop count (drop at words)) → ArgumentsBefore table words (at + count) new
    before_next count new fits begins =
        let same = drop-drop count at words in
        record {
          within = omega (arith, before.within, length-drop at words);
          go_on = λ all are. before.go_on all (more begins (subst (λ l. AreArguments table new l all) (sym same) are));
          back = λ all are. subst (λ l. AreArguments table new l all) same (behind_first (before.back all are) begins);
        }

    pub all_read : length words ≤ at → AreArguments table no_arguments words given
    all_read end = before.go_on given (subst (λ l. AreArguments table given l given) (sym (drop_all at words end)) none)

    pub only_read : length words ≤ at → (new : ArgumentsValue) → AreArguments table no_arguments words new → new ≡ given
    only_read end new are = same_arguments are (all_read end)

    pub refused : at < length words → ((new : ArgumentsValue) (rest : List (List ℕ)) → Begins table given (drop at words) new rest → ⊥) →
        (new : ArgumentsValue) → AreArguments table no_arguments words new → ⊥
    refused some none_begins new are =
        let empty = first_begins (before.back new are) none_begins in
        omega (arith, ap length empty, length-drop at words)
