-- A run over two shelves that hold the same: it saves nothing, and its text has one length.
use mathlib.Core.Path.{fun_ext}
use Rattle.std.proofs.Common.{◌≡◌, ◌∙◌, inl, inr, List, [], ℕ, ℤ, Bool, length, Option, None, Some, unwrap_or, refl, sym, ap, subst}
use Rattle.std.proofs.lemmas.Bool.{cases_Bool}
use Rattle.std.proofs.lemmas.Bool.Decides.{not_from_Decides}
use Rattle.std.proofs.lemmas.Slice.Eq.{bytes_eq-Decides}
use Rattle.std.specs.Str.{bytes_eq}
use Rattle.tilt_app.specs.Outcome.{IsOutcome, IsRowOutcome, no_command, does}
use Rattle.tilt_commands.specs.Table.{row_of, run_row}
use Rattle.tilt_load.specs.FileCommand.{IsFileOutcome, no_file, no_inputs, done}
use Rattle.tilt_outside.specs.HeldFiles.{HeldFile, HoldsInstead, bytes_held, content_of}
use Rattle.tilt_printed.specs.Saving.{SaveValue, outcome_of}
use Rattle.tilt_report.specs.Report.{Outcome, printed_and_saved}
use Rattle.tilt_stream.specs.Snap.{Snapshot}
use Rattle.tilt_watch.specs.Watch.{Watch, watches}
use Rattle.tilt_cli.specs.Binding.{Binding}
use Rattle.tilt_cli.specs.Command.{CommandValue, IsCommand, run}

module _ (a b c d : List HeldFile) (q s x y : List ℕ) (l m n o : ℕ) (first : HoldsInstead [] a q x l) (second : HoldsInstead a b s y m)
    (first' : HoldsInstead [] c q x n) (second' : HoldsInstead c d s y o) where
  first_held : (name : List ℕ) → bytes_held a name ≡ bytes_held c name
  first_held name = elim (cases_Bool (bytes_eq name q)) [
    | inl is ↦ subst (λ (k : List ℕ). bytes_held a k ≡ bytes_held c k) (sym ((bytes_eq-Decides name q).0 is)) (first.held ∙ sym first'.held)
    | inr other ↦ first.others name (not_from_Decides (bytes_eq name q) (bytes_eq-Decides name q) other) ∙ sym (first'.others name (not_from_Decides (bytes_eq name q) (bytes_eq-Decides name q) other))
  ]

  both_held : (name : List ℕ) → bytes_held b name ≡ bytes_held d name
  both_held name = elim (cases_Bool (bytes_eq name s)) [
    | inl is ↦ subst (λ (k : List ℕ). bytes_held b k ≡ bytes_held d k) (sym ((bytes_eq-Decides name s).0 is)) (second.held ∙ sym second'.held)
    | inr other ↦ second.others name (not_from_Decides (bytes_eq name s) (bytes_eq-Decides name s) other) ∙ first_held name ∙ sym (second'.others name (not_from_Decides (bytes_eq name s)
        (bytes_eq-Decides name s) other))
  ]

  -- two files that were held one after the other
  pub same_files : content_of b ≡ content_of d
  same_files = fun_ext (λ name. ap (λ (held : Option (List ℕ)). unwrap_or held []) (both_held name))

-- nobody watches
pub unwatched : {W : Type 0} (pair : W → ℤ × ℤ) (step : W → ℤ × ℤ → Snapshot → ℤ × ℤ) (ends : W → ℤ × ℤ → Bool) (list : List W) → list ≡ [] → (words : List (List ℕ)) (files : List ℕ → List ℕ)
    (o : Outcome) → IsOutcome words files (watches pair step ends list) o → IsOutcome words files [] o
unwatched {W} pair step ends list none words files o is = subst (λ (l : List W). IsOutcome words files (watches pair step ends l) o) none is

row_saves_nothing : (files : List ℕ → List ℕ) (query : List ℕ) (binds : List Binding) (text name bytes : List ℕ) (o : Outcome)
    → IsFileOutcome (run_row query) files query binds o → o ≡ printed_and_saved text name bytes → ⊥
row_saves_nothing files query binds text name bytes o (no_file why is) same = cc
row_saves_nothing files query binds text name bytes o (no_inputs says why taken is) same = cc
row_saves_nothing files query binds text name bytes o (done says rows taken read gives) same = let both = sym gives.2 ∙ same in cc

module _ (words : List (List ℕ)) (files : List ℕ → List ℕ) (watchers : List Watch) (query : List ℕ) (binds : List Binding) (plain : Bool) (cuts : List ℤ)
    (command : CommandValue) (is : IsCommand words command) (runs : command ≡ run query binds plain cuts)
    (one : (other another : CommandValue) → IsCommand words other → IsCommand words another → other ≡ another) where
  outcome_saves_nothing : (text name bytes : List ℕ) (o : Outcome) → IsOutcome words files watchers o → o ≡ printed_and_saved text name bytes → ⊥
  outcome_saves_nothing text name bytes o (no_command none) same = none command is
  outcome_saves_nothing text name bytes o (does other its outcome) same =
      row_saves_nothing files query binds text name bytes o
      (subst (λ (c : CommandValue). IsRowOutcome files watchers (row_of c) o) (one other command its is ∙ runs) outcome) same

  -- a run saves nothing
  pub saves_nothing : (text : List ℕ) (save : SaveValue) → IsOutcome words files watchers (outcome_of text (Some save)) → ⊥
  saves_nothing text save outcome = outcome_saves_nothing text save.name save.bytes (outcome_of text (Some save)) outcome refl

-- a text that is printed has one length, whatever is saved after it
pub same_length : (text other : List ℕ) (save its_save : Option SaveValue) → outcome_of text save ≡ outcome_of other its_save → length text ≡ length other
same_length text other None None same = cc
same_length text other None (Some its_save) same = absurd (cc same)
same_length text other (Some save) None same = absurd (cc same)
same_length text other (Some save) (Some its_save) same = cc
