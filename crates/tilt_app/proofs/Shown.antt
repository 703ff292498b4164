-- What a command's result says of its command: its outcome, why there is none, and what is shown.
use Rattle.std.proofs.Common.{◌≡◌, ◌++◌, ◌∙◌, List, [], ℕ, Option, None, Some, Result, Ok, Err, refl, sym, ap}
use Rattle.std.proofs.lemmas.List.{append-nil}
use Rattle.std.proofs.lemmas.Result.{IfErr-weaker, IfOk-weaker}
use Rattle.std.specs.Prelude.{⊤, IfOk, IfErr, IsSome}
use Rattle.tilt_app.specs.Answered.{DoesRow, IsAnswered}
use Rattle.tilt_app.specs.Cause.{IsUnanswered}
use Rattle.tilt_app.specs.Change.{ShelfChange}
use Rattle.tilt_app.specs.Outcome.{HasRowTurn, IsRowOutcome, IsRowRead, Saves, Shows, Streams}
use Rattle.tilt_app.specs.Show.{IsShow}
use Rattle.tilt_commands.specs.Table.{Row, reads, reads_last, makes, row_of, run_row, watch_row}
use Rattle.tilt_load.specs.Does.{Does, Reading}
use Rattle.tilt_load.specs.FileCommand.{FileCommand, IsFileOutcome, no_file, no_inputs, done}
use Rattle.tilt_load.specs.Load.{IsLoadFault}
use Rattle.tilt_printed.specs.Answer.{Fits, comes_to, save_of}
use Rattle.tilt_printed.specs.Saving.{outcome_of}
use Rattle.tilt_printed.specs.Show.{shown_of}
use Rattle.tilt_printed.specs.Text.{printed_text}
use Rattle.tilt_printed.specs.declared.answered.Answered.{Answered}
use Rattle.tilt_printed.specs.declared.printed.Printed.{Printed}
use Rattle.tilt_printed.specs.declared.printed.Printed.TheVariants.{Whole, Run, Rings, Watched}
use Rattle.tilt_printed.specs.declared.save.Save.{Save}
use Rattle.tilt_report.specs.Report.{Outcome, Report, usage, refusal, read_fault, write_fault, save_fault, out_of_memory, printed, refused, report_of}
use Rattle.tilt_report.specs.declared.fault.Fault.{Fault}
use Rattle.tilt_commands.specs.SavedCut.{SavedCutValue}
use Rattle.tilt_stream.specs.Snap.{Snapshot}
use Rattle.tilt_stream.specs.Text.{text_of}
use Rattle.tilt_watch.specs.Watch.{Watch}
use Rattle.tilt_cli.specs.Binding.{Binding}
use Rattle.tilt_cli.specs.Command.{CommandValue, watch}

module _ (shelf : Reading) (keeps : Answered → Type 0) (result : Result Answered Fault) where
  -- the outcome of a row
  pub row_made : (row : Row) → DoesRow row keeps shelf result → shelf.tells
      → IfOk result (λ answer. (watchers : List Watch) → IsRowOutcome shelf.files watchers row (comes_to watchers answer))
  row_made (reads file binds command) does told = does.made told
  row_made (reads_last file binds last command) does told = does.made told
  row_made (makes is_outcome) does told = does.made

  pub row_kept : (row : Row) → DoesRow row keeps shelf result → IfOk result keeps
  row_kept (reads file binds command) does = does.kept
  row_kept (reads_last file binds last command) does = does.kept
  row_kept (makes is_outcome) does = does.kept

  pub row_rest : (row : Row) → DoesRow row keeps shelf result → shelf.rest
  row_rest (reads file binds command) does = does.rest
  row_rest (reads_last file binds last command) does = does.rest
  row_rest (makes is_outcome) does = does.rest

  -- each of its files was read once
  pub row_read : (row : Row) → DoesRow row keeps shelf result → shelf.tells
      → IfOk result (λ _. (watchers : List Watch) × IsRowRead shelf.files watchers row shelf.given_before shelf.given_after)
  row_read (reads file binds command) does told =
      IfOk-weaker result _ _ (λ answer read. let one = read [] in ([], (one.count, one.bytes, one.given))) (does.read told)
  row_read (reads_last file binds last command) does told = IfOk-weaker result _ _ (λ answer read. ([], read)) (does.read told)
  row_read (makes is_outcome) does told = IfOk-weaker result _ _ (λ answer kept. ([], does.given)) does.kept

  memory_fault : (tells : Type 0) (is_refused : _) (has_turn : List ℕ → Type 0) (before after : ℕ) (report : Report) → report ≡ out_of_memory
      → IsLoadFault tells is_refused has_turn before after report
  memory_fault tells is_refused has_turn before after report is = rw is tt

  -- why a row gives nothing
  pub row_undone : (row : Row) → DoesRow row keeps shelf result → (watchers : List Watch)
      → IfErr result (λ fault. IsLoadFault shelf.tells (λ why. IsRowOutcome shelf.files watchers row (refused (refusal why)))
      (HasRowTurn shelf.tells shelf.files watchers row) shelf.faults_before shelf.faults_after (report_of fault))
  row_undone (reads file binds command) does watchers = does.fault watchers
  row_undone (reads_last file binds last command) does watchers = does.fault
  row_undone (makes is_outcome) does watchers =
      IfErr-weaker result _ _ (λ fault is. memory_fault shelf.tells _ _ shelf.faults_before shelf.faults_after (report_of fault) is) does.fault

module _ (command : CommandValue) (shelf : Reading) where
  -- the outcome that a result is
  pub answer_made : (answer : Answered) → IsAnswered command shelf (Ok answer) → shelf.tells → (watchers : List Watch)
      → IsRowOutcome shelf.files watchers (row_of command) (comes_to watchers answer)
  answer_made answer does told = row_made shelf _ (Ok answer) (row_of command) does told

  pub answer_fits : (answer : Answered) → IsAnswered command shelf (Ok answer) → Fits (Streams command) (Shows command) (Saves command) answer
  answer_fits answer does = row_kept shelf _ (Ok answer) (row_of command) does

  pub answer_rest : (answer : Answered) → IsAnswered command shelf (Ok answer) → shelf.rest
  answer_rest answer does = row_rest shelf _ (Ok answer) (row_of command) does

  pub answer_read : (answer : Answered) → IsAnswered command shelf (Ok answer) → shelf.tells
      → (watchers : List Watch) × IsRowRead shelf.files watchers (row_of command) shelf.given_before shelf.given_after
  answer_read answer does told = row_read shelf _ (Ok answer) (row_of command) does told

  -- why there is none
  pub answer_undone : (fault : Fault) → IsAnswered command shelf (Err fault) → (watchers : List Watch)
      → IsLoadFault shelf.tells (λ why. IsRowOutcome shelf.files watchers (row_of command) (refused (refusal why)))
      (HasRowTurn shelf.tells shelf.files watchers (row_of command)) shelf.faults_before shelf.faults_after (report_of fault)
  answer_undone fault does watchers = row_undone shelf _ (Err fault) (row_of command) does watchers

-- why there is no result, by why files aren't taken
pub load_unanswered : (is_outcome : Outcome → Type 0) (has_turn has_turn' : List ℕ → Type 0) (shelf : ShelfChange) → ((name : List ℕ) → has_turn name → has_turn' name)
    → (report : Report) → IsLoadFault shelf.tells (λ why. is_outcome (refused (refusal why))) has_turn shelf.reads_before shelf.reads_after report
    → IsUnanswered is_outcome has_turn' shelf report
load_unanswered is_outcome has_turn has_turn' shelf more usage fault = absurd fault
load_unanswered is_outcome has_turn has_turn' shelf more (refusal why) fault = fault
load_unanswered is_outcome has_turn has_turn' shelf more (read_fault name) fault = (fault.0, more name fault.1)
load_unanswered is_outcome has_turn has_turn' shelf more write_fault fault = absurd fault
load_unanswered is_outcome has_turn has_turn' shelf more (save_fault name) fault = absurd fault
load_unanswered is_outcome has_turn has_turn' shelf more out_of_memory fault = tt

none_shown : (shown : Option (List Snapshot)) → (IsSome shown → ⊥) → shown ≡ None
none_shown None none = refl
none_shown (Some list) none = absurd (none refl)

none_saved : (save : Option Save) → (IsSome save → ⊥) → save ≡ None
none_saved None none = refl
none_saved (Some save) none = absurd (none refl)

same_text : (text other : List ℕ) → printed text ≡ printed other → text ≡ other
same_text text other same = cc

-- if `watch` prints the text of snapshots without figures, since nobody watches, that is what `run` prints
run_of_watch : (files : List ℕ → List ℕ) (query : List ℕ) (binds : List Binding) (list : List Snapshot) (o : Outcome) → IsFileOutcome (watch_row query []) files query binds o
    → o ≡ printed (text_of list ++ []) → IsFileOutcome (run_row query) files query binds (printed (text_of list))
run_of_watch files query binds list o (no_file why is) same = absurd (cc same)
run_of_watch files query binds list o (no_inputs says why taken is) same = absurd (cc same)
run_of_watch files query binds list o (done says rows taken read gives) same =
    let texts : text_of gives.0 ++ [] ≡ text_of list ++ [] = same_text (text_of gives.0 ++ []) (text_of list ++ []) (sym gives.2 ∙ same) in
    let plain : text_of gives.0 ≡ text_of list = sym (append-nil (text_of gives.0)) ∙ texts ∙ append-nil (text_of list) in
    done says rows taken read (gives.0, gives.1, ap printed (sym plain))

module _ (tells : Type 0) (files : List ℕ → List ℕ) where
  -- `watch` shows the list that is printed
  shows_list : (query : List ℕ) (binds : List Binding) (plain : _) (list : List Snapshot) (o : Outcome) → (tells → IsFileOutcome (watch_row query []) files query binds o)
      → o ≡ printed (text_of list ++ []) → IsShow tells files (watch query binds plain) (Some list)
  shows_list query binds plain list o made same = (list, refl, λ t. run_of_watch files query binds list o (made t) same)

  -- what `watch` shows
  watch_shows : (query : List ℕ) (binds : List Binding) (plain : _) (text : Printed) (save : Option Save) → save ≡ None → IsSome (shown_of text)
      → (tells → IsFileOutcome (watch_row query []) files query binds (outcome_of (printed_text [] text) (save_of save))) → IsShow tells files (watch query binds plain) (shown_of text)
  watch_shows query binds plain (Watched pipe) save none some made =
      shows_list query binds plain _ _ made (ap (λ (s : Option Save). outcome_of (printed_text [] (Watched pipe)) (save_of s)) none)
  watch_shows query binds plain (Whole text) save none some made = absurd (cc some)
  watch_shows query binds plain (Run pipe) save none some made = absurd (cc some)
  watch_shows query binds plain (Rings pipe) save none some made = absurd (cc some)

  -- what a command shows
  pub answer_shows : (command : CommandValue) (answer : Answered) → Fits (Streams command) (Shows command) (Saves command) answer
      → (tells → (watchers : List Watch) → IsRowOutcome files watchers (row_of command) (comes_to watchers answer)) → IsShow tells files command (shown_of answer.printed)
  answer_shows (watch query binds plain) answer fits made =
      watch_shows query binds plain answer.printed answer.save (none_saved answer.save fits.saved.0) (fits.shown.1 tt) (λ t. made t [])
  answer_shows command answer fits made = none_shown (shown_of answer.printed) fits.shown.0

-- a property of results may be another one
pub does_weaker : (command : List Watch → FileCommand) (keeps keeps' : Answered → Type 0) (file : List ℕ) (binds : List Binding) (shelf : Reading) (result : Result Answered Fault)
    → ((answer : Answered) → keeps answer → keeps' answer) → Does command comes_to keeps file binds shelf result → Does command comes_to keeps' file binds shelf result
does_weaker command keeps keeps' file binds shelf result more does =
    record { made = does.made; kept = IfOk-weaker result _ _ more does.kept; fault = does.fault; read = does.read; rest = does.rest }

-- if a cut is given, bytes are saved; and if none is, none are
pub fits_saved : (streams shows : Type 0) (cut : SavedCutValue) (answer : Answered) → Fits streams shows (IsSome (Some cut)) answer → Fits streams shows ⊤ answer
fits_saved streams shows cut answer fits =
    record { fresh = fits.fresh; streamed = fits.streamed; shown = fits.shown; saved = ((λ some. tt), (λ is. fits.saved.1 refl)) }

pub fits_unsaved : (streams shows : Type 0) (answer : Answered) → (let none : Option SavedCutValue = None in Fits streams shows (IsSome none) answer) → Fits streams shows ⊥ answer
fits_unsaved streams shows answer fits =
    record { fresh = fits.fresh; streamed = fits.streamed; shown = fits.shown; saved = ((λ some. absurd (cc (fits.saved.0 some))), (λ is. absurd is)) }
