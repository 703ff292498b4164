-- The end of a call: what was kept of the run, after the feed was served.
use Rattle.std.proofs.Common.{◌≡◌, ◌⊎◌, ℕ, true, List, Option, None, Some, Result, Ok, Err, inl, inr, refl, ap, ◌∙◌, subst}
use Rattle.std.specs.Prelude.{⊤, ◌-◌, ◌↔◌, length, IfErr}
use Rattle.tilt_checkpoint.specs.Valid.{IsAccepted}
use Rattle.tilt_compiler.specs.Accepted.{AcceptedParts}
use Rattle.tilt_core.specs.Core.{CoreParts}
use Rattle.tilt_feed_text.specs.Split.{ended}
use Rattle.tilt_live_cli.specs.Arguments.{CommandValue, IsLiveCommand}
use Rattle.tilt_live_app.specs.Begun.{IsBegun}
use Rattle.tilt_live_app.specs.Change.{IsSaved, IsUnsaved, ShelfChange, shelf_change}
use Rattle.tilt_live_app.specs.Counting.{meaning_with, note_of}
use Rattle.tilt_live_app.specs.Keeping.{HasKept, IsSaveFailure, IsTextOfRun}
use Rattle.tilt_live_app.specs.Done.{HasRun, IsSaving, IsServed, IsToSave, not_kept, with_state}
use Rattle.tilt_live_app.specs.InFolder.{FolderMeaning, FoldersChange}
use Rattle.tilt_live_app.specs.Lived.{HasLived, no_command, no_memory}
use Rattle.tilt_live_app.specs.Resumed.{IsTextAfter, StartsAt, written_before}
use Rattle.tilt_live_run.specs.Feeds.{IsRunAt}
use Rattle.tilt_serving.specs.Served.{HasEnded, HasServed, Start}
use Rattle.tilt_serving.specs.Stops.{is_whole}
use Rattle.tilt_live_app.specs.declared.failure.Failure.{Failure}
use Rattle.tilt_live_app.specs.declared.failure.Failure.TheVariants.{Halted, Unbegun, Unmade, Unsaved}
use Rattle.tilt_serving.specs.declared.halt.Halt.{Halt}
use Rattle.tilt_cli.specs.declared.fault.WordsFault.{WordsFault}
use Rattle.tilt_cli.specs.declared.fault.WordsFault.TheVariants.{OutOfMemory, Usage}
use Rattle.tilt_live_run.proofs.Leaving.{left-asked}
use Rattle.tilt_live_run.specs.Left.{state_left}
use Rattle.tilt_serving.specs.Reported.{Reported}
use Rattle.tilt_live_run.specs.declared.live_run.LiveRun.{LiveRun}
use Rattle.tilt_live_state.specs.Valid.{IsStateOf}
use Rattle.tilt_outside.specs.Counts.{added_count}
use Rattle.tilt_outside.specs.Reads.{OnlyReads}
use Rattle.tilt_port.specs.Transcript.{Transcript}
use Rattle.tilt_report.specs.Report.{line_of, report_of_words, status_of}
use Rattle.tilt_run_state.specs.Spelling.{opening as opened, spelled}
use Rattle.tilt_run_state.specs.State.{RunStateParts}
use Rattle.tilt_run_state.specs.Valid.{FitsForm}
use Rattle.tilt_syntax.specs.Tree.{StatementTree}
use Rattle.tilt_types.specs.Checked.{core_of}

-- what saving left of a shelf, if it was only read before
module _ {S : Type 0} (tells : Type 0) (files : S → List ℕ → List ℕ) (read_faults save_faults : S → ℕ) (takes : S → List ℕ → ℕ → Type 0) (old mid new : S)
    (reads : OnlyReads files read_faults save_faults takes old mid) where
  abbrev pub first : ShelfChange
  first = shelf_change tells files read_faults save_faults old new

  abbrev pub then : ShelfChange
  then = shelf_change tells files read_faults save_faults mid new

  same_file : (name : List ℕ) → files mid name ≡ files old name
  same_file name = ap (λ (held : List ℕ → List ℕ). held name) reads.same_files

  saved-first : (name text : List ℕ) → IsSaved then name text → IsSaved first name text
  saved-first name text saved = λ t. ((saved t).0, λ other away. (saved t).1 other away ∙ same_file other)

  either-first : (name text : List ℕ) → (files new name ≡ files mid name) ⊎ (files new name ≡ text)
      → (files new name ≡ files old name) ⊎ (files new name ≡ text)
  either-first name text (inl same) = inl (same ∙ same_file name)
  either-first name text (inr is) = inr is

  unsaved-first : (name text : List ℕ) → IsUnsaved then name text → IsUnsaved first name text
  unsaved-first name text unsaved = record {
    old_or_new = λ t. (either-first name text (unsaved.old_or_new t).0, λ other away. (unsaved.old_or_new t).1 other away ∙ same_file other);
    rose = rw (← reads.same_save_faults) unsaved.rose;
  }

  pub kept-first : (run : LiveRun) (query : List StatementTree) (opening : List ℕ) (written : ℕ) (name : List ℕ) (result : Result (Unit {0}) Failure)
      → HasKept run query opening written then name result → HasKept run query opening written first name result
  kept-first run query opening written name (Ok u) (text, of, saved) = (text, of, saved-first name text saved)
  kept-first run query opening written name (Err (Unsaved file)) (same, (text, of, unsaved)) = (same, (text, of, unsaved-first name text unsaved))
  kept-first run query opening written name (Err Unmade) kept = tt
  kept-first run query opening written name (Err (Unbegun fault)) kept = absurd kept
  kept-first run query opening written name (Err (Halted why)) kept = absurd kept

  pub rest-first : (result : Result (Unit {0}) Failure) → IfErr result (λ failure. (IsSaveFailure failure → ⊥) → new ≡ mid)
      → IfErr result (λ failure. (IsSaveFailure failure → ⊥) → OnlyReads files read_faults save_faults takes old new)
  rest-first (Ok u) same = tt
  rest-first (Err failure) same = λ other. rw (same other) reads

  pub takes-first : (name : List ℕ) (n : ℕ) → takes mid name n ↔ takes new name n → takes old name n ↔ takes new name n
  takes-first name n later =
      let both = reads.same_takes name n in
      (λ t. later.0 (both.0 t), λ t. both.1 (later.1 t))

module _ {K : Type 0} (shelf : ShelfChange) (tells : Type 0) (old new : Transcript) (err_tells : Type 0) (err_written : K → List ℕ) (err_faults : K → ℕ) (command : CommandValue)
    (err err_then : K) (begun : IsBegun shelf command) (noted : K) (note : Reported err_tells err_written err_faults err noted (note_of begun.counting)) where
  -- the feed was served until something halted it
  pub run-halted : (why : Halt)
      → ((start : Start) → StartsAt begun.options begun.core begun.from start
      → HasServed (meaning_with begun.core begun.options begun.counting) start tells old new err_tells err_written err_faults noted err_then (Err why))
      → (is_whole {T = Unit {0}} (Err why) ≡ true → new.held_back ≡ 0) → HasRun shelf tells old new err_tells err_written err_faults command err err_then (Err (Halted why))
  run-halted why served handed_on = record {
    begun = begun;
    noted = noted;
    note = note;
    served = λ start at. record { served = served start at; is = tt };
    handed_on = handed_on;
  }

  -- it was served to its end by this run
  module _ (run : LiveRun) (accepted : AcceptedParts) (core_is : accepted.core ≡ begun.core) (handed_on : new.held_back ≡ 0)
      (served : (start : Start) → StartsAt begun.options begun.core begun.from start
      → HasEnded (meaning_with begun.core begun.options begun.counting) start tells old new err_tells err_written err_faults noted err_then
      (IsRunAt run (record { accepted = accepted; options = begun.options })) (Ok tt)) where
    served-whole : IsServed shelf tells old new err_tells err_written err_faults command (λ _ _. ⊤) (Ok tt) err err_then
    served-whole = record {
      begun = begun;
      noted = noted;
      note = note;
      served = λ start at. record { served = (served start at).served; is = tt };
      handed_on = λ _. handed_on;
    }

    -- and nothing is to be saved
    pub run-unkept : command.save ≡ None → HasRun shelf tells old new err_tells err_written err_faults command err err_then (Ok tt)
    run-unkept none = not_kept none served-whole

    -- or its state is
    module _ (is_accepted : IsAccepted begun.query) (core_of_is : begun.core ≡ core_of begun.query) (opening : List ℕ)
        (opens : opening ≡ opened begun.options.form) (written : ℕ)
        (counted : tells → written ≡ added_count (written_before begun.from) (added_count 0 (length new.written) - added_count 0 (length old.written)))
        (name : List ℕ) (save : command.save ≡ Some name) where
      text-after : (text bytes : List ℕ) → IsTextOfRun run begun.query opening written text → IsRunAt run (record { accepted = accepted; options = begun.options }) bytes
          → IsTextAfter begun.options begun.core tells old new begun.query begun.from text bytes
      text-after text bytes of at =
          let is = of accepted begun.options bytes at opens in
          let options = begun.options in
          let left : CoreParts → RunStateParts = λ core. state_left options core begun.query (ended bytes) written in
          let run_is = subst (λ (core : CoreParts). IsStateOf core (left core).state) core_is is.1 in
          record {
            written = written;
            counted = counted;
            is_text = subst (λ (core : CoreParts). text ≡ spelled options.form (left core)) core_is is.0;
            valid = record {
              state = record { query = is_accepted; run = subst (λ (core : CoreParts). IsStateOf core (left begun.core).state) core_of_is run_is };
              kept = subst (λ (core : CoreParts). FitsForm options.form (left core)) core_is is.2;
              options = left-asked options.form (left begun.core) refl;
            };
          }

      to-save : (text : List ℕ) → IsTextOfRun run begun.query opening written text
          → IsToSave shelf tells old new err_tells err_written err_faults command text name err err_then
      to-save text of = record {
        save = save;
        served = record {
          begun = begun;
          noted = noted;
          note = note;
          served = λ start at. record { served = (served start at).served; is = text-after text _ of (served start at).is };
          handed_on = λ _. handed_on;
        };
      }

      pub run-kept : (result : Result (Unit {0}) Failure) → HasKept run begun.query opening written shelf name result
          → HasRun shelf tells old new err_tells err_written err_faults command err err_then result
      run-kept (Ok u) (text, of, saved) = with_state text name (to-save text of) saved
      run-kept (Err (Unsaved file)) (same, (text, of, unsaved)) = rw same (text, to-save text of, unsaved)
      run-kept (Err Unmade) kept = (name, save, served-whole)
      run-kept (Err (Unbegun fault)) kept = absurd kept
      run-kept (Err (Halted why)) kept = absurd kept

save-none : (save : Option (List ℕ)) → ((name : List ℕ) → save ≡ Some name → ⊥) → save ≡ None
save-none None none = refl
save-none (Some name) none = absurd (none name refl)

-- a command of arguments that save nothing saves nothing
pub unsaving : (words : List (List ℕ)) (command : CommandValue) → IsLiveCommand words command → ¬ (IsSaving words) → command.save ≡ None
unsaving words command is none = save-none command.save (λ name save. none (command, is, (name, save)))

-- arguments that weren't read
pub words-lived : {K : Type 0} (shelf : ShelfChange) (tells : Type 0) (old new : Transcript) (err_tells : Type 0) (err_written : K → List ℕ) (err_faults : K → ℕ)
    {F : Type 0} (means : FolderMeaning F) (folders : FoldersChange F) (words : List (List ℕ)) (err err_then : K) (fault : WordsFault)
    → (fault ≡ Usage → (command : CommandValue) → ¬ (IsLiveCommand words command)) → new ≡ old
    → Reported err_tells err_written err_faults err err_then (line_of (report_of_words fault))
    → HasLived shelf tells old new err_tells err_written err_faults means folders words err err_then (status_of (report_of_words fault)) None
words-lived shelf tells old new err_tells err_written err_faults means folders words err err_then Usage none same line = no_command (none refl) same line
words-lived shelf tells old new err_tells err_written err_faults means folders words err err_then OutOfMemory none same line = no_memory same line
