-- What is reported if no count rose, by the outcome of a command or of arguments.
use Rattle.std.proofs.Common.{◌≡◌, ◌⊎◌, inl, inr, List, ℕ, Option, None, Some, refl, arith}
use Rattle.tilt_app.specs.Cause.{IsCause, IsUnanswered, IsSaveFault}
use Rattle.tilt_app.specs.Change.{ShelfChange, SinkChange}
use Rattle.tilt_app.specs.Outcome.{IsOutcome, no_command}
use Rattle.tilt_outside.specs.Faults.{Rose}
use Rattle.tilt_printed.specs.Saving.{SaveValue, outcome_of}
use Rattle.tilt_report.specs.Report.{Outcome, refused, Report, usage, refusal, read_fault, write_fault, save_fault, out_of_memory, report_of_words, status_of}
use Rattle.tilt_watch.specs.Watch.{Watch}
use Rattle.tilt_cli.specs.Command.{CommandValue, IsCommand}
use Rattle.tilt_cli.specs.declared.fault.WordsFault.{WordsFault}
use Rattle.tilt_cli.specs.declared.fault.WordsFault.TheVariants as variant

text_is_no_refusal : (text : List ℕ) (save : Option SaveValue) (report : Report) → outcome_of text save ≡ refused report → ⊥
text_is_no_refusal text None report same = cc
text_is_no_refusal text (Some save) report same = cc

same_report : (report other : Report) → refused report ≡ refused other → report ≡ other
same_report report other same = cc

module _ (is_outcome : Outcome → Type 0) (once : (o p : Outcome) → is_outcome o → is_outcome p → o ≡ p) where
  -- what is printed isn't rejected
  pub printed_or_refused : (text : List ℕ) (save : Option SaveValue) (report : Report) → is_outcome (outcome_of text save) → is_outcome (refused report) → ⊥
  printed_or_refused text save report outcome other = text_is_no_refusal text save report (once (outcome_of text save) (refused report) outcome other)

  module _ (has_turn : List ℕ → Type 0) (shelf : ShelfChange) (out : SinkChange) (told : shelf.tells) (no_read_fault : Rose shelf.reads_before shelf.reads_after → ⊥) where
    -- a text that isn't printed, or isn't saved, is out of memory
    pub only_memory : (report : Report) (text : List ℕ) (save : Option SaveValue) → IsCause is_outcome has_turn shelf out report
        → is_outcome (outcome_of text save) → (Rose shelf.saves_before shelf.saves_after → ⊥) → (Rose out.before out.after → ⊥) → report ≡ out_of_memory
    only_memory usage text save cause outcome no_save_fault no_put_fault = absurd (printed_or_refused text save usage outcome cause)
    only_memory (read_fault name) text save cause outcome no_save_fault no_put_fault = absurd (no_read_fault cause.0)
    only_memory write_fault text save cause outcome no_save_fault no_put_fault = absurd (no_put_fault cause.0)
    only_memory (save_fault name) text save cause outcome no_save_fault no_put_fault = absurd (no_save_fault cause.0)
    only_memory out_of_memory text save cause outcome no_save_fault no_put_fault = refl
    only_memory (refusal why) text save cause outcome no_save_fault no_put_fault = absurd (printed_or_refused text save (refusal why) outcome (cause told))

    same_refusal : (report other : Report) → is_outcome (refused report) → is_outcome (refused other) → (report ≡ other) ⊎ (report ≡ out_of_memory)
    same_refusal report other is outcome = inl (same_report report other (once (refused report) (refused other) is outcome))

    -- a refusal is reported, or there is no memory
    pub the_refusal : (report other : Report) → IsCause is_outcome has_turn shelf out report → is_outcome (refused other)
        → (report ≡ other) ⊎ (report ≡ out_of_memory)
    the_refusal usage other cause outcome = same_refusal usage other cause outcome
    the_refusal (refusal why) other cause outcome = same_refusal (refusal why) other (cause told) outcome
    the_refusal (read_fault name) other cause outcome = absurd (no_read_fault cause.0)
    the_refusal write_fault other cause outcome = absurd (printed_or_refused cause.1.0 cause.1.1 other (cause.1.2.outcome told) outcome)
    the_refusal (save_fault name) other cause outcome =
        absurd (printed_or_refused cause.1.0 (Some (record { name = name; bytes = cause.1.1 })) other (cause.1.2.outcome told) outcome)
    the_refusal out_of_memory other cause outcome = inr refl

module _ (is_outcome : Outcome → Type 0) (has_turn : List ℕ → Type 0) (shelf : ShelfChange) (out : SinkChange) where
  -- usage is reported only if it is the outcome
  pub cause_of_usage : (report : Report) → report ≡ usage → IsCause is_outcome has_turn shelf out report → is_outcome (refused usage)
  cause_of_usage usage is cause = cause
  cause_of_usage (refusal why) is cause = absurd (cc is)
  cause_of_usage (read_fault name) is cause = absurd (cc is)
  cause_of_usage write_fault is cause = absurd (cc is)
  cause_of_usage (save_fault name) is cause = absurd (cc is)
  cause_of_usage out_of_memory is cause = absurd (cc is)

  -- why there was no result is the cause, if nothing was written
  pub unanswered_cause : (report : Report) → out.new ≡ out.old → IsUnanswered is_outcome has_turn shelf report → IsCause is_outcome has_turn shelf out report
  unanswered_cause usage same fault = fault
  unanswered_cause (refusal why) same fault = fault
  unanswered_cause (read_fault name) same fault = fault
  unanswered_cause write_fault same fault = absurd fault
  unanswered_cause (save_fault name) same fault = absurd fault
  unanswered_cause out_of_memory same fault = inl (λ _. same)

-- if there was no result, no save failed
pub no_save_fault : (is_outcome : Outcome → Type 0) (has_turn : List ℕ → Type 0) (shelf : ShelfChange) (report : Report) → IsUnanswered is_outcome has_turn shelf report
    → IsSaveFault report → ⊥
no_save_fault is_outcome has_turn shelf usage fault is = is
no_save_fault is_outcome has_turn shelf (refusal why) fault is = is
no_save_fault is_outcome has_turn shelf (read_fault name) fault is = is
no_save_fault is_outcome has_turn shelf write_fault fault is = is
no_save_fault is_outcome has_turn shelf (save_fault name) fault is = fault
no_save_fault is_outcome has_turn shelf out_of_memory fault is = is

-- a cause for a command is one for the arguments that are it
pub wider_cause : (is_outcome is_outcome' : Outcome → Type 0) (has_turn has_turn' : List ℕ → Type 0) (shelf : ShelfChange) (out : SinkChange)
    → ((o : Outcome) → is_outcome o → is_outcome' o) → ((name : List ℕ) → has_turn name → has_turn' name) → (report : Report)
    → IsCause is_outcome has_turn shelf out report → IsCause is_outcome' has_turn' shelf out report
wider_cause is is' turn turn' shelf out more next usage cause = more (refused usage) cause
wider_cause is is' turn turn' shelf out more next (refusal why) cause = λ t. more (refused (refusal why)) (cause t)
wider_cause is is' turn turn' shelf out more next (read_fault name) cause = (cause.0, next name cause.1)
wider_cause is is' turn turn' shelf out more next write_fault cause =
    (cause.0, (cause.1.0, cause.1.1, record { outcome = λ t. more (outcome_of cause.1.0 cause.1.1) (cause.1.2.outcome t); front = cause.1.2.front }))
wider_cause is is' turn turn' shelf out more next (save_fault name) cause = (
  cause.0,
  (
    cause.1.0,
    cause.1.1,
    record {
      outcome = λ t. more (outcome_of cause.1.0 (Some (record { name = name; bytes = cause.1.1 }))) (cause.1.2.outcome t);
      written = cause.1.2.written;
      unsaved = cause.1.2.unsaved;
    },
  ),
)
wider_cause is is' turn turn' shelf out more next out_of_memory (inl none) = inl none
wider_cause is is' turn turn' shelf out more next out_of_memory (inr part) =
    inr (part.0, part.1, record { outcome = λ t. more (outcome_of part.0 part.1) (part.2.outcome t); front = part.2.front })

-- arguments that give no command are reported as such, or there is no memory
pub cause_of_words : (words : List (List ℕ)) (files : List ℕ → List ℕ) (watchers : List Watch) (has_turn : List ℕ → Type 0) (shelf : ShelfChange) (out : SinkChange)
    (fault : WordsFault) → out.new ≡ out.old → (fault ≡ variant.Usage → (command : CommandValue) → ¬ (IsCommand words command))
    → IsCause (IsOutcome words files watchers) has_turn shelf out (report_of_words fault)
cause_of_words words files watchers has_turn shelf out variant.Usage same none = no_command (none refl)
cause_of_words words files watchers has_turn shelf out variant.OutOfMemory same none = inl (λ _. same)

-- no other report has the status of usage
pub status_of_usage : (report : Report) → status_of report ≡ 2 → report ≡ usage
status_of_usage usage is = refl
status_of_usage (refusal why) is = absurd (omega arith)
status_of_usage (read_fault name) is = absurd (omega arith)
status_of_usage write_fault is = absurd (omega arith)
status_of_usage (save_fault name) is = absurd (omega arith)
status_of_usage out_of_memory is = absurd (omega arith)

-- no other report has the status of a write fault
pub status_of_write_fault : (report : Report) → status_of report ≡ 4 → report ≡ write_fault
status_of_write_fault usage is = absurd (omega arith)
status_of_write_fault (refusal why) is = absurd (omega arith)
status_of_write_fault (read_fault name) is = absurd (omega arith)
status_of_write_fault write_fault is = refl
status_of_write_fault (save_fault name) is = absurd (omega arith)
status_of_write_fault out_of_memory is = absurd (omega arith)

-- no other report has the status of being out of memory
pub status_of_want : (report : Report) → status_of report ≡ 5 → report ≡ out_of_memory
status_of_want usage is = absurd (omega arith)
status_of_want (refusal why) is = absurd (omega arith)
status_of_want (read_fault name) is = absurd (omega arith)
status_of_want write_fault is = absurd (omega arith)
status_of_want (save_fault name) is = absurd (omega arith)
status_of_want out_of_memory is = refl

-- the status of a save fault
pub status_of_save : (report : Report) → IsSaveFault report → status_of report ≡ 6
status_of_save usage is = absurd is
status_of_save (refusal why) is = absurd is
status_of_save (read_fault name) is = absurd is
status_of_save write_fault is = absurd is
status_of_save (save_fault name) is = refl
status_of_save out_of_memory is = absurd is
