-- What writes and a save leave, from what each of them did.
use Rattle.std.proofs.Common.{◌≡◌, ◌++◌, List, ℕ, Option, None, Some, Result, Ok, Err, inr, refl, subst}
use Rattle.std.specs.Prelude.{MatchResult, OnOk}
use Rattle.tilt_app.specs.Cause.{IsCause}
use Rattle.tilt_app.specs.Change.{ShelfChange, SinkChange}
use Rattle.tilt_app.specs.Continued.{Continues, IsContinued}
use Rattle.tilt_app.specs.Saving.{IsSaved, IsUnsaved}
use Rattle.tilt_outside.specs.Faults.{Rose}
use Rattle.tilt_outside.specs.Written.{AppendsFront}
use Rattle.tilt_printed.specs.Answer.{save_of}
use Rattle.tilt_printed.specs.Saving.{SaveValue, outcome_of}
use Rattle.tilt_printed.specs.Unput.{report_of_unput}
use Rattle.tilt_printed.specs.declared.save.Save.{Save}
use Rattle.tilt_printed.specs.declared.unput.Unput.{Unput}
use Rattle.tilt_printed.specs.declared.unput.Unput.TheVariants.{Failed, OutOfMemory}
use Rattle.tilt_report.specs.Report.{Outcome, Report, save_fault}
use Rattle.tilt_cli.specs.Command.{CommandValue, start, resume_upto, resume_end}

-- what holds if a call didn't fail
pub on_ok : {E X : Type 0} (r : Result (Unit {0}) E) → ((e : E) → r ≡ Err e → ⊥) → OnOk r X → X
on_ok (Ok u) fine x = x
on_ok (Err e) fine x = absurd (fine e refl)

pub on_ok_then : {E X Y : Type 0} (r : Result (Unit {0}) E) → (X → Y) → OnOk r X → OnOk r Y
on_ok_then (Ok u) f x = f x
on_ok_then (Err e) f x = tt

pub on_ok_so : {E X : Type 0} (r : Result (Unit {0}) E) → X → OnOk r X
on_ok_so (Ok u) x = x
on_ok_so (Err e) x = tt

-- nothing is saved
pub made_none : (is_outcome : Outcome → Type 0) (text : List ℕ) (save : Option Save) → save ≡ None → is_outcome (outcome_of text (save_of save))
    → is_outcome (outcome_of text None)
made_none is_outcome text save is made = subst (λ (s : Option Save). is_outcome (outcome_of text (save_of s))) is made

-- these bytes are saved
pub made_some : (is_outcome : Outcome → Type 0) (text : List ℕ) (save : Option Save) (s : Save) → save ≡ Some s → is_outcome (outcome_of text (save_of save))
    → is_outcome (outcome_of text (Some (record { name = s.name.now; bytes = s.bytes.items })))
made_some is_outcome text save s is made = subst (λ (o : Option Save). is_outcome (outcome_of text (save_of o))) is made

module _ (is_outcome : Outcome → Type 0) (has_turn : List ℕ → Type 0) (shelf : ShelfChange) (out : SinkChange) where
  -- a save that failed is the cause
  pub unsaved_cause : (text name bytes : List ℕ) (report : Report) → report ≡ save_fault name → Rose shelf.saves_before shelf.saves_after
      → (shelf.tells → is_outcome (outcome_of text (Some (record { name = name; bytes = bytes })))) → (out.tells → out.new ≡ out.old ++ text)
      → IsUnsaved shelf (record { name = name; bytes = bytes }) → IsCause is_outcome has_turn shelf out report
  unsaved_cause text name bytes report is rose outcome written unsaved =
      rw is (rose, (text, bytes, record { outcome = outcome; written = written; unsaved = unsaved }))

  -- a text that wasn't written whole is the cause
  pub unput_cause : (text : List ℕ) (save : Option SaveValue) (unput : Unput) (report : Report) → report ≡ report_of_unput unput
      → (shelf.tells → is_outcome (outcome_of text save)) → (out.tells → AppendsFront out.old out.new text) → (unput ≡ Failed → Rose out.before out.after)
      → IsCause is_outcome has_turn shelf out report
  unput_cause text save Failed report is outcome front rose = rw is (rose refl, (text, save, record { outcome = outcome; front = front }))
  unput_cause text save OutOfMemory report is outcome front rose = rw is (inr (text, save, record { outcome = outcome; front = front }))

-- what holds of a result that isn't a failure
pub on_match : {E P : Type 0} (Q : E → Type 0) (r : Result (Unit {0}) E) → ((e : E) → r ≡ Err e → ⊥) → MatchResult r (λ _. P) Q → P
on_match Q (Ok u) fine seen = seen
on_match Q (Err e) fine seen = absurd (fine e refl)

-- a session goes on by what was written and saved, as its outcome does
pub continued : (command : CommandValue) (shelf : ShelfChange) (out : SinkChange) (text : List ℕ) (save : Option SaveValue) → Continues shelf.held command (outcome_of text save)
    → (out.tells → out.new ≡ out.old ++ text) → IsSaved shelf save → IsContinued shelf out command
continued (start query binds plain upto name) shelf out text save goes written saved = record { text = text; save = save; outcome = goes; written = written; saved = saved }
continued (resume_upto checkpoint binds plain upto name) shelf out text save goes written saved =
    λ query rows cut hands. record { text = text; save = save; outcome = goes query rows cut hands; written = written; saved = saved }
continued (resume_end checkpoint binds plain) shelf out text save goes written saved =
    λ query rows cut hands. record { text = text; save = save; outcome = goes query rows cut hands; written = written; saved = saved }
continued command shelf out text save goes written saved = tt
