-- An edits file gives one list of edits, or one reason why it has none.
use Rattle.std.proofs.Common.{◌≡◌, ◌≢◌, ◌<◌, ◌≤◌, ◌⊎◌, List, ℕ, length, inl, inr, refl, ap, subst, sym, arith}
use Rattle.std.specs.Prelude.{⊤}
use Rattle.std.proofs.lemmas.Bool.{cases_lt}
use Rattle.tilt_base.specs.declared.limits.TheConstants.{FILE}
use Rattle.tilt_edits.proofs.Outcomes.{outcome-one, outcome-first, outcome-some, outcome-either}
use Rattle.tilt_edits.specs.Edits.{AreEdits, IsBadLine}
use Rattle.tilt_edits.specs.declared.edit.Edit.{Edit}
use Rattle.tilt_edits.specs.declared.fault.EditFault.{EditFault}
use Rattle.tilt_edits.specs.declared.fault.EditFault.TheVariants as fault
use Rattle.tilt_load.specs.EditsFile.{TakesEdits, RefusesEdits, long, line}
use Rattle.tilt_load.specs.Load.{IsLoadFault, IsTooLong}
use Rattle.tilt_report.specs.Report.{Reason, file_too_long, bad_edit, report_of_edits}

module _ (inputs : List (List ℕ)) where
  -- an edits file that is taken says one list of edits
  pub edits_once : (bytes : List ℕ) (edits other : List Edit) → TakesEdits inputs bytes edits → TakesEdits inputs bytes other → edits ≡ other
  edits_once bytes edits other takes also = outcome-one inputs bytes edits other takes.said also.said

  -- it is rejected for one reason
  pub edits_refused_once : (name bytes : List ℕ) (r s : Reason) → RefusesEdits inputs name bytes r → RefusesEdits inputs name bytes s → r ≡ s
  edits_refused_once name bytes r s (long over) (long over') = refl
  edits_refused_once name bytes r s (long over) (line n short bad) = absurd (omega (arith, over, short))
  edits_refused_once name bytes r s (line n short bad) (long over) = absurd (omega (arith, over, short))
  edits_refused_once name bytes r s (line n short bad) (line m short' bad') = ap bad_edit (outcome-first inputs bytes n m bad bad')

  -- it is taken, or rejected
  pub edits_refused_or_taken : (name bytes : List ℕ) (r : Reason) (edits : List Edit) → RefusesEdits inputs name bytes r
      → TakesEdits inputs bytes edits → ⊥
  edits_refused_or_taken name bytes r edits (long over) takes = let short = takes.short in absurd (omega (arith, over, short))
  edits_refused_or_taken name bytes r edits (line n short bad) takes = outcome-either inputs bytes edits n takes.said bad

  -- one of the two always
  module _ (name bytes : List ℕ) where
    abbrev IsEither : Type 0
    IsEither = ((edits : List Edit) × TakesEdits inputs bytes edits) ⊎ ((r : Reason) × RefusesEdits inputs name bytes r)

    by_text : length bytes ≤ FILE → ((edits : List Edit) × AreEdits inputs bytes edits) ⊎ ((n : ℕ) × IsBadLine inputs bytes n) → IsEither
    by_text short (inl (edits, said)) = inl (edits, record { short = short; said = said })
    by_text short (inr (n, bad)) = inr (bad_edit n, line n short bad)

    by_length : (FILE < length bytes) ⊎ (length bytes ≤ FILE) → IsEither
    by_length (inl over) = inr (file_too_long name, long over)
    by_length (inr short) = by_text short (outcome-some inputs bytes)

    pub edits_taken_or_refused : ((edits : List Edit) × TakesEdits inputs bytes edits) ⊎ ((r : Reason) × RefusesEdits inputs name bytes r)
    edits_taken_or_refused = by_length (cases_lt FILE (length bytes))

  -- a file that is too long has no edits
  pub edits_too_long : (name file : List ℕ) (why : Reason) → IsTooLong name file why → RefusesEdits inputs name file why
  edits_too_long name file why is = rw is.0 (long is.1)

  -- a text that is rejected has no edits, unless the fault is `OutOfMemory`
  pub edits_refuse : (name bytes : List ℕ) (f : EditFault) → length bytes ≤ FILE
      → (f ≢ fault.OutOfMemory → (n : ℕ) × (f ≡ fault.BadEdit n) × IsBadLine inputs bytes n)
      → IsLoadFault ⊤ (RefusesEdits inputs name bytes) (λ _. ⊥) 0 0 (report_of_edits f)
  edits_refuse name bytes (fault.BadEdit n) short told =
      let bad = told (λ e. cc e) in
      λ _. line n short (subst (IsBadLine inputs bytes) (same_line bad.0 (sym bad.1)) bad.2) where
        same_line : (m : ℕ) → fault.BadEdit m ≡ fault.BadEdit n → m ≡ n
        same_line m e = cc e
  edits_refuse name bytes fault.OutOfMemory short told = tt
