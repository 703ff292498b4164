-- A code file gives one code, or one reason why it is none.
use Rattle.std.proofs.Common.{◌≡◌, ◌∙◌, ◌<◌, ◌≤◌, ◌⊎◌, List, ℕ, length, inl, inr, Result, Ok, Err, Option, None, Some, refl, sym, ap, arith}
use Rattle.std.specs.Prelude.{⊤}
use Rattle.tilt_base.specs.declared.limits.TheConstants.{FILE}
use Rattle.std.proofs.lemmas.Bool.{cases_lt}
use Rattle.tilt_code.proofs.Judged.{listed_or_bad}
use Rattle.tilt_code.proofs.Outcomes.{line-bad, code-read, bad-read}
use Rattle.tilt_code.specs.Code.{CodeParts}
use Rattle.tilt_code.specs.Fault.{IsBadLine, IsBadReference}
use Rattle.tilt_code.specs.Listing.{listing}
use Rattle.tilt_code.specs.Partial.{PartialCode, Progress, code_of, read_text}
use Rattle.tilt_code.specs.declared.fault.CodeFault.{CodeFault}
use Rattle.tilt_code.specs.declared.fault.CodeFault.TheVariants as fault
use Rattle.tilt_code.specs.References.{IsCode}
use Rattle.tilt_load.specs.CodeFile.{TakesCode, RefusesCode, long, line, reference}
use Rattle.tilt_load.specs.Load.{IsLoadFault, IsTooLong}
use Rattle.tilt_report.specs.Report.{Reason, file_too_long, report_of_code}
use Rattle.tilt_report.specs.Report as report

same_ok : {p q : Progress} → (let x : Result Progress ℕ = Ok p in x ≡ Ok q) → p ≡ q
same_ok e = cc

same_err : {m n : ℕ} → (let x : Result Progress ℕ = Err m in x ≡ Err n) → m ≡ n
same_err e = cc

not_both : (p : Progress) (n : ℕ) → (let x : Result Progress ℕ = Ok p in x ≡ Err n) → ⊥
not_both p n e = cc

some_place : {P : Type 0} {p q : P} → (let x : Option P = Some p in x ≡ Some q) → p ≡ q
some_place e = cc

no_place : {P : Type 0} (p : P) → (let x : Option P = None in x ≡ Some p) → ⊥
no_place p e = cc

-- what the text of a code that is taken reads as
taken_reads : (bytes : List ℕ) (c : CodeParts) → TakesCode bytes c → (p : PartialCode) × (read_text bytes ≡ Ok (record { code = p; bad = None })) × (code_of p ≡ c)
taken_reads bytes c taken =
    let r = code-read c taken.good in
    (r.0, rw taken.listed r.1, r.2)

-- a code file that is taken has one code
pub code_once : (bytes : List ℕ) (c d : CodeParts) → TakesCode bytes c → TakesCode bytes d → c ≡ d
code_once bytes c d taken taken' =
    let r = taken_reads bytes c taken in
    let r' = taken_reads bytes d taken' in
    let same = same_ok (sym r.1 ∙ r'.1) in
    sym r.2 ∙ ap (λ (p : Progress). code_of p.code) same ∙ r'.2

same_place : (bytes : List ℕ) (in_loop in_loop' n n' : ℕ) → IsBadReference bytes in_loop n → IsBadReference bytes in_loop' n' → (in_loop ≡ in_loop') × (n ≡ n')
same_place bytes in_loop in_loop' n n' bad bad' =
    let r = bad-read bytes in_loop n bad in
    let r' = bad-read bytes in_loop' n' bad' in
    let same = some_place (ap (λ (p : Progress). p.bad) (same_ok (sym r.1 ∙ r'.1))) in
    (ap (λ p. p.in_loop) same, ap (λ p. p.line) same)

-- it is rejected for one reason
pub code_refused_once : (name bytes : List ℕ) (r s : Reason) → RefusesCode name bytes r → RefusesCode name bytes s → r ≡ s
code_refused_once name bytes r s (long over) (long over') = refl
code_refused_once name bytes r s (long over) (line n short bad) = absurd (omega arith)
code_refused_once name bytes r s (long over) (reference i n short bad) = absurd (omega arith)
code_refused_once name bytes r s (line n short bad) (long over) = absurd (omega arith)
code_refused_once name bytes r s (line n short bad) (line m short' bad') =
    rw (same_err (sym (line-bad bytes n bad) ∙ line-bad bytes m bad')) refl
code_refused_once name bytes r s (line n short bad) (reference i m short' bad') =
    absurd (not_both _ n (sym (bad-read bytes i m bad').1 ∙ line-bad bytes n bad))
code_refused_once name bytes r s (reference i n short bad) (long over) = absurd (omega arith)
code_refused_once name bytes r s (reference i n short bad) (line m short' bad') =
    absurd (not_both _ m (sym (bad-read bytes i n bad).1 ∙ line-bad bytes m bad'))
code_refused_once name bytes r s (reference i n short bad) (reference j m short' bad') =
    let same = same_place bytes i j n m bad bad' in
    rw (same.0, same.1) refl

-- it is taken, or rejected
pub code_refused_or_taken : (name bytes : List ℕ) (r : Reason) (c : CodeParts) → RefusesCode name bytes r → TakesCode bytes c → ⊥
code_refused_or_taken name bytes r c (long over) taken = let short = taken.short in absurd (omega arith)
code_refused_or_taken name bytes r c (line n short bad) taken =
    not_both _ n (sym (taken_reads bytes c taken).1 ∙ line-bad bytes n bad)
code_refused_or_taken name bytes r c (reference i n short bad) taken =
    no_place _ (ap (λ (p : Progress). p.bad) (same_ok (sym (taken_reads bytes c taken).1 ∙ (bad-read bytes i n bad).1)))

-- a file that is too long is no code
pub code_too_long : (name file : List ℕ) (why : Reason) → IsTooLong name file why → RefusesCode name file why
code_too_long name file why is = rw is.0 (long is.1)

-- a listing that is rejected is no code, unless the fault is `OutOfMemory`
pub code_refuses : (name bytes : List ℕ) (f : CodeFault) → length bytes ≤ FILE → ((n : ℕ) → f ≡ fault.BadCode n → IsBadLine bytes n)
    → ((in_loop n : ℕ) → f ≡ fault.BadReference in_loop n → IsBadReference bytes in_loop n) → IsLoadFault ⊤ (RefusesCode name bytes) (λ _. ⊥) 0 0 (report_of_code f)
code_refuses name bytes (fault.BadCode n) short bad_line bad_reference = λ _. line n short (bad_line n refl)
code_refuses name bytes (fault.BadReference i n) short bad_line bad_reference = λ _. reference i n short (bad_reference i n refl)
code_refuses name bytes fault.OutOfMemory short bad_line bad_reference = tt

-- one of the two always
module _ (name bytes : List ℕ) where
  abbrev IsListed : Type 0
  IsListed = (code : CodeParts) × IsCode code × (bytes ≡ listing code)

  abbrev IsBad : Type 0
  IsBad = ((n : ℕ) × IsBadLine bytes n) ⊎ ((in_loop : ℕ) × (n : ℕ) × IsBadReference bytes in_loop n)

  abbrev IsEither : Type 0
  IsEither = ((c : CodeParts) × TakesCode bytes c) ⊎ ((r : Reason) × RefusesCode name bytes r)

  by_listing : length bytes ≤ FILE → IsListed ⊎ IsBad → IsEither
  by_listing short (inl (c, good, listed)) = inl (c, record { short = short; good = good; listed = listed })
  by_listing short (inr (inl (n, bad))) = inr (report.bad_code n, line n short bad)
  by_listing short (inr (inr (in_loop, n, bad))) = inr (report.bad_reference in_loop n, reference in_loop n short bad)

  by_length : (FILE < length bytes) ⊎ (length bytes ≤ FILE) → IsEither
  by_length (inl over) = inr (file_too_long name, long over)
  by_length (inr short) = by_listing short (listed_or_bad bytes)

  pub code_taken_or_refused : ((c : CodeParts) × TakesCode bytes c) ⊎ ((r : Reason) × RefusesCode name bytes r)
  code_taken_or_refused = by_length (cases_lt FILE (length bytes))
