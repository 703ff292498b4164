-- What follows of results of reading.
use Rattle.std.proofs.Common.{◌≡◌, ℕ, ◌<◌, ◌^◌, true, List, [], ◌∷◌, ◌++◌, length, Some, Result, Ok, Err, refl, sym, ap, ◌∙◌}
use Rattle.std.specs.Prelude.{IfOk, MatchResult}
use Rattle.std.specs.List.{AllByRecursion, list_all}
use Rattle.std.proofs.lemmas.Bool.{and_from, and_parts}
use Rattle.std.proofs.lemmas.Option.{same_Some}
use Rattle.tilt_conventions.specs.Resumable.{fits}
use Rattle.tilt_conventions.specs.Steps.{Kept}
use Rattle.tilt_reading_state.proofs.Again.{kept-again}
use Rattle.tilt_reading_state.proofs.Lengths.{are_few}
use Rattle.tilt_reading_state.proofs.Ranges.{kept_fits, was_read}
use Rattle.tilt_reading_state.proofs.Steps.{only_memory}
use Rattle.tilt_reading_state.specs.Reading.{Gives, kept_at}
use Rattle.tilt_reading_state.specs.Spelling.{spelled_kept}
use Rattle.tilt_reading_state.specs.Valid.{IsInRange}
use Rattle.tilt_reading_state.specs.declared.fault.KeptFault.{KeptFault}
use Rattle.tilt_reading_state.specs.declared.fault.KeptFault.TheVariants.{OutOfMemory}
use Rattle.tilt_reading_text.specs.Kept.{BareText}

-- what all tests say

pub all_fit : (inputs : List Kept) → list_all fits inputs ≡ true → AllByRecursion (λ kept. fits kept ≡ true) inputs
all_fit [] h = tt
all_fit (kept ∷ inputs) h = let a = and_parts (fits kept) (list_all fits inputs) h in (a.0, all_fit inputs a.1)

pub fit_all : (inputs : List Kept) → AllByRecursion (λ kept. fits kept ≡ true) inputs → list_all fits inputs ≡ true
fit_all [] are = refl
fit_all (kept ∷ inputs) are = and_from (fits kept) (list_all fits inputs) are.0 (fit_all inputs are.1)

-- what was read is in range

pub ranged : (result : Result BareText KeptFault) (bytes left : List ℕ) → Gives (kept_at bytes) (λ kept. (kept, left)) result
    → IfOk result (λ kept. IsInRange kept)
ranged (Ok kept) bytes left read = was_read IsInRange (kept_at bytes) kept left (kept_fits bytes) read
ranged (Err fault) bytes left read = tt

-- a spelling at the start of bytes is read

start-again : (kept : BareText) (bytes rest : List ℕ) → IsInRange kept → bytes ≡ spelled_kept kept ++ rest → length bytes < 2 ^ 63
    → kept_at bytes ≡ Some (kept, rest)
start-again kept bytes rest is e small = ap kept_at e ∙ kept-again kept is (are_few kept bytes rest e small) rest

pub only_kept : (result : Result BareText KeptFault) (bytes left : List ℕ) → Gives (kept_at bytes) (λ kept. (kept, left)) result
    → length bytes < 2 ^ 63 → (kept : BareText) (rest : List ℕ) → IsInRange kept → bytes ≡ spelled_kept kept ++ rest
    → MatchResult result (λ found. found ≡ kept) (λ fault. fault ≡ OutOfMemory)
only_kept (Ok found) bytes left read small kept rest is e =
    ap (λ (p : BareText × List ℕ). p.0) (same_Some (found, left) (kept, rest) (sym read ∙ start-again kept bytes rest is e small))
only_kept (Err fault) bytes left read small kept rest is e =
    only_memory fault (kept_at bytes) (kept, rest) read (start-again kept bytes rest is e small)
