-- Rows, read one after another.
use Rattle.std.proofs.Common.{◌≡◌, ℕ, ◌+◌, length, length-append, ℤ, List, [], ◌∷◌, ◌++◌, Option, None, Some, Result, Ok, Err, refl, sym, ap, append_assoc}
use Rattle.std.proofs.lemmas.Option.{none-some}
use Rattle.std.specs.Option.{ForSome, option_or}
use Rattle.tilt_stream.specs.Snap.{Snapshot}
use Rattle.tilt_stream.proofs.Order.{last_end-push}
use Rattle.tilt_series.specs.declared.fault.SeriesFault.{SeriesFault}
use Rattle.tilt_series.specs.Series.{◌>>=◌, Bounds, bounds_after, row_of, rows_of}

-- what was read before, and what is still read
abbrev pub with_front : List Snapshot → Result (List Snapshot) SeriesFault → Result (List Snapshot) SeriesFault
with_front front read = read >>= λ rows. Ok (front ++ rows)

-- what the rows from here on make with those that were read
abbrev pub whole_of : Bounds → List Snapshot → List (List (List ℕ)) → Result (List Snapshot) SeriesFault
whole_of bounds rows left = with_front rows (rows_of (bounds_after bounds rows) (length rows + 1) left)

regroup : (front : List Snapshot) (s : Snapshot) (read : Result (List Snapshot) SeriesFault) → with_front front (read >>= λ rows. Ok (s ∷ rows)) ≡ with_front (front ++ s ∷ []) read
regroup front s (Ok rows) = ap (λ (rs : List Snapshot). Ok rs) (sym (append_assoc front (s ∷ []) rows))
regroup front s (Err fault) = refl

-- one more row
pub whole_of-row : (bounds : Bounds) (front : List Snapshot) (fields : List (List ℕ)) (left : List (List (List ℕ))) (s : Snapshot)
    → Ok s ≡ row_of (bounds_after bounds front) (length front + 1) fields
    → whole_of bounds front (fields ∷ left) ≡ whole_of bounds (front ++ s ∷ []) left
whole_of-row bounds front fields left s is =
    rw (← is, last_end-push front s, length-append front (s ∷ [])) (regroup front s (rows_of (record bounds { last_end = Some s.end }) (length front + 1 + 1) left))

-- what holds of the bound of the next row holds of the last end so far
pub for_last_end : (P : ℤ → Type 0) (end before : Option ℤ) → ForSome (option_or end before) P → ForSome end P
for_last_end P None before h = λ x e. absurd (none-some x e)
for_last_end P (Some end) before h = h
