-- Bytes are the listing of a code, or have a first bad line, or a first bad reference.
use Rattle.std.proofs.Common.{◌≡◌, ◌⊎◌, inl, inr, ℕ, List, Option, Some, None, Result, Ok, Err, refl}
use Rattle.tilt_code.specs.Code.{CodeParts}
use Rattle.tilt_code.specs.Fault.{IsBadLine, IsBadReference}
use Rattle.tilt_code.specs.Listing.{listing}
use Rattle.tilt_code.specs.Partial.{PartialCode, Progress, code_of, read_text}
use Rattle.tilt_code.specs.References.{IsCode}
use Rattle.tilt_code.specs.declared.place.Place.{Place}
use Rattle.tilt_code.proofs.Outcomes.{bad-line, reads-bad, reads-code}

-- the code, or what is bad
abbrev Judged : List ℕ → Type 0
Judged bytes =
    ((code : CodeParts) × IsCode code × (bytes ≡ listing code))
    ⊎ (((line : ℕ) × IsBadLine bytes line) ⊎ ((in_loop : ℕ) × (line : ℕ) × IsBadReference bytes in_loop line))

whole_read : (bytes : List ℕ) (code : PartialCode) (bad : Option Place) → read_text bytes ≡ Ok (record { code = code; bad = bad }) → Judged bytes
whole_read bytes code None e = let is = reads-code bytes code e in inl (code_of code, is.0, is.1)
whole_read bytes code (Some place) e = inr (inr (place.in_loop, place.line, reads-bad bytes code place e))

judged : (bytes : List ℕ) (read : Result Progress ℕ) → read_text bytes ≡ read → Judged bytes
judged bytes (Ok s) e = whole_read bytes s.code s.bad e
judged bytes (Err line) e = inr (inl (line, bad-line bytes line e))

-- bytes are one of the three
pub listed_or_bad : (bytes : List ℕ)
    → ((code : CodeParts) × IsCode code × (bytes ≡ listing code))
    ⊎ (((line : ℕ) × IsBadLine bytes line) ⊎ ((in_loop : ℕ) × (line : ℕ) × IsBadReference bytes in_loop line))
listed_or_bad bytes = judged bytes (read_text bytes) refl
