-- The line of a row, from its last part to its first.
use Rattle.std.proofs.Common.{◌≡◌, ℕ, List, [], ◌∷◌, ◌++◌, append_assoc}
use Rattle.std.specs.Fmt.{signed_decimal}
use Rattle.tilt_stream.specs.Snap.{Snapshot}
use Rattle.tilt_stream.specs.Text.{cell_text, row_text}

pub line_of : (s : Snapshot) (line after_start to_end after_end value last : List ℕ) → line ≡ signed_decimal s.start ++ after_start → after_start ≡ 44 ∷ to_end
    → to_end ≡ signed_decimal s.end ++ after_end → after_end ≡ 44 ∷ value → value ≡ cell_text s.value ++ last → last ≡ 10 ∷ [] → line ≡ row_text s
line_of s line after_start to_end after_end value last start comma end comma_2 cell lf = rw (start, comma, end, comma_2, cell, lf) (simp append_assoc)
