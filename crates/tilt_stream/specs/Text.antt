-- The text of snapshots: a header, and a line for each one that isn't null (our own rule; each line ends in LF).
use Rattle.std.specs.Prelude.{ℕ, List, [], ◌∷◌, ◌++◌, ℤ, Option, Some, None, codes, is_some, if◌then◌else◌}
use Rattle.std.specs.Fmt.{signed_decimal}
use Rattle.tilt_stream.specs.Snap.{Snapshot}

-- a value as shortest decimal, and nothing for null
abbrev pub cell_text : Option ℤ → List ℕ
cell_text None = []
cell_text (Some value) = signed_decimal value

-- the line `start,end,value`, the times as shortest decimals
abbrev pub row_text : Snapshot → List ℕ
row_text s = signed_decimal s.start ++ codes "," ++ signed_decimal s.end ++ codes "," ++ cell_text s.value ++ codes "\n"

-- the lines of those that aren't null, in order
abbrev pub lines_of : List Snapshot → List ℕ
lines_of [] = []
lines_of (s ∷ ss) = if is_some s.value then row_text s ++ lines_of ss else lines_of ss

-- the header line, and then the lines
abbrev pub text_of : List Snapshot → List ℕ
text_of list = codes "start,end,value\n" ++ lines_of list
