-- The text of snapshots, and how many of them come from each part (our own rule).
use Rattle.std.specs.Prelude.{◌++◌, ℕ, List, codes}
use Rattle.std.specs.Fmt.{decimal}
use Rattle.std.specs.List.{flat_map}
use Rattle.tilt_stream.specs.Snap.{Snapshot}
use Rattle.tilt_stream.specs.Text.{text_of}

-- a blank and a number
abbrev pub size_text : ℕ → List ℕ
size_text size = codes " " ++ decimal size

-- the line `parts N N ..`
abbrev pub parts_line : List ℕ → List ℕ
parts_line sizes = codes "parts" ++ flat_map size_text sizes ++ codes "\n"

-- the text of snapshots, and then that line
abbrev pub parted_text : List Snapshot → List ℕ → List ℕ
parted_text list sizes = text_of list ++ parts_line sizes
