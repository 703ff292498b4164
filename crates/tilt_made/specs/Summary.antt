-- The summary of a made run (our own rule).
use Rattle.std.specs.Prelude.{ℕ, ℤ, List, ◌++◌, length, map, codes}
use Rattle.std.specs.Fmt.{decimal, signed_decimal}
use Rattle.tilt_base.specs.Reduce.{numbers, total}
use Rattle.tilt_stream.specs.Snap.{Snapshot}

-- the values of the snapshots that aren't null, in order
abbrev pub values : List Snapshot → List ℤ
values list = numbers (map (λ s. s.value) list)

-- how many rows each series has, how many of the snapshots aren't null, and the sum of their values; each line ends in LF
abbrev pub summary_text : ℕ → List Snapshot → List ℕ
summary_text count list =
    codes "rows " ++ decimal count ++ codes " " ++ decimal count
    ++ codes "\nprinted " ++ decimal (length (values list))
    ++ codes "\nsum " ++ signed_decimal (total (values list)) ++ codes "\n"
