-- How many rows a text has (our own rule).
use Rattle.std.specs.Prelude.{ℕ, zero, suc, ◌-◌, ◌==◌, List, [], ◌++◌, codes, count_by}
use Rattle.std.specs.Fmt.{decimal}
use Rattle.tilt_outside.specs.Counts.{added_count}

-- how many lines a text has
abbrev pub line_count : List ℕ → ℕ
line_count text = count_by (λ byte. byte == 10) text

-- how many rows it has, if its first line is a header: as far as 64 bits count its lines
abbrev pub row_count : List ℕ → ℕ
row_count text = added_count 0 (line_count text) - 1

-- what is reported of so many rows: nothing, if there are none
abbrev pub count_report : ℕ → List ℕ
count_report zero = []
count_report (suc n) = codes "tilt: 121 results left 64 bits: " ++ (decimal (suc n) ++ codes "\n")
