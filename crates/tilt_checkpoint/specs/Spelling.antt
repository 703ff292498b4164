-- How a checkpoint is spelled (our own rule): lines that each end in LF, with numbers as shortest decimals. There are two versions: the
-- first has one cut for all inputs, the second a cut for each.
use Rattle.std.specs.Prelude.{◌≡◌, ◌⊎◌, ℕ, ℤ, List, [], ◌++◌, length, Option, Some, None, codes, flat_map}
use Rattle.std.specs.List.{AllByRecursion}
use Rattle.std.specs.Fmt.{decimal, signed_decimal}
use Rattle.tilt_stream.specs.Snap.{Snapshot}
use Rattle.tilt_stream.specs.Text.{row_text}
use Rattle.tilt_syntax.specs.Printing.{query_text}
use Rattle.tilt_syntax.specs.Tree.{StatementTree}
use Rattle.tilt_checkpoint.specs.Checkpoint.{KeptParts, CheckpointParts}
use Rattle.tilt_checkpoint.specs.declared.version.Version.{Version}
use Rattle.tilt_checkpoint.specs.declared.version.Version.TheVariants.{First, Second}

-- the first line, with the version
abbrev pub title : Version → List ℕ
title First = codes "tilt checkpoint 1\n"
title Second = codes "tilt checkpoint 2\n"

-- the number of the query's statements, and the printed query, a line for each statement
abbrev pub query_lines : List StatementTree → List ℕ
query_lines query = codes "query " ++ (decimal (length query) ++ (codes "\n" ++ query_text query))

-- a number, or a word if there is none
abbrev pub or_word : List ℕ → Option ℤ → List ℕ
or_word nothing None = nothing
or_word nothing (Some number) = signed_decimal number

-- a time, or `none`
abbrev pub time_text : Option ℤ → List ℕ
time_text = or_word (codes "none")

-- the least cut
abbrev pub cut_line : ℤ → List ℕ
cut_line cut = codes "cut " ++ (signed_decimal cut ++ codes "\n")

-- the start of the open snapshot
abbrev pub open_line : Option ℤ → List ℕ
open_line start = codes "open " ++ (time_text start ++ codes "\n")

-- the lines of rows, including null ones
abbrev pub row_lines : List Snapshot → List ℕ
row_lines = flat_map row_text

-- of an input its cut, if each has one of its own
abbrev pub cut_words : Version → ℤ → List ℕ
cut_words First cut = []
cut_words Second cut = codes "cut " ++ (signed_decimal cut ++ codes " ")

-- of an input its cut, its last end and the number of rows, and the rows
abbrev pub series_lines : Version → KeptParts → List ℕ
series_lines version kept =
    cut_words version kept.cut
    ++ (codes "last "
    ++ (time_text kept.last_end ++ (codes " rows " ++ (decimal (length kept.rows) ++ (codes "\n" ++ row_lines kept.rows)))))

-- the lines after the query
abbrev pub body_lines : Version → ℤ → Option ℤ → List KeptParts → List ℕ
body_lines version cut start series = cut_line cut ++ (open_line start ++ (flat_map (series_lines version) series ++ codes "end\n"))

-- a checkpoint in a version
abbrev pub spelling_in : Version → CheckpointParts → List ℕ
spelling_in version c = title version ++ (query_lines c.query ++ body_lines version c.cut c.open_start c.series)

-- a checkpoint, as it is written
abbrev pub spelling : CheckpointParts → List ℕ
spelling c = spelling_in Second c

-- each input has that cut
abbrev pub HaveCut : ℤ → List KeptParts → Type 0
HaveCut cut series = AllByRecursion (λ kept. kept.cut ≡ cut) series

-- bytes spell a checkpoint: as it is written, or, if all inputs have one cut, in the first version
abbrev pub Spells : List ℕ → CheckpointParts → Type 0
Spells bytes c = (bytes ≡ spelling c) ⊎ (HaveCut c.cut c.series × (bytes ≡ spelling_in First c))
