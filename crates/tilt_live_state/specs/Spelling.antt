-- How the state of a live run is spelled (our own rule): lines that each end in LF, with numbers as shortest decimals.
use Rattle.std.specs.Prelude.{ℕ, ℤ, pos, Bool, if◌then◌else◌, List, [], ◌∷◌, ◌++◌, length, Option, None, Some, codes, flat_map}
use Rattle.std.specs.Fmt.{decimal, signed_decimal}
use Rattle.tilt_checkpoint.specs.Spelling.{query_lines, row_lines, time_text}
use Rattle.tilt_feed.specs.declared.edge.Edge.{Edge}
use Rattle.tilt_feed.specs.declared.open_row.OpenRow.{OpenRow}
use Rattle.tilt_feed.specs.declared.update.Update.{Update}
use Rattle.tilt_feed.specs.declared.update.Update.TheVariants.{Row, Value, NoValue, KnownUpTo}
use Rattle.tilt_live_state.specs.State.{InputParts, LiveStateParts}
use Rattle.tilt_live_state.specs.declared.progress.Progress.{Progress}
use Rattle.tilt_stream.specs.Text.{cell_text}
use Rattle.tilt_syntax.specs.Tree.{StatementTree}
use Rattle.tilt_watermarks.specs.declared.options.Options.{Options}

-- a field: a word, a space, a text, and the byte that ends it
abbrev pub field : ℕ → List ℕ → List ℕ → List ℕ
field mark word text = word ++ 32 ∷ (text ++ mark ∷ [])

-- a line of one field
abbrev pub line : List ℕ → List ℕ → List ℕ
line = field 10

-- ticks, or `none`
abbrev pub ticks_text : Option ℕ → List ℕ
ticks_text None = codes "none"
ticks_text (Some ticks) = decimal ticks

-- `yes` or `no`
abbrev pub flag_text : Bool → List ℕ
flag_text flag = if flag then codes "yes" else codes "no"

-- the options of the watermarks
abbrev pub options_lines : Options → List ℕ
options_lines o =
    line (codes "lateness") (ticks_text o.lateness)
    ++ (line (codes "idle") (ticks_text o.idle) ++ line (codes "ahead") (ticks_text o.ahead))

-- how many bytes and lines of the feed were taken, and how many bytes of output were written
abbrev pub counts_lines : Progress → List ℕ
counts_lines p =
    line (codes "bytes") (decimal p.bytes) ++ (line (codes "lines") (decimal p.lines) ++ line (codes "written") (decimal p.written))

-- where the output goes on, where the snapshot starts that has begun and was shown, and whether the feed is finished
abbrev pub place_lines : Progress → List ℕ
place_lines p =
    line (codes "from") (signed_decimal p.from)
    ++ (line (codes "shown") (time_text p.shown) ++ line (codes "finished") (flag_text p.finished))

-- the greatest watermark that lines have given, and the same if the lateness isn't taken off
abbrev pub marks_lines : Progress → List ℕ
marks_lines p = line (codes "greatest") (time_text p.greatest) ++ line (codes "latest") (time_text p.latest)

-- how far a run is
abbrev pub progress_lines : Progress → List ℕ
progress_lines p = options_lines p.options ++ (counts_lines p ++ (place_lines p ++ marks_lines p))

-- the start of an open row, and its value, if there is one
abbrev pub open_start : Option OpenRow → Option ℤ
open_start None = None
open_start (Some row) = Some row.start

abbrev pub open_value : Option OpenRow → Option ℤ
open_value None = None
open_value (Some row) = Some row.value

-- the line of an edge, and of how many rows and updates follow it
abbrev pub head_line : Edge → ℕ → ℕ → List ℕ
head_line edge rows held =
    field 32 (codes "watermark") (signed_decimal edge.watermark)
    ++ (field 32 (codes "open") (time_text (open_start edge.open_row))
    ++ (field 32 (codes "value") (time_text (open_value edge.open_row))
    ++ (field 32 (codes "rows") (decimal rows) ++ line (codes "held") (decimal held))))

-- the line of an update that is held
abbrev pub update_line : Update → List ℕ
update_line (Row start end value) =
    line (codes "row") (signed_decimal start ++ 44 ∷ (signed_decimal end ++ 44 ∷ cell_text value))
update_line (Value start value) = line (codes "value") (signed_decimal start ++ 44 ∷ signed_decimal value)
update_line (NoValue start) = line (codes "null") (signed_decimal start)
update_line (KnownUpTo watermark) = line (codes "known") (signed_decimal watermark)

-- of an input its edge, its rows, and the updates that are held
abbrev pub input_lines : InputParts → List ℕ
input_lines input =
    head_line input.edge (length input.rows) (length input.held) ++ (row_lines input.rows ++ flat_map update_line input.held)

-- the first line, the query, and what is after them
abbrev pub headed : List StatementTree → List ℕ → List ℕ
headed query more = codes "tilt live 1\n" ++ (query_lines query ++ more)

-- how far a run is, what is kept of each input, and the last line
abbrev pub run_lines : Progress → List InputParts → List ℕ
run_lines progress inputs = progress_lines progress ++ (flat_map input_lines inputs ++ codes "end\n")

-- a state
abbrev pub spelled : LiveStateParts → List ℕ
spelled s = headed s.query (run_lines s.progress s.inputs)
