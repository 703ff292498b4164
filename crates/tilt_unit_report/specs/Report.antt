-- What is printed of a query in units (our own rule). Each line ends in LF; numbers are shortest decimals.
use Rattle.std.specs.Prelude.{ℕ, suc, ℤ, List, [], ◌∷◌, ◌++◌, Result, Ok, Err, length, codes}
use Rattle.std.specs.Fmt.{decimal, signed_decimal}
use Rattle.std.specs.List.{slice_index_or}
use Rattle.tilt_core.specs.Core.{CoreParts, emitted_number}
use Rattle.tilt_input_scales.specs.Scales.{ScalesValue, scale_named}
use Rattle.tilt_magnitudes.specs.Interval.{Interval}
use Rattle.tilt_magnitudes.specs.Magnitude.{interval_at}
use Rattle.tilt_magnitudes.specs.declared.overflow.Overflow.{Overflow}
use Rattle.tilt_syntax.specs.Printing.{query_text}
use Rattle.tilt_syntax.specs.Tree.{StatementTree}
use Rattle.tilt_unit_report.specs.Bound.{rate_named, values_for}
use Rattle.tilt_unit_report.specs.IllScaled.{ill_scaled_of, magnitudes_of}
use Rattle.tilt_unit_report.specs.declared.bound.InputBound.{InputBound}
use Rattle.tilt_unit_report.specs.declared.ill_scaled.IllScaled.{IllScaled}

-- what a line ends with: two numbers after blanks
abbrev pub two_numbers : ℤ → ℤ → List ℕ
two_numbers m n = codes " " ++ signed_decimal m ++ codes " " ++ signed_decimal n ++ codes "\n"

-- `scale NAME S`: the numbers of the input are S times its values
abbrev pub scale_line : ScalesValue → List ℕ → List ℕ
scale_line scales name = codes "scale " ++ name ++ codes " " ++ decimal (scale_named scales name) ++ codes "\n"

-- `rate NAME M N`: the input has at most M marks in any N ticks
abbrev pub rate_line : List InputBound → List ℕ → List ℕ
rate_line bounds name =
    codes "rate " ++ name ++ codes " " ++ decimal (rate_named bounds name).marks ++ codes " " ++ decimal (rate_named bounds name).ticks ++ codes "\n"

-- `bound NAME LEAST GREATEST`: the numbers of the source are from LEAST to GREATEST
abbrev pub bound_line : List ℕ → Interval → List ℕ
bound_line name i = codes "bound " ++ name ++ two_numbers i.low i.high

-- lines for each name
abbrev pub lines_of : (List ℕ → List ℕ) → List (List ℕ) → List ℕ
lines_of line [] = []
lines_of line (name ∷ names) = line name ++ lines_of line names

-- lines for each source with one of these names, of which the first has a number
abbrev pub bound_lines : List Interval → ℕ → List (List ℕ) → List ℕ
bound_lines all source [] = []
bound_lines all source (name ∷ names) = bound_line name (interval_at all source) ++ bound_lines all (suc source) names

-- the name of the definition with a number; what is emitted has none
abbrev pub definition_name : List (List ℕ) → ℕ → List ℕ
definition_name names number = slice_index_or names number (codes "emit")

-- `overflow NAME STATEMENT LEAST GREATEST`: a node of the statement has this exact interval, which 64 bits don't hold
abbrev pub overflow_line : List (List ℕ) → IllScaled → List ℕ
overflow_line names ill =
    codes "overflow " ++ definition_name names ill.definition ++ codes " " ++ decimal ill.statement ++ two_numbers ill.bounds.low ill.bounds.high

-- the bounds of the definitions, and of what is emitted
abbrev pub source_lines : CoreParts → List Interval → List ℕ
source_lines core all = bound_lines all (length core.inputs) core.names ++ bound_line (codes "emit") (interval_at all (emitted_number core))

-- the same; or the first node that can leave 64 bits, and no bounds
abbrev pub magnitude_lines : List StatementTree → CoreParts → Result (List Interval) Overflow → List ℕ
magnitude_lines query core (Ok all) = source_lines core all
magnitude_lines query core (Err overflow) = overflow_line core.names (ill_scaled_of query overflow)

-- `decimals N`: the values of the output are its numbers divided by 10^N
abbrev pub decimals_line : ℕ → List ℕ
decimals_line decimals = codes "decimals " ++ decimal decimals ++ codes "\n"

-- the scales of the inputs, the decimals of the output, and the rates of the inputs
abbrev pub input_lines : List (List ℕ) → ℕ → ScalesValue → List InputBound → List ℕ
input_lines names decimals scales bounds = lines_of (scale_line scales) names ++ decimals_line decimals ++ lines_of (rate_line bounds) names

-- the query over whole numbers
abbrev pub query_lines : List StatementTree → List ℕ
query_lines query = codes "query\n" ++ query_text query

-- the whole text: what is given of the inputs and the output, the bounds of all sources in order, and the query
abbrev pub report_text : List StatementTree → CoreParts → ℕ → ScalesValue → List InputBound → List ℕ
report_text query core decimals scales bounds =
    input_lines core.inputs decimals scales bounds
    ++ bound_lines (values_for bounds core.inputs) 0 core.inputs
    ++ magnitude_lines query core (magnitudes_of core bounds)
    ++ query_lines query
