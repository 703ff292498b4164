-- How what is kept of a text of readings is spelled (our own rule): lines that each end in LF, with numbers as shortest decimals.
use Rattle.std.specs.Prelude.{ℕ, ℤ, List, ◌++◌, length, Option, None, Some, codes, flat_map}
use Rattle.std.specs.Fmt.{decimal, signed_decimal}
use Rattle.tilt_checkpoint.specs.Spelling.{time_text}
use Rattle.tilt_conventions.specs.Steps.{Kept}
use Rattle.tilt_conventions.specs.declared.turn.Reading.{Reading}
use Rattle.tilt_feed.specs.declared.edge.Edge.{Edge}
use Rattle.tilt_live_state.specs.Spelling.{field, flag_text, line, open_start, open_value}
use Rattle.tilt_reading_feed.specs.Kept.{BareKept}
use Rattle.tilt_reading_lines.specs.Rules.{Layout, Values, Named, OfInputs}
use Rattle.tilt_reading_text.specs.Kept.{BareText}

-- where the values of an input are
abbrev pub place_line : ℕ → List ℕ
place_line place = line (codes "place") (decimal place)

-- where names and values are, or how many inputs have a column of their own, and where it is
abbrev pub values_lines : Values → List ℕ
values_lines (Named name value) = field 32 (codes "named") (decimal name) ++ line (codes "value") (decimal value)
values_lines (OfInputs places) = line (codes "places") (decimal (length places)) ++ flat_map place_line places

-- how many fields a record has, and where its time and its values are
abbrev pub layout_lines : Layout → List ℕ
layout_lines layout =
    field 32 (codes "columns") (decimal layout.count) ++ (field 32 (codes "time") (decimal layout.time) ++ values_lines layout.values)

-- the same, if the header has come
abbrev pub header_lines : Option Layout → List ℕ
header_lines None = codes "no columns\n"
header_lines (Some layout) = layout_lines layout

-- the tick of a reading, and its value, if there is one
abbrev pub latest_tick : Option Reading → Option ℤ
latest_tick None = None
latest_tick (Some reading) = Some reading.tick

abbrev pub latest_value : Option Reading → Option ℤ
latest_value None = None
latest_value (Some reading) = reading.value

-- where what an input has handed on ends
abbrev pub edge_fields : Edge → List ℕ
edge_fields edge =
    field 32 (codes "watermark") (signed_decimal edge.watermark)
    ++ (field 32 (codes "open") (time_text (open_start edge.open_row))
    ++ field 32 (codes "value") (time_text (open_value edge.open_row)))

-- the reading that counts in the latest tick that has one
abbrev pub latest_fields : Option Reading → List ℕ
latest_fields latest =
    field 32 (codes "latest") (time_text (latest_tick latest)) ++ field 32 (codes "reading") (time_text (latest_value latest))

-- what is kept of an input
abbrev pub input_line : Kept → List ℕ
input_line kept =
    edge_fields kept.edge
    ++ (field 32 (codes "mark") (signed_decimal kept.mark)
    ++ (latest_fields kept.latest ++ line (codes "skipped") (decimal kept.skipped)))

-- whether the feed is finished, how many inputs it has, and what is kept of each
abbrev pub readings_lines : BareKept → List ℕ
readings_lines readings =
    line (codes "finished") (flag_text readings.finished)
    ++ (line (codes "inputs") (decimal (length readings.inputs)) ++ flat_map input_line readings.inputs)

-- what is kept of a text
abbrev pub spelled_kept : BareText → List ℕ
spelled_kept kept = header_lines kept.layout ++ readings_lines kept.readings
