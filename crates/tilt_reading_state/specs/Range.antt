-- Whether the numbers of what is kept are in range, as tests.
use Rattle.std.specs.Prelude.{ℕ, ℤ, pos, negsuc, Bool, true, nat_lt, ◌&&◌, ◌^◌, Option, None, Some}
use Rattle.std.specs.List.{list_all}
use Rattle.tilt_conventions.specs.Steps.{Kept}
use Rattle.tilt_conventions.specs.declared.turn.Reading.{Reading}
use Rattle.tilt_feed.specs.declared.open_row.OpenRow.{OpenRow}
use Rattle.tilt_reading_lines.specs.Rules.{Layout, Values, Named, OfInputs}
use Rattle.tilt_reading_text.specs.Kept.{BareText}

-- whether it is a 64-bit number
abbrev pub is_number : ℤ → Bool
is_number (pos n) = nat_lt n (2 ^ 63)
is_number (negsuc n) = nat_lt n (2 ^ 63)

-- the same of a value, if it isn't null
abbrev pub is_cell : Option ℤ → Bool
is_cell None = true
is_cell (Some value) = is_number value

-- whether a place or a count is below 2 ^ 63
abbrev pub is_count : ℕ → Bool
is_count n = nat_lt n (2 ^ 63)

-- whether places are
abbrev pub are_places : Values → Bool
are_places (Named name value) = is_count name && is_count value
are_places (OfInputs places) = list_all is_count places

-- whether those of a layout are
abbrev pub is_layout : Layout → Bool
is_layout layout = is_count layout.count && is_count layout.time && are_places layout.values

-- the same, if the header has come
abbrev pub is_header : Option Layout → Bool
is_header None = true
is_header (Some layout) = is_layout layout

-- whether an open row has 64-bit numbers
abbrev pub is_open : Option OpenRow → Bool
is_open None = true
is_open (Some row) = is_number row.start && is_number row.value

-- whether a reading has
abbrev pub is_reading : Option Reading → Bool
is_reading None = true
is_reading (Some reading) = is_number reading.tick && is_cell reading.value

-- whether what is kept of an input has, and its count is below 2 ^ 63
abbrev pub has_numbers : Kept → Bool
has_numbers kept =
    is_number kept.edge.watermark && is_open kept.edge.open_row && is_number kept.mark && is_reading kept.latest && is_count kept.skipped

-- whether what is kept of a text has, and its places and counts are below 2 ^ 63
abbrev pub is_in_range : BareText → Bool
is_in_range kept = is_header kept.layout && list_all has_numbers kept.readings.inputs
