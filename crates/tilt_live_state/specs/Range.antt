-- Whether the numbers of a state fit, as tests.
use Rattle.std.specs.Prelude.{ℕ, ℤ, pos, negsuc, Bool, true, nat_lt, ◌&&◌, ◌^◌, Option, None, Some}
use Rattle.std.specs.List.{list_all}
use Rattle.tilt_feed.specs.declared.open_row.OpenRow.{OpenRow}
use Rattle.tilt_feed.specs.declared.update.Update.{Update}
use Rattle.tilt_feed.specs.declared.update.Update.TheVariants.{Row, Value, NoValue, KnownUpTo}
use Rattle.tilt_live_state.specs.State.{InputParts, LiveStateParts}
use Rattle.tilt_live_state.specs.declared.progress.Progress.{Progress}

-- whether it is a 64-bit number
abbrev pub is_number : ℤ → Bool
is_number (pos n) = nat_lt n (2 ^ 63)
is_number (negsuc n) = nat_lt n (2 ^ 63)

-- the same of a value, if it isn't null
abbrev pub is_cell : Option ℤ → Bool
is_cell None = true
is_cell (Some value) = is_number value

-- whether ticks are below 2 ^ 63, if there are some
abbrev pub is_ticks : Option ℕ → Bool
is_ticks None = true
is_ticks (Some ticks) = nat_lt ticks (2 ^ 63)

-- whether an open row has 64-bit numbers
abbrev pub is_open : Option OpenRow → Bool
is_open None = true
is_open (Some row) = is_number row.start && is_number row.value

-- whether an update has
abbrev pub is_update : Update → Bool
is_update (Row start end value) = is_number start && is_number end && is_cell value
is_update (Value start value) = is_number start && is_number value
is_update (NoValue start) = is_number start
is_update (KnownUpTo watermark) = is_number watermark

-- whether what is kept of an input has
abbrev pub has_numbers : InputParts → Bool
has_numbers input =
    list_all (λ row. is_cell row.value) input.rows && is_number input.edge.watermark && is_open input.edge.open_row
    && list_all is_update input.held

-- whether the counts and ticks of what is known of a run's progress are below 2 ^ 63, and its other numbers are 64-bit numbers
abbrev pub has_counts : Progress → Bool
has_counts p =
    is_ticks p.options.lateness && is_ticks p.options.idle && is_ticks p.options.ahead
    && nat_lt p.bytes (2 ^ 63) && nat_lt p.lines (2 ^ 63) && nat_lt p.written (2 ^ 63)
    && is_number p.from && is_cell p.shown && is_cell p.greatest && is_cell p.latest

-- the same of a state
abbrev pub is_in_range : LiveStateParts → Bool
is_in_range s = has_counts s.progress && list_all has_numbers s.inputs
