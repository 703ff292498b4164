-- How rows are written, as definitions see it.
use Rattle.std.specs.Prelude.{◌==◌, Bool, true, false, ◌&&◌}
use Rattle.tilt_row_text.specs.declared.style.RowStyle.{RowStyle}
use Rattle.tilt_row_text.specs.declared.times.Times.{Times}
use Rattle.tilt_row_text.specs.declared.times.Times.TheVariants.{Dates, Ticks}

-- whether times are ticks
abbrev pub are_ticks : Times → Bool
are_ticks Ticks = true
are_ticks (Dates clock) = false

-- whether times are ticks and values whole numbers
abbrev pub is_plain : RowStyle → Bool
is_plain style = are_ticks style.times && (style.decimals == 0)

-- rows of ticks and whole numbers
abbrev pub plain : RowStyle
plain = record { times = Ticks; decimals = 0 }
