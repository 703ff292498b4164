-- What each kind of watcher starts with, its step, and which pairs are its ends (our own rule).
use Rattle.std.specs.Prelude.{ℤ, pos, negsuc, ◌+ℤ◌, Bool, false, ◌&&◌, not, int_lt, int_le, Option, Some, None}
use Rattle.std.specs.Int.{int_min, int_max}
use Rattle.std.specs.Ordering.{int_eq}
use Rattle.tilt_stream.specs.Snap.{Snapshot}

-- the end of 64 bits above, and the one below
abbrev pub highest : ℤ
highest = pos 9223372036854775807

abbrev pub lowest : ℤ
lowest = negsuc 9223372036854775807

-- the number, or the end of 64 bits that is nearest to it
abbrev pub saturated : ℤ → ℤ
saturated n = int_max lowest (int_min highest n)

-- nothing was counted, and nothing added
abbrev pub tally_begin : ℤ × ℤ
tally_begin = (pos 0, pos 0)

-- one more, and the value added, both as far as 64 bits go; no value changes nothing
abbrev pub tallied : ℤ × ℤ → Option ℤ → ℤ × ℤ
tallied pair None = pair
tallied pair (Some value) = (saturated (pair.0 +ℤ pos 1), saturated (pair.1 +ℤ value))

-- counts rows and adds their values
abbrev pub tally_step : ℤ × ℤ → Snapshot → ℤ × ℤ
tally_step pair row = tallied pair row.value

-- no minimum yet, and no maximum
abbrev pub extremes_begin : ℤ × ℤ
extremes_begin = (highest, lowest)

-- the lesser of the first and the value, and the greater of the second and the value; no value changes nothing
abbrev pub widened : ℤ × ℤ → Option ℤ → ℤ × ℤ
widened pair None = pair
widened pair (Some value) = (int_min pair.0 value, int_max pair.1 value)

-- the minimum and the maximum value
abbrev pub range_step : ℤ × ℤ → Snapshot → ℤ × ℤ
range_step pair row = widened pair row.value

-- the minimum start and the maximum end
abbrev pub ends_step : ℤ × ℤ → Snapshot → ℤ × ℤ
ends_step pair row = (int_min pair.0 row.start, int_max pair.1 row.end)

-- no pair is an end
abbrev pub no_end : ℤ × ℤ → Bool
no_end pair = false

-- this many rows were counted
abbrev pub first_rows_end : ℤ → ℤ × ℤ → Bool
first_rows_end limit pair = int_le limit pair.0

-- nothing was counted, and no second figure yet
abbrev pub until_begin : ℤ × ℤ
until_begin = (pos 0, lowest)

-- one more, as far as 64 bits go, and the greater of the second and the value; no value changes nothing
abbrev pub counted_greatest : ℤ × ℤ → Option ℤ → ℤ × ℤ
counted_greatest pair None = pair
counted_greatest pair (Some value) = (saturated (pair.0 +ℤ pos 1), int_max pair.1 value)

-- counts rows, and keeps the maximum value
abbrev pub until_above_step : ℤ × ℤ → Snapshot → ℤ × ℤ
until_above_step pair row = counted_greatest pair row.value

-- the maximum value is above the limit
abbrev pub until_above_end : ℤ → ℤ × ℤ → Bool
until_above_end limit pair = int_lt limit pair.1

-- counts rows, and keeps the end of the last one
abbrev pub until_time_step : ℤ × ℤ → Snapshot → ℤ × ℤ
until_time_step pair row = (saturated (pair.0 +ℤ pos 1), row.end)

-- the last row ends at the limit or later, and there was one
abbrev pub until_time_end : ℤ → ℤ × ℤ → Bool
until_time_end limit pair = int_le limit pair.1 && not (int_eq pair.0 (pos 0))
