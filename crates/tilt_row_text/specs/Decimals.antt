-- How many decimals of a second the ends of a clock's ticks have (our own rule).
use Rattle.std.specs.Prelude.{ℕ, ◌==◌, ◌%◌, Bool, ◌&&◌, if◌then◌else◌, unsigned_abs}
use Rattle.tilt_readings.specs.declared.tick.Clock.{Clock}

-- whether all ticks end at whole multiples of so many nanoseconds: the length of a tick and the origin are such multiples
abbrev pub is_whole : Clock → ℕ → Bool
is_whole clock unit = (clock.length % unit == 0) && (unsigned_abs clock.origin % unit == 0)

-- none for whole seconds, 3 for milliseconds, 6 for microseconds, and 9 for nanoseconds
abbrev pub second_decimals : Clock → ℕ
second_decimals clock =
    if is_whole clock 1_000_000_000 then 0 else if is_whole clock 1_000_000 then 3 else if is_whole clock 1_000 then 6 else 9
