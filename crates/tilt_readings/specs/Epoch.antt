-- Numbers of a unit since 1970-01-01T00:00:00Z.
use Rattle.std.specs.Prelude.{ℕ}
use Rattle.tilt_readings.specs.declared.epoch.Unit.{Unit as Units}
use Rattle.tilt_readings.specs.declared.epoch.Unit.TheVariants.{Seconds, Milliseconds, Microseconds, Nanoseconds}

-- the nanoseconds of a unit
abbrev pub nanoseconds : Units → ℕ
nanoseconds Seconds = 1_000_000_000
nanoseconds Milliseconds = 1_000_000
nanoseconds Microseconds = 1_000
nanoseconds Nanoseconds = 1
