-- Whether a converter can go on from what is kept (our own rule).
use Rattle.std.specs.Prelude.{Bool, true, Option, Some, None}
use Rattle.tilt_conventions.specs.Steps.{Kept, is_reading_time}
use Rattle.tilt_conventions.specs.declared.turn.Reading.{Reading}

-- whether a reading's tick can be one, if there is a reading
abbrev pub has_reading_time : Option Reading → Bool
has_reading_time None = true
has_reading_time (Some reading) = is_reading_time reading.tick

-- whether the reading that counts in the latest tick has such a tick
abbrev pub fits : Kept → Bool
fits kept = has_reading_time kept.latest
