-- Where a feed is, by its bytes.
use Rattle.std.specs.Prelude.{ℕ, ◌+◌, List, length}
use Rattle.tilt_feed_text.specs.Split.{ended, unfinished}
use Rattle.tilt_live_run.specs.declared.place.Place.{Place}
use Rattle.tilt_outside.specs.Counts.{added_count}

-- where it is after so many bytes more, of which none is an LF
abbrev pub passed : Place → ℕ → Place
passed place bytes = record { ended = place.ended; unended = added_count place.unended bytes }

-- and after an LF behind them
abbrev pub passed_line : Place → ℕ → Place
passed_line place bytes = record { ended = added_count place.ended (place.unended + bytes + 1); unended = 0 }

-- where it is after these bytes: how many are up to the last LF, and how many come after it, as far as counts go
abbrev pub place_of : List ℕ → Place
place_of bytes = record { ended = added_count 0 (length (ended bytes)); unended = added_count 0 (length (unfinished bytes)) }
