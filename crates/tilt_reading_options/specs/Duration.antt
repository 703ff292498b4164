-- Whole numbers above 0, and durations as 250ms.
use Rattle.std.specs.Prelude.{ℕ, ◌*◌, ◌/◌, ◌%◌, ◌^◌, ◌-◌, ◌==◌, nat_le, ◌&&◌, if◌then◌else◌, List, codes, drop, take, Option, Some, None}
use Rattle.std.specs.Char.{is_ascii_digit}
use Rattle.std.specs.List.{prefix_len}
use Rattle.std.specs.Str.{bytes_eq}
use Rattle.tilt_base.specs.Number.{natural_spelled}
use Rattle.tilt_text.specs.Step.{◌>>=◌}

-- a number from 1 to another one
abbrev pub up_to : ℕ → ℕ → Option ℕ
up_to greatest n = if nat_le 1 n && nat_le n greatest then Some n else None

-- the number from 1 to another one that one or more digits spell
abbrev pub whole_said : ℕ → List ℕ → Option ℕ
whole_said greatest text = natural_spelled text >>= up_to greatest

-- the nanoseconds of a unit
abbrev pub unit_length : List ℕ → Option ℕ
unit_length unit =
    if bytes_eq unit (codes "ns") then Some 1
    else if bytes_eq unit (codes "us") then Some 1_000
    else if bytes_eq unit (codes "ms") then Some 1_000_000
    else if bytes_eq unit (codes "s") then Some 1_000_000_000
    else if bytes_eq unit (codes "min") then Some 60_000_000_000
    else if bytes_eq unit (codes "h") then Some 3_600_000_000_000
    else if bytes_eq unit (codes "d") then Some 86_400_000_000_000
    else None

-- the digits at the start of a text, and what comes after them
abbrev pub digits_of : List ℕ → List ℕ
digits_of text = take (prefix_len is_ascii_digit text) text

abbrev pub unit_of : List ℕ → List ℕ
unit_of text = drop (prefix_len is_ascii_digit text) text

-- so many times a length, if 63 bits hold it
abbrev pub times : ℕ → ℕ → Option ℕ
times count length = up_to (2 ^ 63 - 1) (count * length)

-- the nanoseconds of a duration: a whole number above 0 and a unit, at most 2^63 - 1
abbrev pub duration_said : List ℕ → Option ℕ
duration_said text = whole_said (2 ^ 63 - 1) (digits_of text) >>= (λ count. unit_length (unit_of text) >>= times count)

-- how many ticks of a length are in a duration, if they are whole
abbrev pub whole_ticks : ℕ → ℕ → Option ℕ
whole_ticks tick duration = if duration % tick == 0 then Some (duration / tick) else None

-- the ticks that a text says
abbrev pub ticks_said : ℕ → List ℕ → Option ℕ
ticks_said tick text = duration_said text >>= whole_ticks tick
