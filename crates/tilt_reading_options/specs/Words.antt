-- The options whose texts are one of a few, and the bytes between and in fields.
use Rattle.std.specs.Prelude.{ℕ, ◌==◌, nat_lt, Bool, ◌&&◌, ◌||◌, not, if◌then◌else◌, List, [], ◌∷◌, codes, Option, Some, None}
use Rattle.std.specs.Str.{bytes_eq}
use Rattle.tilt_conventions.specs.declared.options.Ties.{Ties}
use Rattle.tilt_conventions.specs.declared.options.Ties.TheVariants as ties
use Rattle.tilt_readings.specs.declared.epoch.Unit.{Unit as Units}
use Rattle.tilt_readings.specs.declared.epoch.Unit.TheVariants as unit
use Rattle.tilt_readings.specs.declared.tick.Closed.{Closed}
use Rattle.tilt_readings.specs.declared.tick.Closed.TheVariants as closed
use Rattle.tilt_zones.specs.declared.moments.Fold.{Fold}
use Rattle.tilt_zones.specs.declared.moments.Fold.TheVariants as fold

-- what a number since 1970 counts
abbrev pub unit_named : List ℕ → Option Units
unit_named text =
    if bytes_eq text (codes "s") then Some unit.Seconds
    else if bytes_eq text (codes "ms") then Some unit.Milliseconds
    else if bytes_eq text (codes "us") then Some unit.Microseconds
    else if bytes_eq text (codes "ns") then Some unit.Nanoseconds
    else None

-- which end of a tick belongs to it
abbrev pub closed_named : List ℕ → Option Closed
closed_named text =
    if bytes_eq text (codes "left") then Some closed.Left
    else if bytes_eq text (codes "right") then Some closed.Right
    else None

-- which of several readings in one tick counts
abbrev pub ties_named : List ℕ → Option Ties
ties_named text =
    if bytes_eq text (codes "first") then Some ties.First
    else if bytes_eq text (codes "last") then Some ties.Last
    else if bytes_eq text (codes "spread") then Some ties.Spread
    else if bytes_eq text (codes "refuse") then Some ties.Refuse
    else None

-- which moment a local time means that clocks skip or show twice
abbrev pub fold_named : List ℕ → Option Fold
fold_named text =
    if bytes_eq text (codes "first") then Some fold.First
    else if bytes_eq text (codes "second") then Some fold.Second
    else None

-- a byte of ASCII that can be between fields: no quote and no end of a line
abbrev pub separates : ℕ → Bool
separates byte = nat_lt byte 128 && not ((byte == 34) || (byte == 13) || (byte == 10))

-- the only byte of a text, if it can be between fields
abbrev pub only_byte : List ℕ → Option ℕ
only_byte [] = None
only_byte (byte ∷ []) = if separates byte then Some byte else None
only_byte (byte ∷ other ∷ bytes) = None

-- the byte between fields: a tab is written as \t too
abbrev pub delimiter_named : List ℕ → Option ℕ
delimiter_named text = if bytes_eq text (codes "\\t") then Some 9 else only_byte text

-- the mark before the fraction of a number
abbrev pub mark_named : List ℕ → Option ℕ
mark_named text =
    if bytes_eq text (codes ".") then Some 46
    else if bytes_eq text (codes ",") then Some 44
    else None
