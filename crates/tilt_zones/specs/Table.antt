-- Which transitions a zone takes from a file.
use Rattle.std.specs.Prelude.{ℕ, zero, suc, ◌-◌, ◌==◌, nat_lt, ◌||◌, ◌&&◌, if◌then◌else◌, List, [], ◌∷◌, length, ℤ, pos, neg_ℤ, Option, Some, None, is_none}
use Rattle.jiff_tz.specs.Tzif.{floor_second, next_at, offset_at}
use Rattle.jiff_tz.specs.declared.info.OffsetInfo.{OffsetInfo}
use Rattle.jiff_tz.specs.declared.tzif.Tzif.{Tzif}
use Rattle.tilt_zones.specs.Order.{transition_at}
use Rattle.tilt_zones.specs.declared.read.TheConstants.{END, MOST}
use Rattle.tilt_zones.specs.Zone.{ZoneParts}
use Rattle.tilt_zones.specs.declared.transition.Transition.{Transition}

-- the first moment of `jiff_tz`, in nanoseconds
abbrev pub start : ℤ
start = neg_ℤ (pos 377_705_023_201_000_000_000)

-- a transition in whole seconds
abbrev pub transition_of : ℤ × OffsetInfo → Transition
transition_of found = record { moment = floor_second found.0; offset = found.1.offset.seconds }

-- a transition if there is one, and then what follows it
abbrev pub followed_by : (ℤ → List Transition) → Option (ℤ × OffsetInfo) → List Transition
followed_by rest None = []
followed_by rest (Some found) = transition_of found ∷ rest found.0

-- the next transitions after a moment, one after another, at most so many
unfoldable pub next_transitions : ℕ → Tzif → ℤ → List Transition
next_transitions zero table n = []
next_transitions (suc count) table n = followed_by (next_transitions count table) (next_at table n)

-- the transitions of a table
unfoldable pub transitions_of : Tzif → List Transition
transitions_of table = next_transitions MOST table start

-- the offset before them
unfoldable pub first_of : Tzif → ℤ
first_of table = (offset_at table start).seconds

-- the moment before which they say what clocks show: the last one, if there can be others after it
abbrev pub end_of : Tzif → List Transition → ℤ
end_of table ts =
    if (length ts == MOST) || (is_none table.posix_tz && nat_lt 0 (length ts)) then (transition_at ts (length ts - 1)).moment else END

-- the zone of a table
abbrev pub zone_of : Tzif → ZoneParts
zone_of table = record { first = first_of table; transitions = transitions_of table; end = end_of table (transitions_of table) }
