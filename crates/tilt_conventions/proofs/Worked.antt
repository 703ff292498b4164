-- Worked examples of conventions: the files of docs/DATA.md, with ticks from midnight.
use Rattle.std.proofs.Common.{◌≡◌, ℤ, pos, List, [], ◌∷◌, Option, Some, None, refl}
use Rattle.tilt_conventions.specs.Cells.{last_by, value_at}
use Rattle.tilt_conventions.specs.Laws.{converted}
use Rattle.tilt_conventions.specs.Rows.{age_of, counted, rows_of}
use Rattle.tilt_conventions.specs.Steps.{last_updates, turn_fault}
use Rattle.tilt_conventions.specs.declared.fault.TurnFault.TheVariants.{Late, Tie}
use Rattle.tilt_conventions.specs.declared.options.Convention.TheVariants.{Hold, Event}
use Rattle.tilt_conventions.specs.declared.options.Options.{Options}
use Rattle.tilt_conventions.specs.declared.options.Ties.TheVariants.{First, Last, Refuse, Spread}
use Rattle.tilt_conventions.specs.declared.turn.Reading.{Reading}
use Rattle.tilt_conventions.specs.declared.turn.Turn.{Turn}
use Rattle.tilt_conventions.specs.declared.turn.Turn.TheVariants as turn
use Rattle.tilt_feed.specs.declared.update.Update.TheVariants.{Value, NoValue, KnownUpTo}
use Rattle.tilt_stream.specs.Snap.{Snapshot}

abbrev one : ℤ → Option ℤ → Reading
one tick value = record { tick = tick; value = value }

abbrev row : ℤ → ℤ → ℤ → Snapshot
row start end value = record { start = start; end = end; value = Some value }

-- `temp` of readings.csv holds, with ticks of a second; the third reading has no value
abbrev temp : List Reading
temp = one (pos 21601) (Some (pos 2050)) ∷ one (pos 21606) (Some (pos 2075)) ∷ one (pos 21611) None ∷ one (pos 21613) (Some (pos 2100))
    ∷ one (pos 21632) (Some (pos 2150)) ∷ []

pub held-rows : rows_of None temp (pos 21632) ≡ row (pos 21600) (pos 21605) (pos 2050) ∷ row (pos 21605) (pos 21610) (pos 2075)
    ∷ row (pos 21612) (pos 21631) (pos 2100) ∷ row (pos 21631) (pos 21632) (pos 2150) ∷ []
held-rows = refl

pub held-at : value_at None (pos 21612) (last_by (pos 21612) temp) ≡ None
held-at = refl

pub held-then : value_at None (pos 21613) (last_by (pos 21613) temp) ≡ Some (pos 2100)
held-then = refl

-- `temp` of the station north of tall.csv, and a reading after a gap: each holds for 60 ticks at most
abbrev north : List Reading
north = one (pos 1) (Some (pos 205)) ∷ one (pos 61) (Some (pos 215)) ∷ one (pos 131) (Some (pos 217)) ∷ []

pub aged-rows : rows_of (Some 60) north (pos 1000) ≡ row (pos 0) (pos 60) (pos 205) ∷ row (pos 60) (pos 120) (pos 215) ∷ row (pos 130) (pos 190) (pos 217) ∷ []
aged-rows = refl

-- `power` of readings.csv as events, with ticks of five seconds: two of them are in one tick
abbrev power : List Reading
power = one (pos 4321) (Some (pos 3)) ∷ one (pos 4322) (Some (pos 4)) ∷ one (pos 4323) (Some (pos 5)) ∷ one (pos 4323) (Some (pos 6))
    ∷ one (pos 4327) (Some (pos 7)) ∷ []

pub last-rows : rows_of (age_of Event) (counted Last power) (pos 4327) ≡ row (pos 4320) (pos 4321) (pos 3) ∷ row (pos 4321) (pos 4322) (pos 4)
    ∷ row (pos 4322) (pos 4323) (pos 6) ∷ row (pos 4326) (pos 4327) (pos 7) ∷ []
last-rows = refl

pub first-rows : rows_of (age_of Event) (counted First power) (pos 4327) ≡ row (pos 4320) (pos 4321) (pos 3) ∷ row (pos 4321) (pos 4322) (pos 4)
    ∷ row (pos 4322) (pos 4323) (pos 5) ∷ row (pos 4326) (pos 4327) (pos 7) ∷ []
first-rows = refl

pub spread-rows : rows_of (age_of Event) (counted Spread power) (pos 4327) ≡ row (pos 4320) (pos 4321) (pos 3) ∷ row (pos 4321) (pos 4322) (pos 4)
    ∷ row (pos 4322) (pos 4323) (pos 5) ∷ row (pos 4323) (pos 4324) (pos 6) ∷ row (pos 4326) (pos 4327) (pos 7) ∷ []
spread-rows = refl

-- under `last` a reading waits: it is handed on when the input is known beyond its tick, and ends by its age then
abbrev late_hold : Options
late_hold = record { convention = Hold (Some 10); ties = Last }

abbrev two_turns : List Turn
two_turns = turn.Reading (one (pos 5) (Some (pos 1))) ∷ turn.Reading (one (pos 5) (Some (pos 2))) ∷ []

pub waits-still : (converted late_hold two_turns).updates ≡ KnownUpTo (pos 4) ∷ []
waits-still = refl

pub handed-at-last : last_updates late_hold (converted late_hold two_turns).kept ≡ Value (pos 4) (pos 2) ∷ NoValue (pos 14) ∷ []
handed-at-last = refl

-- a second reading in its tick is refused, if ties are; one before it is late
pub tie-refused : turn_fault Refuse (converted (record { convention = Event; ties = Refuse }) (turn.Reading (one (pos 5) None) ∷ [])).kept (turn.Reading (one (pos 5) None))
    ≡ Some Tie
tie-refused = refl

pub late-reading : turn_fault Last (converted late_hold two_turns).kept (turn.Reading (one (pos 4) None)) ≡ Some Late
late-reading = refl
