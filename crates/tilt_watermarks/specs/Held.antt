-- What is held of one input under lateness, and what the input hands on (our own rule).
use Rattle.std.specs.Prelude.{ℕ, ℤ, pos, ◌-ℤ◌, neg_ℤ, Bool, true, false, ◌&&◌, if◌then◌else◌, int_lt}
use Rattle.std.specs.Prelude.{List, [], ◌∷◌, ◌++◌, Option, Some, None, is_none}
use Rattle.std.specs.Int.{int_max}
use Rattle.tilt_base.specs.declared.limits.TheConstants.{T}
use Rattle.tilt_feed.specs.Events.{opened_by, update_fault, watermark_after}
use Rattle.tilt_feed.specs.declared.edge.Edge.{Edge}
use Rattle.tilt_feed.specs.declared.update.Update.{Update}
use Rattle.tilt_feed.specs.declared.update.Update.TheVariants.{Row, Value, NoValue, KnownUpTo}

-- what is kept of an input: the edge after what it has handed on, and the updates that it holds, in order of their starts
pub record Waiting : Type 0 where
  pub edge : Edge
  pub held : List Update

-- where an update starts
abbrev pub start_of : Update → ℤ
start_of (Row start end value) = start
start_of (Value start value) = start
start_of (NoValue start) = start
start_of (KnownUpTo tick) = tick

-- an edge with a watermark and no open row
abbrev pub bare : ℤ → Edge
bare watermark = record { open_row = None; watermark = watermark }

-- whether updates are allowed one after another from a watermark. An open row counts for nothing: each update has to start at the watermark
-- or after it
abbrev pub fits : ℤ → List Update → Bool
fits watermark [] = true
fits watermark (update ∷ updates) = is_none (update_fault false (bare watermark) update) && fits (watermark_after update) updates

-- the watermark after updates
abbrev pub last_watermark : ℤ → List Update → ℤ
last_watermark watermark [] = watermark
last_watermark watermark (update ∷ updates) = last_watermark (watermark_after update) updates

-- updates in order of their starts with one more; it comes after those that start where it starts
abbrev pub inserted : Update → List Update → List Update
inserted update [] = update ∷ []
inserted update (first ∷ rest) =
    if int_lt (start_of update) (start_of first) then update ∷ first ∷ rest else first ∷ inserted update rest

-- what is held when an update comes; "known up to" isn't held
abbrev pub with_update : Update → List Update → List Update
with_update (Row start end value) held = inserted (Row start end value) held
with_update (Value start value) held = inserted (Value start value) held
with_update (NoValue start) held = inserted (NoValue start) held
with_update (KnownUpTo tick) held = held

-- whether an update starts below an end; each does if there is none
abbrev pub is_due : Option ℤ → Update → Bool
is_due None update = true
is_due (Some end) update = int_lt (start_of update) end

-- of updates in order of their starts, those that start below an end
abbrev pub due : Option ℤ → List Update → List Update
due end [] = []
due end (first ∷ rest) = if is_due end first then first ∷ due end rest else []

-- and the others
abbrev pub left : Option ℤ → List Update → List Update
left end [] = []
left end (first ∷ rest) = if is_due end first then left end rest else first ∷ rest

-- an edge after an update
abbrev pub moved : Update → Edge → Edge
moved update edge = record { open_row = opened_by edge update; watermark = watermark_after update }

-- an edge after updates, one after another
abbrev pub moved_all : List Update → Edge → Edge
moved_all [] edge = edge
moved_all (update ∷ updates) edge = moved_all updates (moved update edge)

-- "known up to" an end, if the watermark is below it
abbrev pub rising : Option ℤ → Edge → List Update
rising None edge = []
rising (Some end) edge = if int_lt edge.watermark end then KnownUpTo end ∷ [] else []

-- what an input hands on in a step, and what it still holds
pub record Turn : Type 0 where
  pub handed : List Update
  pub held : List Update

-- an input becomes known up to an end at least. It hands on what it holds below the end, and then "known up to" the end if its watermark
-- is still below it. If there is no end, it hands on all that it holds
abbrev pub known : Option ℤ → Waiting → Turn
known end input = record {
  handed = due end input.held ++ rising end (moved_all (due end input.held) input.edge);
  held = left end input.held;
}

-- a tick less so many ticks, at least `-T`
abbrev pub less : ℕ → ℤ → ℤ
less ticks tick = int_max (neg_ℤ T) (tick -ℤ pos ticks)

-- a tick less the lateness, if there is one
abbrev pub less_late : Option ℕ → ℤ → ℤ
less_late None tick = tick
less_late (Some ticks) tick = less ticks tick

-- the watermark that an update gives to its input: its end less the lateness, but all that "known up to" says
abbrev pub given_by : Option ℕ → Update → ℤ
given_by lateness (Row start end value) = less_late lateness end
given_by lateness (Value start value) = less_late lateness (watermark_after (Value start value))
given_by lateness (NoValue start) = less_late lateness (watermark_after (NoValue start))
given_by lateness (KnownUpTo tick) = tick

-- an update comes. Without lateness it is handed on at once; otherwise it is held, and the input becomes known up to the watermark that the
-- update gives
abbrev pub entered : Option ℕ → Update → Waiting → Turn
entered None update input = record { handed = update ∷ []; held = input.held }
entered (Some ticks) update input =
    known (Some (given_by (Some ticks) update)) (record { edge = input.edge; held = with_update update input.held })

-- an input after a turn
abbrev pub turned : Turn → Edge → Waiting
turned turn edge = record { edge = moved_all turn.handed edge; held = turn.held }
