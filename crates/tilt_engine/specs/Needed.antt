-- How many rows and snapshots of a code's run are still needed (our own rule). It is said by the code, a feed and how many snapshots were
-- returned: what the next turns of the loops may read, and what wasn't returned.
use Rattle.std.specs.Prelude.{ℕ, suc, ◌+◌, ◌-◌, ℤ, if◌then◌else◌, int_lt, List, [], ◌∷◌, ◌++◌, map, length, Option, None}
use Rattle.tilt_code.specs.Code.{CodeParts}
use Rattle.tilt_engine.specs.CodeHorizon.{code_horizons}
use Rattle.tilt_engine.specs.AtRest.{horizons_of, last_horizon, run_at_rest}
use Rattle.tilt_feed.specs.Feed.{Feed}
use Rattle.tilt_feed.specs.Horizon.{Horizon, horizon_of, is_known_at}
use Rattle.tilt_feed.specs.Resting.{all_resting}
use Rattle.tilt_pipe.specs.Made.{Stage, Work, works_of}
use Rattle.tilt_pipe.specs.Reads.{body_reads, earlier, first_tick, turn_point}
use Rattle.tilt_pipe.specs.Rings.{kept_from, position}
use Rattle.tilt_stream.specs.Snap.{Snapshot}

-- the snapshots of a buffer whose ends are known
abbrev pub known_part : Horizon → List Snapshot → List Snapshot
known_part h [] = []
known_part h (s ∷ ss) = if is_known_at h s.end then s ∷ known_part h ss else []

-- loops with what is known of their buffers, of which the first has the number
abbrev pub stages_by : List Horizon → ℕ → List Work → List Stage
stages_by hs number [] = []
stages_by hs number (w ∷ works) = record { work = w; made = known_part (horizon_of hs number) w.whole } ∷ stages_by hs (suc number) works

-- the loops of a code with what is known of them after a feed
abbrev pub known_stages : CodeParts → Feed → List Stage
known_stages code feed = stages_by (code_horizons code (horizons_of feed)) (length code.inputs) (works_of code (all_resting feed))

-- what is known of each buffer: the closed rows of an input, and the known snapshots of a loop
abbrev pub known_lists : CodeParts → Feed → List (List Snapshot)
known_lists code feed = map (λ input. input.rows) feed.inputs ++ map (λ stage. stage.made) (known_stages code feed)

-- the first tick of a buffer that the next turn of a loop reads, if it makes one more: that turn begins where the known snapshots end
abbrev pub turn_read : ℕ → Stage → Option ℤ
turn_read buffer s =
    if int_lt (position s) s.work.loop.hi then first_tick buffer (turn_point s.work.loop (position s)) (body_reads s.work.loop.body) else None

-- the first tick of a buffer that the next turns of these loops read
abbrev pub first_read : ℕ → List Stage → Option ℤ
first_read buffer [] = None
first_read buffer (s ∷ stages) = earlier (turn_read buffer s) (first_read buffer stages)

-- how many snapshots of these buffers, the first of which has the number, the loops may still read. These are the ones that end at the
-- first tick that is read of the buffer, or above it
abbrev pub still_read : List Stage → ℕ → List (List Snapshot) → ℕ
still_read stages number [] = 0
still_read stages number (list ∷ lists) = length (kept_from (first_read number stages) list) + still_read stages (suc number) lists

-- how many known snapshots of the run weren't returned
abbrev pub unreturned : CodeParts → Feed → ℕ → ℕ
unreturned code feed given = length (known_part (last_horizon code feed) (run_at_rest code feed)) - given

-- how many are needed
abbrev pub needed : CodeParts → Feed → ℕ → ℕ
needed code feed given = still_read (known_stages code feed) 0 (known_lists code feed) + unreturned code feed given
