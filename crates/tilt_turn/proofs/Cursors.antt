-- Cursors that move and stand.
use Rattle.std.proofs.Common.{◌≡◌, ◌≤◌, ℕ, ℤ, ◌≤ℤ◌, List, arith}
use Rattle.std.proofs.lemmas.Int.{ints}
use Rattle.tilt_stream.proofs.Places.{ended-rises}
use Rattle.tilt_stream.specs.Snap.{Snapshot, ended_below}
use Rattle.tilt_stream.specs.declared.cursor.Cursor.{Cursor}
use Rattle.tilt_turn.specs.declared.moving.Moving.{Moving}
use Rattle.tilt_turn.specs.Held.{Knows, MayMove}

-- one that is at a tick may move from there
pub may-stay : (list : List Snapshot) (tick : ℤ) (c : Cursor) → c ≡ record { tick = tick; place = ended_below tick list } → MayMove list tick c
may-stay list tick c is = rw is (record { fits = omega arith; onwards = omega (arith, ints) })

-- so may that of a window that knows its list
pub knows-may : (list : List Snapshot) (later : ℤ) (w : Moving) → Knows list w → w.back.tick ≤ℤ later → MayMove list later w.back
knows-may list later w knows onwards = let place = knows.place in record { fits = omega arith; onwards = onwards }

-- one that may move to a tick may move to a later one
pub may-later : (list : List Snapshot) (tick later : ℤ) (c : Cursor) → MayMove list tick c → tick ≤ℤ later → MayMove list later c
may-later list tick later c may onwards =
    let low = may.onwards in
    record { fits = may.fits; onwards = omega (arith, ints) }

-- what is kept from a tick on is kept from a later one on
pub kept-later : (list : List Snapshot) (forgotten : ℕ) (tick later : ℤ) → forgotten ≤ ended_below tick list → tick ≤ℤ later
    → forgotten ≤ ended_below later list
kept-later list forgotten tick later kept onwards = let rise = ended-rises tick later list onwards in omega arith
