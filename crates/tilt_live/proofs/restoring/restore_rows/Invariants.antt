use Rattle.std.proofs.Common.{◌≡◌, ℕ, drop}
use Rattle.tilt_code.specs.Code.{CodeParts}
use Rattle.tilt_engine.specs.Engines.{IsEngineOf, room_of}
use Rattle.tilt_feed.specs.Events.{after_all}
use Rattle.tilt_feed.specs.Feed.{Feed}
use Rattle.tilt_resume.specs.Restoring.{row_events}
use Rattle.tilt_live.proofs.restoring.restore_rows.Given as goal

abbrev pub invariant-loop-row : goal.invariant-loop-row
invariant-loop-row l = record {
  of : (code : CodeParts) (feed : Feed) (given : ℕ) → IsEngineOf l.fn.engine code feed given
      → (now : Feed) × IsEngineOf l.engine code now given
      × (after_all (row_events l.fn.number (drop l.row-index l.fn.rows)) now ≡ after_all (row_events l.fn.number l.fn.rows) feed);
  room : room_of l.engine ≡ room_of l.fn.engine;
}
