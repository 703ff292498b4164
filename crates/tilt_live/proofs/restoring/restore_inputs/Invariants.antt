use Rattle.std.proofs.Common.{◌≡◌, ℕ, drop, take}
use Rattle.std.specs.List.{AllByRecursion}
use Rattle.tilt_code.specs.Code.{CodeParts}
use Rattle.tilt_engine.specs.Engines.{IsEngineOf, room_of}
use Rattle.tilt_feed.specs.Events.{after_all}
use Rattle.tilt_feed.specs.Feed.{Feed}
use Rattle.tilt_feed.specs.Laws.{IsInOrder}
use Rattle.tilt_resume.specs.Restoring.{all_events}
use Rattle.tilt_live.proofs.restoring.restore_inputs.Given as goal

abbrev pub invariant-loop-input : goal.invariant-loop-input
invariant-loop-input l = record {
  of : (code : CodeParts) (feed : Feed) (given : ℕ) → IsEngineOf l.fn.engine code feed given
      → (now : Feed) × IsEngineOf l.engine code now given
      × (after_all (all_events l.input-index (drop l.input-index l.fn.inputs)) now ≡ after_all (all_events 0 l.fn.inputs) feed);
  number : l.number ≡ l.input-index;
  order : AllByRecursion IsInOrder (take l.input-index l.fn.inputs);
  room : room_of l.engine ≡ room_of l.fn.engine;
}
