use Rattle.std.proofs.Common.{◌≡◌, map, take}
use Rattle.tilt_reading_feed.specs.Laws.{HoldTicks}
use Rattle.tilt_reading_options.specs.Form.{options_with}
use Rattle.tilt_reading_options.proofs.form.make_options.Given as goal

abbrev pub invariant-loop-at : goal.invariant-loop-at
invariant-loop-at l = record {
  each : l.all.items ≡ map (options_with l.conventions l.ties) (take l.at l.inputs);
  ages : HoldTicks l.all.items;
}
