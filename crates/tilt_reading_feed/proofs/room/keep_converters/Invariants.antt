use Rattle.std.proofs.Common.{◌≡◌, map, take, true}
use Rattle.std.specs.List.{AllByRecursion}
use Rattle.tilt_conventions.specs.Machine.{kept_by}
use Rattle.tilt_conventions.specs.Resumable.{fits}
use Rattle.tilt_reading_feed.proofs.room.keep_converters.Given as goal

abbrev pub invariant-loop-converter : goal.invariant-loop-converter
invariant-loop-converter l = record {
  inputs : l.inputs.items ≡ map kept_by (take l.converter-index l.fn.converters);
  fit : AllByRecursion (λ kept. fits kept ≡ true) l.inputs.items;
}
