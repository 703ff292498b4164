use Rattle.std.proofs.Common.{◌≡◌, map, take}
use Rattle.tilt_bounds.specs.Margins.{need_of}
use Rattle.tilt_bounds.proofs.query_reach.narrow.Given as goal

abbrev pub invariant-loop-need : goal.invariant-loop-need
invariant-loop-need l = map need_of l.needs.items ≡ take l.need-index l.wide
