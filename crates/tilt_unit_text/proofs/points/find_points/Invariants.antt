use Rattle.std.proofs.Common.{◌≡◌, ◌≤◌, ◌<◌, ◌++◌, drop}
use Rattle.std.specs.Prelude.{All}
use Rattle.tilt_unit_text.specs.Points.{points_after, points_of}
use Rattle.tilt_unit_text.proofs.points.find_points.Given as goal

-- the points so far, with those that are left, are all of them
abbrev pub invariant-loop-byte : goal.invariant-loop-byte
invariant-loop-byte l = record {
  whole : l.points.items ++ points_after l.before (drop l.byte-index l.text) ≡ points_of l.text;
  small : All (λ point. point < 9223372036854775808) l.points.items;
  few : l.before ≤ l.byte-index;
}
