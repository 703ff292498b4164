use Rattle.std.proofs.Common.{◌≡◌, ◌<◌, ◌^◌, true, take}
use Rattle.std.specs.Str.{all_ascii_digits}
use Rattle.std.specs.Str.Parse.{digits_value}
use Rattle.tilt_feed_line.proofs.quick.digits_before.Given as goal

abbrev pub invariant-loop-at : goal.invariant-loop-at
invariant-loop-at l = record {
  digits : all_ascii_digits (take l.at l.bytes) ≡ true;
  value : digits_value 10 (take l.at l.bytes) ≡ l.number;
  small : l.number < 10 ^ l.at;
}
