use Rattle.std.proofs.Common.{◌≡◌, ◌<◌, ◌+◌, ◌^◌, drop}
use Rattle.std.specs.Str.{all_ascii_digits}
use Rattle.std.specs.Str.Parse.{digits_value_after}
use Rattle.tilt_base.proofs.number.read_rest.Given as goal

abbrev pub invariant-loop-digit : goal.invariant-loop-digit
invariant-loop-digit l = record {
  digits : all_ascii_digits (drop l.digit-index l.digits) ≡ all_ascii_digits l.digits;
  small : l.number < 10 ^ (l.digit-index + 1);
  value : digits_value_after 10 l.number (drop l.digit-index l.digits) ≡ digits_value_after 10 l.first l.digits;
}
