use Rattle.std.proofs.Common.{◌≡◌, ◌↔◌, ℕ, ◌+◌, ◌*◌, ◌^◌, ◌≤◌, length, take}
use Rattle.std.specs.Str.Parse.{digits_value}
use Rattle.tilt_readings.proofs.digits.carry_of.Given as goal

abbrev pub invariant-loop-at : goal.invariant-loop-at
invariant-loop-at l = record {
  within : l.at ≤ length l.digits;
  small : l.carried ≤ l.scale;
  same : (n : ℕ) → (digits_value 10 l.digits * l.scale ≡ n * 10 ^ length l.digits) ↔ (digits_value 10 (take l.at l.digits) * l.scale + l.carried ≡ n * 10 ^ l.at);
}

abbrev pub decreases-loop-at : goal.decreases-loop-at
decreases-loop-at l = l.at
