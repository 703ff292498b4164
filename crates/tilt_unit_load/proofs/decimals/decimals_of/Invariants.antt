use Rattle.std.proofs.Common.{◌≡◌, ◌≢◌, ◌^◌, ◌<◌, ℕ}
use Rattle.tilt_unit_load.proofs.decimals.decimals_of.Given as goal

abbrev pub invariant-loop-decimals : goal.invariant-loop-decimals
invariant-loop-decimals l = record {
  power : l.power ≡ 10 ^ l.decimals;
  none : (decimals : ℕ) → decimals < l.decimals → 10 ^ decimals ≢ l.scale;
}
