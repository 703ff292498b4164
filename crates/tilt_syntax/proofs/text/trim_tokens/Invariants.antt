use Rattle.std.proofs.Common.{◌-◌, length}
use Rattle.tilt_syntax.proofs.Keeping.{KeptBefore}
use Rattle.tilt_syntax.proofs.text.trim_tokens.Given as goal

abbrev pub invariant-loop-kept : goal.invariant-loop-kept
invariant-loop-kept l = KeptBefore l.bytes l.at l.kept

abbrev pub decreases-loop-kept : goal.decreases-loop-kept
decreases-loop-kept l = length l.bytes - l.at
