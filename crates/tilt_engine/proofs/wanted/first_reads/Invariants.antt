use Rattle.std.proofs.Common.{◌≡◌, ◌+◌, ℕ, None, drop, get_or, length}
use Rattle.tilt_engine.specs.Wanted.{wanted}
use Rattle.tilt_pipe.specs.Reads.{earlier}
use Rattle.tilt_engine.proofs.wanted.first_reads.Given as goal

abbrev pub invariant-loop-place : goal.invariant-loop-place
invariant-loop-place l = record {
  count : length l.firsts.items ≡ length l.code.inputs + length l.code.loops;
  firsts : (buffer : ℕ) → earlier (get_or l.firsts.items buffer None) (wanted buffer (drop l.place l.code.loops) (drop l.place l.loops))
      ≡ wanted buffer l.code.loops l.loops;
}
