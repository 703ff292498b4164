use Rattle.std.proofs.Common.{◌≡◌, false}
use Rattle.tilt_tests_machines.proofs.pipe.a_ring_holds_what_the_next_turn_of_a_window_reads.Given as goal

abbrev pub invariant-loop-piece : goal.invariant-loop-piece
invariant-loop-piece g l = l.pipe.refused ≡ false
