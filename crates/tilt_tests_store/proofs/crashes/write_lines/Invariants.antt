use Rattle.tilt_store.specs.MemFolder.{mem_may_leave, mem_seen}
use Rattle.tilt_store.specs.Open.{IsOpen}
use Rattle.tilt_tests_store.proofs.crashes.write_lines.Given as goal

abbrev pub invariant-loop-place : goal.invariant-loop-place
invariant-loop-place l = IsOpen (mem_seen l.ledger.folder) (mem_may_leave l.ledger.folder)
