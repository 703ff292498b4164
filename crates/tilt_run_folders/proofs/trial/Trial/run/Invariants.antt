use Rattle.tilt_store.specs.Crash.{Only}
use Rattle.tilt_store.specs.MemFolder.{mem_may_leave, mem_seen}
use Rattle.tilt_run_folders.proofs.trial.Trial.run.Given as goal

abbrev pub invariant-loop-crashes : goal.invariant-loop-crashes
invariant-loop-crashes l = Only (mem_seen l.folder) (mem_may_leave l.folder)
