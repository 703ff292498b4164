-- What the faults of reading a state are for a run: it gives none.
use Rattle.tilt_live_state.specs.declared.fault.StateFault.{StateFault}
use Rattle.tilt_live_state.specs.declared.fault.StateFault.TheVariants as live
use Rattle.tilt_run_state.specs.declared.rejection.StateRejection.{StateRejection}
use Rattle.tilt_run_state.specs.declared.rejection.StateRejection.TheVariants.{NotAState, OutOfMemory}

abbrev pub of_state : StateFault → StateRejection
of_state live.NotAState = NotAState
of_state live.OutOfMemory = OutOfMemory
