-- What the faults of reading a query makes of a state: it is none, unless memory ran out.
use Rattle.tilt_bounds.specs.declared.fault.ReachFault.{ReachFault}
use Rattle.tilt_bounds.specs.declared.fault.ReachFault.TheVariants as reach
use Rattle.tilt_syntax.specs.declared.fault.TextFault.{TextFault}
use Rattle.tilt_syntax.specs.declared.fault.TextFault.TheVariants as text
use Rattle.tilt_types.specs.declared.fault.CheckFault.{CheckFault}
use Rattle.tilt_types.specs.declared.fault.CheckFault.TheVariants as check
use Rattle.tilt_live_state.specs.declared.fault.StateFault.{StateFault}
use Rattle.tilt_live_state.specs.declared.fault.StateFault.TheVariants.{NotAState, OutOfMemory}

-- of the text
abbrev pub of_text : TextFault → StateFault
of_text text.OutOfMemory = OutOfMemory
of_text other = NotAState

-- of the checks
abbrev pub of_check : CheckFault → StateFault
of_check check.OutOfMemory = OutOfMemory
of_check other = NotAState

-- of the reach
abbrev pub of_reach : ReachFault → StateFault
of_reach reach.OutOfMemory = OutOfMemory
of_reach other = NotAState
