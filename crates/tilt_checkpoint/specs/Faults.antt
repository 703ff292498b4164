-- What the faults of reading a query make of a checkpoint: it is bad, unless memory ran out.
use Rattle.tilt_bounds.specs.declared.fault.ReachFault.{ReachFault}
use Rattle.tilt_bounds.specs.declared.fault.ReachFault.TheVariants as reach
use Rattle.tilt_syntax.specs.declared.fault.TextFault.{TextFault}
use Rattle.tilt_syntax.specs.declared.fault.TextFault.TheVariants as text
use Rattle.tilt_types.specs.declared.fault.CheckFault.{CheckFault}
use Rattle.tilt_types.specs.declared.fault.CheckFault.TheVariants as check
use Rattle.tilt_checkpoint.specs.declared.fault.CheckpointFault.{CheckpointFault}
use Rattle.tilt_checkpoint.specs.declared.fault.CheckpointFault.TheVariants.{BadCheckpoint, OutOfMemory}

-- of the text
abbrev pub of_text : TextFault → CheckpointFault
of_text text.OutOfMemory = OutOfMemory
of_text other = BadCheckpoint

-- of the checks
abbrev pub of_check : CheckFault → CheckpointFault
of_check check.OutOfMemory = OutOfMemory
of_check other = BadCheckpoint

-- of the reach
abbrev pub of_reach : ReachFault → CheckpointFault
of_reach reach.OutOfMemory = OutOfMemory
of_reach other = BadCheckpoint
