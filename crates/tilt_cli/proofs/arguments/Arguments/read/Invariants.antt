use Rattle.std.proofs.Common.{length, ◌-◌}
use Rattle.tilt_cli.specs.Command.{texts}
use Rattle.tilt_cli.specs.Arguments.{arguments_of}
use Rattle.tilt_cli.specs.Tables.{option_entries}
use Rattle.tilt_cli.proofs.ArgumentsRead.{ArgumentsBefore}
use Rattle.tilt_cli.proofs.arguments.Arguments.read.Given as goal

abbrev pub invariant-loop-at : goal.invariant-loop-at
invariant-loop-at l = ArgumentsBefore (option_entries l.options) (texts l.words) l.at (arguments_of l.arguments)

abbrev pub decreases-loop-at : goal.decreases-loop-at
decreases-loop-at l = length l.words - l.at
