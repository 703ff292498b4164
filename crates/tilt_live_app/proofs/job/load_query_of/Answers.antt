use Rattle.std.proofs.Common.{refl, sym}
use Rattle.tilt_live_cli.specs.Arguments.{command_value}
use Rattle.tilt_live_app.proofs.job.load_query_of.Goals as goal

pub returns-clause-taken : goal.returns-clause-taken
returns-clause-taken g c = rw c.units.ensures at c.load.ensures.taken

pub returns-clause-fault : goal.returns-clause-fault
returns-clause-fault g c = c.load.ensures.fault (command_value c.args.command.now) refl (sym c.units.ensures)
