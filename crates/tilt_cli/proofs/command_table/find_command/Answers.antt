use Rattle.std.proofs.Common.{refl}
use Rattle.tilt_cli.specs.Arguments.{arguments_of}
use Rattle.tilt_cli.specs.Tables.{commands}
use Rattle.tilt_cli.proofs.Settings.{command_seen}
use Rattle.tilt_cli.proofs.command_table.find_command.Goals as goal

pub returns : goal.returns
unfolding commands
returns c = command_seen _ c.args.name.now (arguments_of c.args.arguments.now) c.find_row.result refl c.find_row.ensures
