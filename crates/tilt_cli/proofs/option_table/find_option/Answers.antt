use Rattle.tilt_cli.proofs.Settings.{option_seen}
use Rattle.tilt_cli.proofs.option_table.find_option.Goals as goal

pub returns : goal.returns
returns c = option_seen c.args.options.now c.args.word.now c.find_row.result c.find_row.ensures
