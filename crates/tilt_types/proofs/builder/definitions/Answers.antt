use Rattle.std.proofs.Common.{[]}
use Rattle.tilt_types.proofs.Clear.{grids-clear}
use Rattle.tilt_types.proofs.builder.definitions.Goals as goal

pub push_definition-requires-clause-grid : goal.push_definition-requires-clause-grid
push_definition-requires-clause-grid c =
    grids-clear 1 [] c.args.statements.now c.requires.well_formed c.loop-statement.statement-index c.statement-item.result c.loop-statement-test.true c.statement-item.is
