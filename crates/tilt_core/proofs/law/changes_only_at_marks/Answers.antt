use Rattle.tilt_core.proofs.Constancy.{meaning-changes, definitions-AreGrids}
use Rattle.std.proofs.Common.{length}
use Rattle.tilt_core.proofs.law.changes_only_at_marks.Goals as goal

pub returns-clause-core : goal.returns-clause-core
returns-clause-core c =
    λ core inputs source is. meaning-changes inputs core.defs (definitions-AreGrids (length core.inputs) core.defs is.definitions) source

pub returns-clause-definitions : goal.returns-clause-definitions
returns-clause-definitions c = λ defs inputs source grids. meaning-changes inputs defs grids source
