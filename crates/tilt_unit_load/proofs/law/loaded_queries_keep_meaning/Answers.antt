use Rattle.tilt_unit_load.proofs.Emitted.{emitted_cells, emitted_marks}
use Rattle.tilt_unit_load.proofs.law.loaded_queries_keep_meaning.Goals as goal

pub returns : goal.returns
returns c = record { cells = emitted_cells; marks = emitted_marks }
