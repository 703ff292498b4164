use Rattle.tilt_edits.proofs.Outcomes.{given-each, given-only, given-first}
use Rattle.tilt_edits.proofs.reader.read_edits.Goals as goal

pub returns-clause-each : goal.returns-clause-each
returns-clause-each c = given-each c.args.inputs.now c.args.bytes.now (λ edits. edits.items) c.read_lines.result c.read_lines.ensures

pub returns-clause-only : goal.returns-clause-only
returns-clause-only c = given-only c.args.inputs.now c.args.bytes.now (λ edits. edits.items) c.read_lines.result c.read_lines.ensures

pub returns-clause-first : goal.returns-clause-first
returns-clause-first c = given-first c.args.inputs.now c.args.bytes.now (λ edits. edits.items) c.read_lines.result c.read_lines.ensures
