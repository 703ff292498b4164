use Rattle.tilt_code.proofs.Outcomes.{given-code, given-line, given-reference, given-only, given-first_line, given-first_reference}
use Rattle.tilt_code.proofs.reader.read_code.Goals as goal

pub returns-clause-code : goal.returns-clause-code
returns-clause-code c = given-code c.args.bytes.now c.read.result c.read.ensures

pub returns-clause-bad_line : goal.returns-clause-bad_line
returns-clause-bad_line c = given-line c.args.bytes.now c.read.result c.read.ensures

pub returns-clause-bad_reference : goal.returns-clause-bad_reference
returns-clause-bad_reference c = given-reference c.args.bytes.now c.read.result c.read.ensures

pub returns-clause-only : goal.returns-clause-only
returns-clause-only c = given-only c.args.bytes.now c.read.result c.read.ensures

pub returns-clause-first_line : goal.returns-clause-first_line
returns-clause-first_line c = given-first_line c.args.bytes.now c.read.result c.read.ensures

pub returns-clause-first_reference : goal.returns-clause-first_reference
returns-clause-first_reference c = given-first_reference c.args.bytes.now c.read.result c.read.ensures
