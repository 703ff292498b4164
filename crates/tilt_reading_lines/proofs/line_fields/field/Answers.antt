use Rattle.std.proofs.Common.{rules}
use Rattle.csv.specs.Records.{fields_of}
use Rattle.tilt_reading_lines.proofs.Places.{field_found, field_missing}
use Rattle.tilt_reading_lines.proofs.line_fields.field.Goals as goal

pub returns-in-Some : goal.returns-in-Some
returns-in-Some c = field_found (fields_of c.args.row.now) c.args.place c.in-Some.field.now (search rules)

pub returns-in-None : goal.returns-in-None
returns-in-None c = field_missing (fields_of c.args.row.now) c.args.place (search rules)
