-- The fields of a line as plain data.
use Rattle.std.specs.Prelude.{ℕ, List, [], ◌∷◌}
use Rattle.csv.specs.Records.{fields_of}
use Rattle.tilt_reading_lines.specs.declared.line_fields.LineFields.{LineFields}
use Rattle.tilt_reading_lines.specs.declared.line_fields.LineFields.TheVariants.{Copied, Three}

abbrev pub fields_in : LineFields → List (List ℕ)
fields_in (Copied row) = fields_of row.now
fields_in (Three first second third) = first.now ∷ second.now ∷ third.now ∷ []
