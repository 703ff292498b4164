-- What the results of calls that take lines say.
use Rattle.std.specs.Prelude.{◌≡◌, Option, Some, None, Result, Ok, Err, ⊤}
use Rattle.tilt_reading_lines.specs.Rules.{layout_of}
use Rattle.tilt_reading_lines.specs.declared.columns.Columns.{Columns}
use Rattle.tilt_reading_text.specs.Said.{Content}
use Rattle.tilt_reading_text.specs.Said.Content.{Header}
use Rattle.tilt_reading_text.specs.declared.bad_reading_line.BadReadingLine.{BadReadingLine}
use Rattle.tilt_reading_text.specs.declared.bad_reading_line.TakeLineError.{TakeLineError}
use Rattle.tilt_reading_text.specs.declared.bad_reading_line.TakeLineError.TheVariants.{Bad, OutOfMemory}

-- the result of a call that takes a line is its fault, unless memory ran out
abbrev pub IsTaken : Result (Unit {0}) TakeLineError → Option BadReadingLine → Type 0
IsTaken (Ok done) fault = fault ≡ None
IsTaken (Err (Bad why)) fault = fault ≡ Some why
IsTaken (Err OutOfMemory) fault = ⊤

-- the result is the columns of a header, or why it is bad, unless memory ran out
abbrev pub IsHeader : Result Columns TakeLineError → Result Content BadReadingLine → Type 0
IsHeader (Ok columns) content = content ≡ Ok (Header (layout_of columns))
IsHeader (Err (Bad why)) content = content ≡ Err why
IsHeader (Err OutOfMemory) content = ⊤
