-- What a clause reads of a reader.
use Rattle.std.specs.Prelude.{ℕ}
use Rattle.tilt_reading_lines.specs.declared.reader.ReadingReader.{ReadingReader}

-- the byte that separates the fields
abbrev pub delimiter_of : ReadingReader → ℕ
delimiter_of reader = reader.delimiter
