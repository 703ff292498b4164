-- The fields of a line, and what a reader of the crate `csv` over bytes in memory reads next.
use Rattle.std.specs.Prelude.{◌≡◌, ℕ, Bool, true, false, List, [], ◌∷◌, map, Option, Some, None, IsSome, option_and_then}
use Rattle.std.specs.Borrow.{Bor}
use Rattle.csv.specs.Machine.{Read, next_record}
use Rattle.csv.specs.Reading.{Ready, default_config, is_flexible, reader_config, reader_state, reader_trim, records, source_of, strip_bom}
use Rattle.csv.specs.Records.{trimmed}
use Rattle.csv.specs.declared.parser.Config.{Config}
use Rattle.csv.specs.declared.reader.Reader.{Reader}
use Rattle.csv.specs.declared.reader.Trim.TheVariants as trim

-- records whose fields are separated by a delimiter
abbrev pub config_of : ℕ → Config
config_of delimiter = record default_config { delimiter = delimiter }

-- the fields of the only one of records, without the white space around them
abbrev pub only_fields : List (List (List ℕ)) → Option (List (List ℕ))
only_fields (fields ∷ []) = Some (map trimmed fields)
only_fields others = None

-- the fields of a line, if it is exactly one record; one byte order mark at its start is skipped
abbrev pub fields_of_line : ℕ → List ℕ → Option (List (List ℕ))
fields_of_line delimiter bytes = only_fields (records (config_of delimiter) (strip_bom bytes))

-- a line has these fields, or it isn't one record
abbrev pub IsFieldsOf : Bool → List (List ℕ) → ℕ → List ℕ → Type 0
IsFieldsOf true fields delimiter line = fields_of_line delimiter line ≡ Some fields
IsFieldsOf false fields delimiter line = fields_of_line delimiter line ≡ None

-- a reader over bytes in memory
abbrev pub BytesReader : Type 0
BytesReader = Reader (Bor (List ℕ))

-- the bytes that it has yet to read
abbrev pub bytes_left : BytesReader → Option (List ℕ)
bytes_left reader = source_of (λ (bytes : Bor (List ℕ)). Some bytes.now) reader

-- it takes every record as it is, of any length, and hasn't failed
pub record IsReady (delimiter : ℕ) (reader : BytesReader) : Type 0 where
  pub config : reader_config reader ≡ config_of delimiter
  pub trim : reader_trim reader ≡ trim.None
  pub flexible : is_flexible reader ≡ true
  pub ready : Ready reader
  pub known : IsSome (bytes_left reader)

-- the next record, with the state and the bytes after it
abbrev pub next_of : ℕ → BytesReader → Option Read
next_of delimiter reader = option_and_then (next_record (config_of delimiter) (reader_state reader) [] []) (bytes_left reader)

-- a read found that record, or there was none
abbrev pub Takes : ℕ → Option Read → Bool → List (List ℕ) → Option Read → Type 0
Takes delimiter None found fields after = found ≡ false
Takes delimiter (Some read) found fields after =
    (found ≡ true) × (fields ≡ read.0) × (after ≡ next_record (config_of delimiter) read.1 [] [] read.2)

-- there is exactly one record, with these fields, or there is not
abbrev pub IsOnly : Bool → List (List ℕ) → List (List (List ℕ)) → Type 0
IsOnly true fields records = records ≡ fields ∷ []
IsOnly false fields records = only_fields records ≡ None
