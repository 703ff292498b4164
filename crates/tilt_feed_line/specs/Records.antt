-- What a reader of the crate `csv` over bytes in memory reads next.
use Rattle.std.specs.Prelude.{◌≡◌, ℕ, Bool, true, false, List, [], ◌∷◌, Option, Some, None, IsSome, Err, option_and_then}
use Rattle.std.specs.Borrow.{Bor}
use Rattle.csv.specs.Machine.{Read, next_record}
use Rattle.csv.specs.Reading.{Ready, default_config, is_flexible, reader_config, reader_state, reader_trim, source_of}
use Rattle.csv.specs.declared.reader.Reader.{Reader}
use Rattle.csv.specs.declared.reader.Trim.TheVariants as trim
use Rattle.tilt_feed_line.specs.Lines.{only_record}
use Rattle.tilt_feed_line.specs.declared.fault.LineFault.TheVariants.{NotOneRecord}

-- a reader over bytes in memory
abbrev pub BytesReader : Type 0
BytesReader = Reader (Bor (List ℕ))

-- the bytes that it has yet to read
abbrev pub bytes_left : BytesReader → Option (List ℕ)
bytes_left reader = source_of (λ (bytes : Bor (List ℕ)). Some bytes.now) reader

-- it takes every record as it is, of any length, and hasn't failed
pub record IsReady (reader : BytesReader) : Type 0 where
  pub config : reader_config reader ≡ default_config
  pub trim : reader_trim reader ≡ trim.None
  pub flexible : is_flexible reader ≡ true
  pub ready : Ready reader
  pub known : IsSome (bytes_left reader)

-- the next record, with the state and the bytes after it
abbrev pub next_of : BytesReader → Option Read
next_of reader = option_and_then (next_record default_config (reader_state reader) [] []) (bytes_left reader)

-- a read found that record, or there was none
abbrev pub Takes : Option Read → Bool → List (List ℕ) → Option Read → Type 0
Takes None found fields after = found ≡ false
Takes (Some read) found fields after = (found ≡ true) × (fields ≡ read.0) × (after ≡ next_record default_config read.1 [] [] read.2)

-- there is exactly one record, with these fields, or there is not
abbrev pub IsOnly : Bool → List (List ℕ) → List (List (List ℕ)) → Type 0
IsOnly true fields records = records ≡ fields ∷ []
IsOnly false fields records = only_record records ≡ Err NotOneRecord
