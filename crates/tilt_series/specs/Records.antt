-- What a reader of the crate `csv` over bytes in memory has yet to give.
use Rattle.std.specs.Prelude.{◌≡◌, ℕ, ◌+◌, Bool, true, false, List, [], ◌∷◌, length, Option, Some, None, IsSome}
use Rattle.std.specs.Borrow.{Bor}
use Rattle.csv.specs.Machine.{ends_at_end}
use Rattle.csv.specs.Reading.{Ready, default_config, is_flexible, reader_config, reader_state, reader_trim, records_from, source_of}
use Rattle.csv.specs.declared.parser.State.{State}
use Rattle.csv.specs.declared.reader.Reader.{Reader}
use Rattle.csv.specs.declared.reader.Trim.TheVariants as trim

-- a reader over bytes in memory
abbrev pub BytesReader : Type 0
BytesReader = Reader (Bor (List ℕ))

-- the bytes that it has yet to read
abbrev pub bytes_left : BytesReader → Option (List ℕ)
bytes_left reader = source_of (λ (bytes : Bor (List ℕ)). Some bytes.now) reader

-- it takes every record as a row, as it is and of any length, and is between two records
pub record IsBetween (reader : BytesReader) : Type 0 where
  pub config : reader_config reader ≡ default_config
  pub trim : reader_trim reader ≡ trim.None
  pub flexible : is_flexible reader ≡ true
  pub ready : Ready reader
  pub known : IsSome (bytes_left reader)
  pub state : ends_at_end (reader_state reader) ≡ false

-- the records of these bytes, from a state on
abbrev pub records_of : State → Option (List ℕ) → List (List (List ℕ))
records_of state None = []
records_of state (Some bytes) = records_from default_config (length bytes + 1) state bytes

-- the records that it has yet to give
abbrev pub records_left : BytesReader → List (List (List ℕ))
records_left reader = records_of (reader_state reader) (bytes_left reader)

-- a read found the first of the records, and the others are left, or there was none
abbrev pub TakesFirst : Bool → List (List (List ℕ)) → List (List ℕ) → List (List (List ℕ)) → Type 0
TakesFirst true before fields left = before ≡ fields ∷ left
TakesFirst false before fields left = before ≡ []
