-- Which columns a header has, or the first cause why it is bad (our own rule).
use Rattle.std.specs.Prelude.{◌≡◌, ℕ, ◌+◌, if◌then◌else◌, is_some, List, [], ◌∷◌, drop, length, Option, Some, None, Result, Ok, Err, ⊤}
use Rattle.std.specs.Global.{Vec}
use Rattle.std.specs.Option.{ok_or}
use Rattle.std.specs.Str.{bytes_eq}
use Rattle.tilt_reading_lines.specs.Records.{fields_of_line}
use Rattle.tilt_reading_lines.specs.Rules.{Layout, SourceValue, layout_of}
use Rattle.tilt_reading_lines.specs.Rules.Values.{Named, OfInputs}
use Rattle.tilt_reading_lines.specs.Titles.{TitlesValue, TitlesValue as titles}
use Rattle.tilt_reading_lines.specs.declared.columns.Columns.{Columns}
use Rattle.tilt_reading_lines.specs.declared.fault.Column.{Column}
use Rattle.tilt_reading_lines.specs.declared.fault.Column.TheVariants as column
use Rattle.tilt_reading_lines.specs.declared.fault.HeaderFault.{HeaderFault}
use Rattle.tilt_reading_lines.specs.declared.fault.HeaderFault.TheVariants.{NotOneRecord, Missing, Doubled}
use Rattle.tilt_reading_lines.specs.declared.fault.ReadHeaderFault.{ReadHeaderFault}
use Rattle.tilt_reading_lines.specs.declared.fault.ReadHeaderFault.TheVariants.{BadHeader, OutOfMemory}

infixl 10 ◌>>=◌
-- the next step, unless there was a fault
abbrev pub ◌>>=◌ : {A B : Type 0} → Result A HeaderFault → (A → Result B HeaderFault) → Result B HeaderFault
(Ok x) >>= next = next x
(Err fault) >>= next = Err fault

-- the place of the first one of fields that is a title, if the first of them has this place
abbrev pub place_of : List ℕ → ℕ → List (List ℕ) → Option ℕ
place_of title at [] = None
place_of title at (field ∷ fields) = if bytes_eq title field then Some at else place_of title (at + 1) fields

-- a place, if there is one and no other one after it
abbrev pub only_place : Column → List ℕ → List (List ℕ) → Option ℕ → Result ℕ HeaderFault
only_place column title fields None = Err (Missing column)
only_place column title fields (Some at) =
    if is_some (place_of title (at + 1) (drop (at + 1) fields)) then Err (Doubled column) else Ok at

-- the place of the only field that is a title
abbrev pub column_of : Column → List ℕ → List (List ℕ) → Result ℕ HeaderFault
column_of column title fields = only_place column title fields (place_of title 0 fields)

-- the places of the columns of inputs, if the first of them has this number
abbrev pub input_columns : List (List ℕ) → ℕ → List SourceValue → Result (List ℕ) HeaderFault
input_columns fields input [] = Ok []
input_columns fields input (source ∷ sources) = do
  first ← column_of (column.OfInput input) source.name fields
  others ← input_columns fields (input + 1) sources
  Ok (first ∷ others)

-- the columns of names and values
abbrev pub named_columns : List ℕ → List ℕ → List ℕ → List (List ℕ) → Result Layout HeaderFault
named_columns time name value fields = do
  time ← column_of column.Time time fields
  name ← column_of column.Name name fields
  value ← column_of column.Value value fields
  Ok (record { count = length fields; time = time; values = Named name value })

-- the columns of a header with these fields
abbrev pub columns_said : TitlesValue → List SourceValue → List (List ℕ) → Result Layout HeaderFault
columns_said (titles.Named time name value) sources fields = named_columns time name value fields
columns_said (titles.OfInputs time) sources fields = do
  time ← column_of column.Time time fields
  places ← input_columns fields 0 sources
  Ok (record { count = length fields; time = time; values = OfInputs places })

-- the columns of a header, of inputs in this order
abbrev pub header_said : ℕ → TitlesValue → List SourceValue → List ℕ → Result Layout HeaderFault
header_said delimiter titles sources line = ok_or (fields_of_line delimiter line) NotOneRecord >>= columns_said titles sources

-- the result is what was said
abbrev pub Finds : Result Columns HeaderFault → Result Layout HeaderFault → Type 0
Finds (Ok columns) said = said ≡ Ok (layout_of columns)
Finds (Err cause) said = said ≡ Err cause

-- the same, unless memory ran out
abbrev pub Gives : Result Columns ReadHeaderFault → Result Layout HeaderFault → Type 0
Gives (Ok columns) said = said ≡ Ok (layout_of columns)
Gives (Err (BadHeader cause)) said = said ≡ Err cause
Gives (Err OutOfMemory) said = ⊤

-- the same of places alone
abbrev pub FindsPlaces : Result (Vec ℕ) ReadHeaderFault → Result (List ℕ) HeaderFault → Type 0
FindsPlaces (Ok places) said = said ≡ Ok places.items
FindsPlaces (Err (BadHeader cause)) said = said ≡ Err cause
FindsPlaces (Err OutOfMemory) said = ⊤
