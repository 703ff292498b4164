-- What a line of readings says, or the first cause why it says nothing (our own rule, over records as the crate `csv` defines them, after
-- RFC 4180). The shape of the line comes first: the number of its records, and the number of its fields. Then come the time, and the name
-- and the value or the values.
use Rattle.std.specs.Prelude.{ℕ, ◌+◌, ◌-ℤ◌, ◌==◌, ℤ, pos, Bool, ◌||◌, ◌&&◌, if◌then◌else◌, List, []}
use Rattle.std.specs.Prelude.{◌∷◌, ◌++◌, length, get_or, Option, Some, None, Result, Ok, Err, ⊤, ◌≡◌}
use Rattle.std.specs.List.{list_any}
use Rattle.std.specs.Option.{ok_or}
use Rattle.std.specs.Str.{bytes_eq}
use Rattle.tilt_readings.specs.Date.{date_read, moment_of}
use Rattle.tilt_readings.specs.Decimal.{bounded, in_64_bits, number_at}
use Rattle.tilt_readings.specs.Epoch.{nanoseconds}
use Rattle.tilt_readings.specs.LocalDate.{local_date_read}
use Rattle.tilt_readings.specs.declared.fault.DateFault.{DateFault}
use Rattle.tilt_readings.specs.declared.fault.DateFault.TheVariants.{NotDate}
use Rattle.tilt_readings.specs.declared.fault.DecimalFault.{DecimalFault}
use Rattle.tilt_readings.specs.declared.local_date.LocalDate.{LocalDate}
use Rattle.tilt_readings.specs.declared.tick.TheConstants.{FARTHEST}
use Rattle.std.specs.Prelude.{neg_ℤ}
use Rattle.tilt_reading_lines.specs.Records.{fields_of_line}
use Rattle.tilt_reading_lines.specs.Rules.{Layout, LocalValue, RulesValue, SourceValue, Values}
use Rattle.tilt_reading_lines.specs.Rules.Values.{Named, OfInputs}
use Rattle.tilt_reading_lines.specs.Tick.{tick_at}
use Rattle.tilt_reading_lines.specs.declared.fault.LineFault.{LineFault}
use Rattle.tilt_reading_lines.specs.declared.fault.LineFault.TheVariants.{NotOneRecord, FieldCount, BadDate, BadLocal, BadNumber, TimeOutOfRange, NoName, BadValue}
use Rattle.tilt_reading_lines.specs.declared.fault.ReadLineFault.{ReadLineFault}
use Rattle.tilt_reading_lines.specs.declared.fault.ReadLineFault.TheVariants.{BadLine, OutOfMemory}
use Rattle.tilt_reading_lines.specs.declared.rules.InputReading.{InputReading}
use Rattle.tilt_reading_lines.specs.declared.rules.Moments.{Moments}
use Rattle.tilt_reading_lines.specs.declared.rules.Moments.TheVariants.{Dates, Numbers}
use Rattle.tilt_zones.specs.Taken.{moment_taken}
use Rattle.tilt_zones.specs.declared.fault.LocalFault.{LocalFault}

infixl 10 ◌>>=◌
-- the next step, unless there was a fault
abbrev pub ◌>>=◌ : {A B : Type 0} → Result A LineFault → (A → Result B LineFault) → Result B LineFault
(Ok x) >>= next = next x
(Err fault) >>= next = Err fault

-- what a line says: readings of inputs, and a tick up to which all inputs are known, if it says that
pub record Said : Type 0 where
  pub readings : List InputReading
  pub known : Option ℤ

-- what a date or a number is, or why the text is none
abbrev pub dated : {A : Type 0} → Result A DateFault → Result A LineFault
dated (Ok date) = Ok date
dated (Err fault) = Err (BadDate fault)

abbrev pub counted : Result ℤ DecimalFault → Result ℤ LineFault
counted (Ok moment) = Ok moment
counted (Err fault) = Err (BadNumber fault)

-- the moment that a local time is taken for, or why it has none
abbrev pub taken : Result ℤ LocalFault → Result ℤ LineFault
taken (Ok moment) = Ok moment
taken (Err fault) = Err (BadLocal fault)

-- the moment of a local time in a zone
abbrev pub shown_said : LocalValue → LocalDate → Result ℤ LineFault
shown_said rules date = do
  seconds ← taken (moment_taken rules.zone date.seconds rules.fold)
  dated (moment_of seconds (Ok (pos date.nanoseconds)))

-- the moment of a text without an offset: that of a local time, if there is a zone
abbrev pub local_said : Option LocalValue → List ℕ → Result ℤ LineFault
local_said None text = Err (BadDate NotDate)
local_said (Some rules) text = dated (local_date_read text) >>= shown_said rules

-- the moment of a text by what it is as a date with an offset
abbrev pub date_said : Option LocalValue → List ℕ → Result ℤ DateFault → Result ℤ LineFault
date_said rules text (Err NotDate) = local_said rules text
date_said rules text read = dated read

-- the moment that a text is
abbrev pub moment_said : Moments → Option LocalValue → List ℕ → Result ℤ LineFault
moment_said Dates rules text = date_said rules text (date_read text)
moment_said (Numbers unit) rules text = counted (bounded (neg_ℤ FARTHEST) FARTHEST (number_at 46 (nanoseconds unit) text))

-- the tick that a text says
abbrev pub tick_said : RulesValue → List ℕ → Result ℤ LineFault
tick_said rules text = do
  moment ← moment_said rules.moments rules.local text
  ok_or (tick_at rules.clock moment) TimeOutOfRange

-- whether a text means that there is no value
abbrev pub is_null : List (List ℕ) → List ℕ → Bool
is_null nulls text = bytes_eq text [] || list_any (λ null. bytes_eq text null) nulls

-- the value that a text is at the scale of an input
abbrev pub scaled : ℕ → Result ℤ DecimalFault → Result (Option ℤ) LineFault
scaled input (Ok value) = Ok (Some value)
scaled input (Err fault) = Err (BadValue input fault)

abbrev pub value_said : RulesValue → ℕ → ℕ → List ℕ → Result (Option ℤ) LineFault
value_said rules input scale text =
    if is_null rules.nulls text then Ok None else scaled input (in_64_bits (number_at rules.mark scale text))

-- the reading of an input that a text is: none, if it has no value and such texts are skipped
abbrev pub reading_said : RulesValue → ℤ → ℕ → ℕ → List ℕ → Result (Option InputReading) LineFault
reading_said rules tick input scale text =
    if rules.skips_empty && is_null rules.nulls text then Ok None
    else (value_said rules input scale text >>= λ value. Ok (Some (record { input = input; tick = tick; value = value })))

-- the number and the scale of the first one of inputs that has a name, if the first of them has this number
abbrev pub source_named : List ℕ → ℕ → List SourceValue → Option (ℕ × ℕ)
source_named name input [] = None
source_named name input (source ∷ sources) =
    if bytes_eq name source.name then Some (input, source.scale) else source_named name (input + 1) sources

-- a reading of the input that was named; no input of another name is read
abbrev pub named_reading : RulesValue → ℤ → List ℕ → Option (ℕ × ℕ) → Result (Option InputReading) LineFault
named_reading rules tick text None = Ok None
named_reading rules tick text (Some found) = reading_said rules tick found.0 found.1 text

-- up to which tick all inputs are known by a record with only a time: the tick before its own, since more may come of that tick
abbrev pub known_said : ℤ → List ℕ → Result ℤ LineFault
known_said tick text = if bytes_eq text [] then Ok (tick -ℤ pos 1) else Err NoName

-- at most one reading as a list
abbrev pub listed : Option InputReading → List InputReading
listed None = []
listed (Some reading) = reading ∷ []

-- readings with one more after them, unless it is bad
abbrev pub appended : List InputReading → Result (Option InputReading) LineFault → Result (List InputReading) LineFault
appended readings (Ok reading) = Ok (readings ++ listed reading)
appended readings (Err fault) = Err fault

-- readings alone, and a tick alone
abbrev pub only_readings : List InputReading → Result Said LineFault
only_readings readings = Ok (record { readings = readings; known = None })

abbrev pub only_known : ℤ → Result Said LineFault
only_known tick = Ok (record { readings = []; known = Some tick })

-- what a name and a value say
abbrev pub named_said : RulesValue → List SourceValue → ℤ → List ℕ → List ℕ → Result Said LineFault
named_said rules sources tick name text =
    if bytes_eq name [] then known_said tick text >>= only_known
    else (named_reading rules tick text (source_named name 0 sources) >>= λ reading. only_readings (listed reading))

-- the readings of inputs whose values are at these places, if the first of them has this number
abbrev pub each_reading : RulesValue → List (List ℕ) → ℤ → ℕ → List SourceValue → List ℕ → Result (List InputReading) LineFault
each_reading rules fields tick input [] places = Ok []
each_reading rules fields tick input (source ∷ sources) [] = Ok []
each_reading rules fields tick input (source ∷ sources) (place ∷ places) = do
  first ← reading_said rules tick input source.scale (get_or fields place [])
  others ← each_reading rules fields tick (input + 1) sources places
  Ok (listed first ++ others)

-- what the values of a record say
abbrev pub values_said : RulesValue → List SourceValue → List (List ℕ) → ℤ → Values → Result Said LineFault
values_said rules sources fields tick (Named name value) =
    named_said rules sources tick (get_or fields name []) (get_or fields value [])
values_said rules sources fields tick (OfInputs places) = each_reading rules fields tick 0 sources places >>= only_readings

-- what the fields of a record say
abbrev pub fields_said : Layout → RulesValue → List SourceValue → List (List ℕ) → Result Said LineFault
fields_said layout rules sources fields =
    if length fields == layout.count
    then (tick_said rules (get_or fields layout.time []) >>= λ tick. values_said rules sources fields tick layout.values)
    else Err (FieldCount layout.count)

-- what a line says, of inputs in columns
abbrev pub line_said : ℕ → Layout → RulesValue → List SourceValue → List ℕ → Result Said LineFault
line_said delimiter layout rules sources line = ok_or (fields_of_line delimiter line) NotOneRecord >>= fields_said layout rules sources

-- the result and the readings are what was said, unless memory ran out
abbrev pub Gives : Result (Option ℤ) ReadLineFault → List InputReading → Result Said LineFault → Type 0
Gives (Ok known) readings said = said ≡ Ok (record { readings = readings; known = known })
Gives (Err (BadLine cause)) readings said = said ≡ Err cause
Gives (Err OutOfMemory) readings said = ⊤

-- the same of readings alone
abbrev pub Fills : Result (Unit {0}) ReadLineFault → List InputReading → Result (List InputReading) LineFault → Type 0
Fills (Ok done) readings said = said ≡ Ok readings
Fills (Err (BadLine cause)) readings said = said ≡ Err cause
Fills (Err OutOfMemory) readings said = ⊤
