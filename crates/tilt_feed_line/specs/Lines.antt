-- What a line of a live feed says, or the first cause why it says nothing (our own rule, over records as the crate `csv` defines them,
-- after RFC 4180). The shape of the line comes first: the number of its records, the number of its fields, and which fields are empty. Then
-- come the name, the start, the end and the value.
use Rattle.std.specs.Prelude.{◌≡◌, ℕ, ◌<◌, List, [], ◌∷◌, Result, Ok, Err, ⊤}
use Rattle.std.specs.List.{position}
use Rattle.std.specs.Option.{ok_or}
use Rattle.std.specs.Str.{bytes_eq}
use Rattle.csv.specs.Reading.{default_config, records, strip_bom}
use Rattle.tilt_base.specs.Number.{cell_spelled, number_spelled}
use Rattle.tilt_feed.specs.declared.update.Update.TheVariants as update
use Rattle.tilt_feed_line.specs.declared.fault.LineFault.{LineFault}
use Rattle.tilt_feed_line.specs.declared.fault.LineFault.TheVariants.{NotOneRecord, FieldCount, NoForm, UnknownInput}
use Rattle.tilt_feed_line.specs.declared.fault.LineFault.TheVariants.{BadStart, BadEnd, BadValue}
use Rattle.tilt_feed_line.specs.declared.fault.ReadLineFault.{ReadLineFault}
use Rattle.tilt_feed_line.specs.declared.fault.ReadLineFault.TheVariants.{BadLine, OutOfMemory}
use Rattle.tilt_feed_line.specs.declared.line.Line.{Line}
use Rattle.tilt_feed_line.specs.declared.line.Line.TheVariants as line
use Rattle.tilt_feed_line.specs.declared.line.KeyedLine.{KeyedLine}
use Rattle.tilt_feed_line.specs.declared.line.KeyedLine.TheVariants as keyed

infixl 10 ◌>>=◌
-- the next step, unless there was a fault
abbrev pub ◌>>=◌ : {A B : Type 0} → Result A LineFault → (A → Result B LineFault) → Result B LineFault
(Ok x) >>= next = next x
(Err fault) >>= next = Err fault

-- the number of the input that has the name, counted from 0
abbrev pub input_named : List (List ℕ) → List ℕ → Result ℕ LineFault
input_named inputs name = ok_or (position (bytes_eq name) inputs) UnknownInput

-- `name,start,end,value`: a row on (start, end], without a value if `value` is empty
abbrev pub row_said : List (List ℕ) → List ℕ → List ℕ → List ℕ → List ℕ → Result Line LineFault
row_said inputs name start end value = do
  input ← input_named inputs name
  start ← ok_or (number_spelled start) BadStart
  end ← ok_or (number_spelled end) BadEnd
  value ← ok_or (cell_spelled value) BadValue
  Ok (line.Update input (update.Row start end value))

-- `name,start,,value`: the value holds from `start` on
abbrev pub value_said : List (List ℕ) → List ℕ → List ℕ → List ℕ → Result Line LineFault
value_said inputs name start value = do
  input ← input_named inputs name
  start ← ok_or (number_spelled start) BadStart
  value ← ok_or (number_spelled value) BadValue
  Ok (line.Update input (update.Value start value))

-- `name,start,,`: no value holds from `start` on
abbrev pub no_value_said : List (List ℕ) → List ℕ → List ℕ → Result Line LineFault
no_value_said inputs name start = do
  input ← input_named inputs name
  start ← ok_or (number_spelled start) BadStart
  Ok (line.Update input (update.NoValue start))

-- `name,,end,`: the input is known up to `end`
abbrev pub known_said : List (List ℕ) → List ℕ → List ℕ → Result Line LineFault
known_said inputs name end = do
  input ← input_named inputs name
  watermark ← ok_or (number_spelled end) BadEnd
  Ok (line.Update input (update.KnownUpTo watermark))

-- `,,end,`: all inputs are known up to `end`
abbrev pub all_known_said : List ℕ → Result Line LineFault
all_known_said end = do
  watermark ← ok_or (number_spelled end) BadEnd
  Ok (line.AllKnownUpTo watermark)

-- what a name, a start, an end and a value say: which of them are empty decides the form, by the first equation that fits
abbrev pub form_said : List (List ℕ) → List ℕ → List ℕ → List ℕ → List ℕ → Result Line LineFault
form_said inputs [] [] [] [] = Ok line.Finish
form_said inputs [] [] end [] = all_known_said end
form_said inputs [] start end value = Err NoForm
form_said inputs name [] [] value = Err NoForm
form_said inputs name [] end [] = known_said inputs name end
form_said inputs name [] end value = Err NoForm
form_said inputs name start [] [] = no_value_said inputs name start
form_said inputs name start [] value = value_said inputs name start value
form_said inputs name start end value = row_said inputs name start end value

-- what the fields after an empty key say: `,,,end,` says that all inputs of all keys are known up to `end`, and nothing else says anything
abbrev pub all_keys_said : List ℕ → List ℕ → List ℕ → List ℕ → Result KeyedLine LineFault
all_keys_said [] [] [] [] = Err NoForm
all_keys_said [] [] end [] = do
  watermark ← ok_or (number_spelled end) BadEnd
  Ok (keyed.AllKnownUpTo watermark)
all_keys_said name start end value = Err NoForm

-- what a key and the fields after it say
abbrev pub keyed_form_said : List (List ℕ) → List ℕ → List ℕ → List ℕ → List ℕ → List ℕ → Result KeyedLine LineFault
keyed_form_said inputs [] name start end value = all_keys_said name start end value
keyed_form_said inputs key name start end value = do
  said ← form_said inputs name start end value
  Ok (keyed.OfKey key said)

-- what the fields of a record say in a feed without keys
abbrev pub fields_said : List (List ℕ) → List (List ℕ) → Result Line LineFault
fields_said inputs (name ∷ start ∷ end ∷ value ∷ []) = form_said inputs name start end value
fields_said inputs fields = Err (FieldCount 4)

-- what the fields of a record say in a feed with keys
abbrev pub keyed_fields_said : List (List ℕ) → List (List ℕ) → Result KeyedLine LineFault
keyed_fields_said inputs (key ∷ name ∷ start ∷ end ∷ value ∷ []) = keyed_form_said inputs key name start end value
keyed_fields_said inputs fields = Err (FieldCount 5)

-- the fields of the only record
abbrev pub only_record : List (List (List ℕ)) → Result (List (List ℕ)) LineFault
only_record (fields ∷ []) = Ok fields
only_record others = Err NotOneRecord

-- the fields of a line, which is exactly one record; one byte order mark at its start is passed over
abbrev pub fields_of_line : List ℕ → Result (List (List ℕ)) LineFault
fields_of_line bytes = only_record (records default_config (strip_bom bytes))

-- what a line says in a feed without keys, of inputs with these names
abbrev pub line_said : List (List ℕ) → List ℕ → Result Line LineFault
line_said inputs bytes = fields_of_line bytes >>= fields_said inputs

-- what a line says in a feed with keys, of inputs with these names
abbrev pub keyed_line_said : List (List ℕ) → List ℕ → Result KeyedLine LineFault
keyed_line_said inputs bytes = fields_of_line bytes >>= keyed_fields_said inputs

-- the result is what was said, unless memory ran out
abbrev pub Gives : {A : Type 0} → Result A ReadLineFault → Result A LineFault → Type 0
Gives (Ok line) said = said ≡ Ok line
Gives (Err (BadLine cause)) said = said ≡ Err cause
Gives (Err OutOfMemory) said = ⊤

-- an update is of one of this many inputs
abbrev pub IsOfInputs : ℕ → Line → Type 0
IsOfInputs inputs (line.Update input update) = input < inputs
IsOfInputs inputs (line.AllKnownUpTo watermark) = ⊤
IsOfInputs inputs line.Finish = ⊤

-- the same of a line with a key
abbrev pub KeyedIsOfInputs : ℕ → KeyedLine → Type 0
KeyedIsOfInputs inputs (keyed.OfKey key line) = IsOfInputs inputs line
KeyedIsOfInputs inputs (keyed.AllKnownUpTo watermark) = ⊤
