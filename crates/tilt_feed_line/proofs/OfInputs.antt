-- What a line says of an input, it says of one that there is.
use Rattle.std.proofs.Common.{◌≡◌, ℕ, ◌<◌, List, [], ◌∷◌, length, Option, Some, None, Result, Ok, Err, IfOk, refl}
use Rattle.std.specs.List.{position}
use Rattle.std.specs.Option.{ok_or}
use Rattle.std.specs.Str.{bytes_eq}
use Rattle.std.proofs.lemmas.List.Quantifiers.{position-Some}
use Rattle.tilt_base.specs.Number.{cell_spelled, number_spelled}
use Rattle.tilt_feed_line.specs.Lines.{◌>>=◌, Gives, IsOfInputs, KeyedIsOfInputs, all_keys_said, all_known_said, fields_of_line}
use Rattle.tilt_feed_line.specs.Lines.{fields_said, form_said, input_named, keyed_fields_said, keyed_form_said, keyed_line_said, known_said}
use Rattle.tilt_feed_line.specs.Lines.{no_value_said, row_said, line_said, value_said}
use Rattle.tilt_feed_line.specs.declared.fault.LineFault.{LineFault}
use Rattle.tilt_feed_line.specs.declared.fault.LineFault.TheVariants.{BadEnd, BadStart, BadValue, UnknownInput}
use Rattle.tilt_feed_line.specs.declared.fault.ReadLineFault.{ReadLineFault}
use Rattle.tilt_feed_line.specs.declared.fault.ReadLineFault.TheVariants.{BadLine, OutOfMemory}
use Rattle.tilt_feed_line.specs.declared.line.Line.{Line}
use Rattle.tilt_feed_line.specs.declared.line.KeyedLine.{KeyedLine}

-- what holds after each step that goes on holds after them
after : {A B : Type 0} → (P : B → Type 0) (read : Result A LineFault) (next : A → Result B LineFault) → IfOk read (λ a. IfOk (next a) P)
    → IfOk (read >>= next) P
after P (Ok a) next holds = holds
after P (Err fault) next holds = tt

-- the same after a test
after_ok_or : {A B : Type 0} → (P : B → Type 0) (read : Option A) (fault : LineFault) (next : A → Result B LineFault)
    → ((a : A) → IfOk (next a) P) → IfOk (ok_or read fault >>= next) P
after_ok_or P (Some a) fault next holds = holds a
after_ok_or P None fault next holds = tt

-- the same after an input was named
after_input : (P : Line → Type 0) (inputs : List (List ℕ)) (name : List ℕ) (next : ℕ → Result Line LineFault)
    → ((input : ℕ) → input < length inputs → IfOk (next input) P) → IfOk (input_named inputs name >>= next) P
after_input P inputs name next holds = by (position (bytes_eq name) inputs) (λ input e. (position-Some (bytes_eq name) inputs input [] e).0)
  where
    by : (found : Option ℕ) → ((input : ℕ) → found ≡ Some input → input < length inputs) → IfOk (ok_or found UnknownInput >>= next) P
    by (Some input) below = holds input (below input refl)
    by None below = tt

row_input : (inputs : List (List ℕ)) (name start end value : List ℕ)
    → IfOk (row_said inputs name start end value) (IsOfInputs (length inputs))
row_input inputs name start end value =
    after_input _ inputs name _ (λ input below. after_ok_or _ (number_spelled start) BadStart _ (λ first.
    after_ok_or _ (number_spelled end) BadEnd _ (λ last. after_ok_or _ (cell_spelled value) BadValue _ (λ cell. below))))

value_input : (inputs : List (List ℕ)) (name start value : List ℕ) → IfOk (value_said inputs name start value) (IsOfInputs (length inputs))
value_input inputs name start value =
    after_input _ inputs name _ (λ input below. after_ok_or _ (number_spelled start) BadStart _ (λ first.
    after_ok_or _ (number_spelled value) BadValue _ (λ number. below)))

no_value_input : (inputs : List (List ℕ)) (name start : List ℕ) → IfOk (no_value_said inputs name start) (IsOfInputs (length inputs))
no_value_input inputs name start =
    after_input _ inputs name _ (λ input below. after_ok_or _ (number_spelled start) BadStart _ (λ first. below))

known_input : (inputs : List (List ℕ)) (name end : List ℕ) → IfOk (known_said inputs name end) (IsOfInputs (length inputs))
known_input inputs name end =
    after_input _ inputs name _ (λ input below. after_ok_or _ (number_spelled end) BadEnd _ (λ watermark. below))

all_known_input : (inputs : ℕ) (end : List ℕ) → IfOk (all_known_said end) (IsOfInputs inputs)
all_known_input inputs end = after_ok_or _ (number_spelled end) BadEnd _ (λ watermark. tt)

form_input : (inputs : List (List ℕ)) (name start end value : List ℕ)
    → IfOk (form_said inputs name start end value) (IsOfInputs (length inputs))
form_input inputs [] [] [] [] = tt
form_input inputs [] [] [] (v ∷ vs) = tt
form_input inputs [] [] (e ∷ es) [] = all_known_input (length inputs) (e ∷ es)
form_input inputs [] [] (e ∷ es) (v ∷ vs) = tt
form_input inputs [] (s ∷ ss) end value = tt
form_input inputs (n ∷ ns) [] [] value = tt
form_input inputs (n ∷ ns) [] (e ∷ es) [] = known_input inputs (n ∷ ns) (e ∷ es)
form_input inputs (n ∷ ns) [] (e ∷ es) (v ∷ vs) = tt
form_input inputs (n ∷ ns) (s ∷ ss) [] [] = no_value_input inputs (n ∷ ns) (s ∷ ss)
form_input inputs (n ∷ ns) (s ∷ ss) [] (v ∷ vs) = value_input inputs (n ∷ ns) (s ∷ ss) (v ∷ vs)
form_input inputs (n ∷ ns) (s ∷ ss) (e ∷ es) value = row_input inputs (n ∷ ns) (s ∷ ss) (e ∷ es) value

all_keys_input : (inputs : ℕ) (name start end value : List ℕ) → IfOk (all_keys_said name start end value) (KeyedIsOfInputs inputs)
all_keys_input inputs [] [] [] [] = tt
all_keys_input inputs [] [] [] (v ∷ vs) = tt
all_keys_input inputs [] [] (e ∷ es) [] = after_ok_or _ (number_spelled (e ∷ es)) BadEnd _ (λ watermark. tt)
all_keys_input inputs [] [] (e ∷ es) (v ∷ vs) = tt
all_keys_input inputs [] (s ∷ ss) end value = tt
all_keys_input inputs (n ∷ ns) start end value = tt

keyed_form_input : (inputs : List (List ℕ)) (key name start end value : List ℕ)
    → IfOk (keyed_form_said inputs key name start end value) (KeyedIsOfInputs (length inputs))
keyed_form_input inputs [] name start end value = all_keys_input (length inputs) name start end value
keyed_form_input inputs (k ∷ ks) name start end value =
    after _ (form_said inputs name start end value) _ (form_input inputs name start end value)

-- what fields say
pub fields_input : (inputs fields : List (List ℕ)) → IfOk (fields_said inputs fields) (IsOfInputs (length inputs))
fields_input inputs [] = tt
fields_input inputs (a ∷ []) = tt
fields_input inputs (a ∷ b ∷ []) = tt
fields_input inputs (a ∷ b ∷ c ∷ []) = tt
fields_input inputs (a ∷ b ∷ c ∷ d ∷ []) = form_input inputs a b c d
fields_input inputs (a ∷ b ∷ c ∷ d ∷ e ∷ more) = tt

pub keyed_fields_input : (inputs fields : List (List ℕ)) → IfOk (keyed_fields_said inputs fields) (KeyedIsOfInputs (length inputs))
keyed_fields_input inputs [] = tt
keyed_fields_input inputs (a ∷ []) = tt
keyed_fields_input inputs (a ∷ b ∷ []) = tt
keyed_fields_input inputs (a ∷ b ∷ c ∷ []) = tt
keyed_fields_input inputs (a ∷ b ∷ c ∷ d ∷ []) = tt
keyed_fields_input inputs (a ∷ b ∷ c ∷ d ∷ e ∷ []) = keyed_form_input inputs a b c d e
keyed_fields_input inputs (a ∷ b ∷ c ∷ d ∷ e ∷ f ∷ more) = tt

-- what holds of what was said holds of the result
of_given : {A : Type 0} → (P : A → Type 0) (result : Result A ReadLineFault) (said : Result A LineFault) → Gives result said
    → IfOk said P → IfOk result P
of_given P (Ok line) said gives holds = rw gives at holds
of_given P (Err (BadLine cause)) said gives holds = tt
of_given P (Err OutOfMemory) said gives holds = tt

-- the same after fields were found or not
after_fields : {A : Type 0} → (P : A → Type 0) (fields : Result (List (List ℕ)) LineFault) (say : List (List ℕ) → Result A LineFault)
    → ((found : List (List ℕ)) → IfOk (say found) P) → IfOk (fields >>= say) P
after_fields P (Ok found) say holds = holds found
after_fields P (Err fault) say holds = tt

-- what a line says
pub given_input : (inputs : List (List ℕ)) (bytes : List ℕ) (result : Result Line ReadLineFault) → Gives result (line_said inputs bytes)
    → IfOk result (IsOfInputs (length inputs))
given_input inputs bytes result gives =
    of_given _ result (line_said inputs bytes) gives (after_fields _ (fields_of_line bytes) (fields_said inputs) (fields_input inputs))

pub keyed_given_input : (inputs : List (List ℕ)) (bytes : List ℕ) (result : Result KeyedLine ReadLineFault)
    → Gives result (keyed_line_said inputs bytes) → IfOk result (KeyedIsOfInputs (length inputs))
keyed_given_input inputs bytes result gives =
    of_given _ result (keyed_line_said inputs bytes) gives
    (after_fields _ (fields_of_line bytes) (keyed_fields_said inputs) (keyed_fields_input inputs))
