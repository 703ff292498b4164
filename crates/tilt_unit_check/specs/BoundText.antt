-- What a text says of inputs, as `temperature=-50:150,pressure=0:20:1/60` (our own rule).
use Rattle.std.specs.Prelude.{ℕ, ℤ, ◌^◌, ◌-◌, ◌==◌, int_le, if◌then◌else◌, List, [], ◌∷◌, Option, None, Some, option_map, Result, Ok, Err}
use Rattle.std.specs.List.{after_first, before_first}
use Rattle.tilt_input_scales.specs.Scales.{ScalesValue, scale_named}
use Rattle.tilt_lexer.specs.Word.{is_word}
use Rattle.tilt_magnitudes.specs.Interval.{Interval}
use Rattle.tilt_magnitudes.specs.declared.met.Rate.{Rate}
use Rattle.tilt_reading_options.specs.Duration.{whole_said}
use Rattle.tilt_reading_options.specs.Parts.{after_parts, name_in, text_in, with_one}
use Rattle.tilt_reading_options.specs.Texts.{parts_of}
use Rattle.tilt_readings.specs.Decimal.{in_64_bits, number_at}
use Rattle.tilt_readings.specs.declared.fault.DecimalFault.{DecimalFault}
use Rattle.tilt_text.specs.Step.{◌>>=◌}
use Rattle.tilt_unit_report.specs.declared.bound.InputBound.{InputBound}

-- a number, if there is no fault
abbrev pub sound : Result ℤ DecimalFault → Option ℤ
sound (Ok number) = Some number
sound (Err fault) = None

-- the whole number that a decimal is at a scale
abbrev pub number_said : ℕ → List ℕ → Option ℤ
number_said scale text = sound (in_64_bits (number_at 46 scale text))

-- the numbers from one to another one that isn't below it
abbrev pub interval_from : ℤ → ℤ → Option Interval
interval_from low high = if int_le low high then Some (record { low = low; high = high }) else None

-- the numbers from a low end to a high end
abbrev pub interval_said : ℕ → List ℕ → List ℕ → Option Interval
interval_said scale low high = number_said scale low >>= (λ least. number_said scale high >>= interval_from least)

-- a number of marks, or of ticks
abbrev pub count_said : List ℕ → Option ℕ
count_said text = whole_said (2 ^ 63 - 1) text

-- MARKS/TICKS: at most so many marks in any so many ticks
abbrev pub rate_said : List ℕ → Option Rate
rate_said text =
    count_said (before_first (λ b. b == 47) text)
    >>= (λ marks. option_map (λ ticks. record { marks = marks; ticks = ticks }) (count_said (after_first (λ b. b == 47) text)))

-- the same, if there is such a text; otherwise there can be a mark at any tick
abbrev pub rate_or_any : List ℕ → Option Rate
rate_or_any [] = Some (record { marks = 1; ticks = 1 })
rate_or_any (byte ∷ text) = rate_said (byte ∷ text)

-- what is known of the input with a name, by the texts of its ends and of its rate
abbrev pub bound_with : List ℕ → Option Interval → Option Rate → Option InputBound
bound_with name values rate = values >>= (λ values. option_map (λ rate. record { name = name; values = values; rate = rate }) rate)

-- the same, by what comes after the low end: HIGH or HIGH:MARKS/TICKS
abbrev pub bound_to : List ℕ → ℕ → List ℕ → List ℕ → Option InputBound
bound_to name scale low rest =
    bound_with name (interval_said scale low (before_first (λ b. b == 58) rest)) (rate_or_any (after_first (λ b. b == 58) rest))

-- the same, by what comes after the name: LOW:HIGH or LOW:HIGH:MARKS/TICKS
abbrev pub bound_of : List ℕ → ℕ → List ℕ → Option InputBound
bound_of name scale text = bound_to name scale (before_first (λ b. b == 58) text) (after_first (λ b. b == 58) text)

-- the same, if the name is a word; its ends are at its scale
abbrev pub bound_named : ScalesValue → List ℕ → List ℕ → Option InputBound
bound_named scales name text = if is_word name then bound_of name (scale_named scales name) text else None

-- what a part says: NAME=LOW:HIGH or NAME=LOW:HIGH:MARKS/TICKS
abbrev pub part_said : ScalesValue → List ℕ → Option InputBound
part_said scales part = bound_named scales (name_in part) (text_in part)

-- the name that a bound has
abbrev pub bound_name : InputBound → List ℕ
bound_name bound = bound.name

-- these bounds and the one that a part says, if none of them has its name
abbrev pub with_part : ScalesValue → List InputBound → List ℕ → Option (List InputBound)
with_part scales bounds part = part_said scales part >>= with_one bound_name bounds

-- the bounds that the parts between the commas say
abbrev pub bounds_read : ScalesValue → List ℕ → Option (List InputBound)
bounds_read scales text = after_parts (with_part scales) [] (parts_of text)

-- the bounds that a text says, if it is given
abbrev pub bounds_said : ScalesValue → Option (List ℕ) → Option (List InputBound)
bounds_said scales None = Some []
bounds_said scales (Some text) = bounds_read scales text
