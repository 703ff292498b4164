-- Scales: a number for all inputs, or NAME=N,NAME=N.
use Rattle.std.specs.Prelude.{ℕ, ◌^◌, List, [], Option, Some, None, option_map}
use Rattle.tilt_input_scales.specs.Scales.{ScalesValue, scale_named}
use Rattle.tilt_input_scales.specs.declared.input_scale.InputScale.{InputScale}
use Rattle.tilt_reading_lines.specs.Rules.{SourceValue}
use Rattle.tilt_reading_options.specs.Duration.{whole_said}
use Rattle.tilt_reading_options.specs.Parts.{after_parts, first_missing, made_with, name_in, text_in, with_one}
use Rattle.tilt_reading_options.specs.Texts.{parts_of}
use Rattle.tilt_text.specs.Step.{◌>>=◌}

-- the number that a scale is, from 1 to 10^18
abbrev pub number_said : List ℕ → Option ℕ
number_said text = whole_said (10 ^ 18) text

-- a scale with its name, and the name
abbrev pub input_scale : List ℕ → ℕ → InputScale
input_scale name scale = record { name = name; scale = scale }

abbrev pub scaled_name : InputScale → List ℕ
scaled_name scale = scale.name

-- the scale that a part says: NAME=N
abbrev pub scale_in : List ℕ → Option InputScale
scale_in part = made_with input_scale (name_in part) (number_said (text_in part))

-- these scales and the one that a part says, if none of them has its name
abbrev pub with_scale : ScalesValue → List ℕ → Option ScalesValue
with_scale scales part =
    option_map (λ named. record { named = named; others = scales.others }) (scale_in part >>= with_one scaled_name scales.named)

-- the scales, by what the whole text is as a number
abbrev pub same_or_named : List ℕ → Option ℕ → Option ScalesValue
same_or_named text (Some scale) = Some (record { named = []; others = scale })
same_or_named text None = after_parts with_scale (record { named = []; others = 1 }) (parts_of text)

-- the scales that a text says: one for all inputs, or one for each name
abbrev pub scales_read : List ℕ → Option ScalesValue
scales_read text = same_or_named text (number_said text)

-- an input with a name, and its scale
abbrev pub input_with : ScalesValue → List ℕ → SourceValue
input_with scales name = record { name = name; scale = scale_named scales name }

-- the first name of a scale that isn't one of the names
abbrev pub missing_among : List InputScale → List (List ℕ) → Option (List ℕ)
missing_among scales names = first_missing scaled_name scales names
