-- How long readings hold: by ages, one for all inputs or NAME=D,NAME=D, and by events, NAME,NAME.
use Rattle.std.specs.Prelude.{ℕ, Bool, true, false, if◌then◌else◌, List, [], Option, Some, None, is_some, option_map, Result, Ok, Err}
use Rattle.std.specs.Option.{ok_or}
use Rattle.tilt_conventions.specs.declared.options.Convention.TheVariants.{Event, Hold}
use Rattle.tilt_lexer.specs.Word.{is_word}
use Rattle.tilt_reading_options.specs.Conventions.{ConventionsValue, convention_name}
use Rattle.tilt_reading_options.specs.Duration.{ticks_said}
use Rattle.tilt_reading_options.specs.Parts.{after_parts, made_with, name_in, text_in, with_one}
use Rattle.tilt_reading_options.specs.Texts.{parts_of}
use Rattle.tilt_reading_options.specs.declared.input_convention.InputConvention.{InputConvention}
use Rattle.tilt_reading_options.specs.declared.reading_option.ReadingOption.{ReadingOption}
use Rattle.tilt_reading_options.specs.declared.reading_option.ReadingOption.TheVariants as option
use Rattle.tilt_text.specs.Step.{◌>>=◌}

-- an input with a name, whose readings hold for an age, or for their tick alone
abbrev pub held_for : List ℕ → ℕ → InputConvention
held_for name age = record { name = name; convention = Hold (Some age) }

abbrev pub event_of : List ℕ → InputConvention
event_of name = record { name = name; convention = Event }

-- the age that a part says, NAME=D, in ticks of a length; and the event that a part says: NAME
abbrev pub age_in : ℕ → List ℕ → Option InputConvention
age_in tick part = made_with held_for (name_in part) (ticks_said tick (text_in part))

abbrev pub event_in : List ℕ → Option InputConvention
event_in part = if is_word part then Some (event_of part) else None

-- these conventions and one more, if there is one and none of them has its name
abbrev pub with_convention : ConventionsValue → Option InputConvention → Option ConventionsValue
with_convention conventions one =
    option_map (λ named. record { named = named; others = conventions.others }) (one >>= with_one convention_name conventions.named)

abbrev pub with_age : ℕ → ConventionsValue → List ℕ → Option ConventionsValue
with_age tick conventions part = with_convention conventions (age_in tick part)

abbrev pub with_event : ConventionsValue → List ℕ → Option ConventionsValue
with_event conventions part = with_convention conventions (event_in part)

-- the ages, by what the whole text is as a duration. The readings of inputs without an age hold until the next one
abbrev pub ages_by : ℕ → List ℕ → Option ℕ → Option ConventionsValue
ages_by tick text (Some age) = Some (record { named = []; others = Hold (Some age) })
ages_by tick text None = after_parts (with_age tick) (record { named = []; others = Hold None }) (parts_of text)

-- the ages that a text says: one for all inputs, or one for each name
abbrev pub ages_read : ℕ → List ℕ → Option ConventionsValue
ages_read tick text = ages_by tick text (ticks_said tick text)

-- how long readings hold, if all of them are events or none is. Events have no age
abbrev pub ages_said : Bool → ℕ → Option (List ℕ) → Result ConventionsValue ReadingOption
ages_said true tick None = Ok (record { named = []; others = Event })
ages_said true tick (Some text) = Err option.MaxAge
ages_said false tick None = Ok (record { named = []; others = Hold None })
ages_said false tick (Some text) = ok_or (ages_read tick text) option.MaxAge

-- whether a text has events: words, and none of them twice
abbrev pub are_events : List ℕ → Bool
are_events text = is_some (after_parts with_event (record { named = []; others = Event }) (parts_of text))

-- the same with the events of a text, if not all readings are events. None of them has an age of its own
abbrev pub events_said : Bool → ConventionsValue → Option (List ℕ) → Result ConventionsValue ReadingOption
events_said all conventions None = Ok conventions
events_said true conventions (Some text) = Err option.Events
events_said false conventions (Some text) =
    if are_events text then ok_or (after_parts with_event conventions (parts_of text)) option.MaxAge else Err option.Events
