-- What a command asks of the run of a query (our own rule).
use Rattle.std.specs.Prelude.{◌≡◌, ℕ, Bool, if◌then◌else◌, List, Option, None, Some}
use Rattle.tilt_feed_form.specs.Setup.{SetupParts}
use Rattle.tilt_feed_form.specs.declared.feed_form.FeedForm.TheVariants.{Readings, Rows}
use Rattle.tilt_feed_form.specs.declared.feed_form.FeedForm.{FeedForm}
use Rattle.tilt_live_cli.specs.Arguments.{CommandValue}
use Rattle.tilt_input_scales.specs.Scales.{ScalesValue}
use Rattle.tilt_live_app.specs.BeginReport.{BeginReport, in_units, no_input, no_zone, shared}
use Rattle.tilt_live_run.specs.declared.display.Display.{Display}
use Rattle.tilt_live_run.specs.declared.run_options.RunOptions.{RunOptions}
use Rattle.tilt_reading_options.specs.Form.{form_for, missing_input, options_for}
use Rattle.tilt_reading_options.specs.Scales.{missing_among}
use Rattle.tilt_reading_options.specs.Values.{ChoiceValue}
use Rattle.tilt_report.specs.Report.{out_of_memory}
use Rattle.tilt_row_text.specs.declared.times.Times.TheVariants.{Dates, Ticks}
use Rattle.tilt_row_text.specs.declared.times.Times.{Times}
use Rattle.tilt_watermarks.specs.declared.options.Options.{Options}
use Rattle.tilt_zones.specs.Zone.{ZoneParts}

-- how readings of inputs with these names are written and what they mean, by a choice and the table of its zone
abbrev pub setup_for : ChoiceValue → Option ZoneParts → List (List ℕ) → SetupParts
setup_for choice table inputs = record { form = form_for choice table inputs; options = options_for choice inputs }

-- the first name in options that is no input: in those of readings, or in the scales of a query in units
abbrev pub missing_named : Option ChoiceValue → Option ScalesValue → List (List ℕ) → Option (List ℕ)
missing_named None None inputs = None
missing_named None (Some scales) inputs = missing_among scales.named inputs
missing_named (Some choice) units inputs = missing_input choice inputs

-- what is reported if this name is no input, or if there is no memory
abbrev pub IsMisnamed : Option (List ℕ) → BeginReport → Type 0
IsMisnamed missing (no_input name) = missing ≡ Some name
IsMisnamed missing (in_units fault) = ⊥
IsMisnamed missing (no_zone name) = ⊥
IsMisnamed missing (shared report) = report ≡ out_of_memory

-- the form of a feed: rows, with these options of its watermarks; or readings, if the options of readings say a choice. Their local times
-- are read by this table
abbrev pub form_asked : Option ChoiceValue → Option ZoneParts → Options → List (List ℕ) → FeedForm
form_asked None table watermarks inputs = Rows watermarks
form_asked (Some choice) table watermarks inputs = Readings (setup_for choice table inputs)

-- each name in the options of a command is that of an input
abbrev pub NamesInputs : CommandValue → List (List ℕ) → Type 0
NamesInputs command inputs = missing_named command.readings command.units inputs ≡ None

-- how the times of readings are written
abbrev pub times_for : ChoiceValue → Bool → Times
times_for choice dated = if dated then Dates choice.clock else Ticks

-- what is written, and how, if this is asked for: times of readings can be written as dates, by their clock
abbrev pub display_for : Option ChoiceValue → Bool → Display → Display
display_for None dated display = display
display_for (Some choice) dated display = record {
  with_begun = display.with_begun;
  style = record { times = times_for choice dated; decimals = display.style.decimals };
}

-- the same with the decimals of a query in units, if it is one
abbrev pub with_decimals : Option ℕ → Display → Display
with_decimals None display = display
with_decimals (Some decimals) display = record {
  with_begun = display.with_begun;
  style = record { times = display.style.times; decimals = decimals };
}

-- the options of the run that a command asks for, with this table of its zone, for inputs with these names and output with these decimals
abbrev pub options_asked : CommandValue → Option ZoneParts → List (List ℕ) → Option ℕ → RunOptions
options_asked command table inputs decimals = record {
  display = with_decimals decimals (display_for command.readings command.dated command.asked.display);
  strict = command.asked.strict;
  form = form_asked command.readings table command.asked.watermarks inputs;
}
