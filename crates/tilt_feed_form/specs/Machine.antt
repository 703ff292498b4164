-- The form of a text, and what it keeps, as the definition of a step has them.
use Rattle.tilt_feed_form.specs.Said.{TextKept}
use Rattle.tilt_feed_form.specs.Said.TextKept.{OfRows, OfReadings}
use Rattle.tilt_feed_form.specs.declared.feed_form.FeedForm.{FeedForm}
use Rattle.tilt_feed_form.specs.declared.feed_form.FeedForm.TheVariants as forms
use Rattle.tilt_feed_form.specs.declared.feed_text.FeedLines.{FeedLines}
use Rattle.tilt_feed_form.specs.declared.feed_text.FeedLines.TheVariants as lines
use Rattle.tilt_feed_form.specs.declared.feed_text.FeedText.{FeedText}
use Rattle.tilt_reading_text.specs.Machine.{text_kept}
use Rattle.tilt_reading_text.specs.Machine as readings
use Rattle.tilt_watermarks.specs.Machine.{kept_by, options_of}

-- the form of lines
abbrev pub form_of_lines : FeedLines → FeedForm
form_of_lines (lines.Rows its) = forms.Rows (options_of its.watermarks)
form_of_lines (lines.Readings its) = forms.Readings (record { form = readings.form_of its.text; options = its.options.items })

-- what is kept of them
abbrev pub kept_of_lines : FeedLines → TextKept
kept_of_lines (lines.Rows its) = OfRows (kept_by its.watermarks)
kept_of_lines (lines.Readings its) = OfReadings (text_kept its.text)

-- the same of a text
abbrev pub form_of : FeedText → FeedForm
form_of text = form_of_lines text.lines

abbrev pub kept_of : FeedText → TextKept
kept_of text = kept_of_lines text.lines
