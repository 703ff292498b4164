-- What a text of readings keeps, as the definition of a step has it (our own rule).
use Rattle.std.specs.Prelude.{option_map}
use Rattle.tilt_reading_feed.specs.Machine.{feed_kept}
use Rattle.tilt_reading_lines.specs.Rules.{layout_of}
use Rattle.tilt_reading_text.specs.Said.{TextKept}
use Rattle.tilt_reading_text.specs.Form.{FormValue}
use Rattle.tilt_reading_text.specs.declared.reading_text.ReadingText.{ReadingText}

-- how its lines are written
abbrev pub form_of : ReadingText → FormValue
form_of text = text.form

-- what it keeps
abbrev pub text_kept : ReadingText → TextKept
text_kept text = record { layout = option_map layout_of text.columns; feed = feed_kept text.taker.feed }
