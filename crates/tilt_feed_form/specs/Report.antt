-- The lines that report bad lines, of a feed in either form.
use Rattle.std.specs.Prelude.{ℕ, Bool, if◌then◌else◌, List, [], ◌∷◌, ◌++◌, Option, None, Some}
use Rattle.tilt_feed_form.specs.Said.{FeedState, after_line, line_fault, stops}
use Rattle.tilt_feed_form.specs.declared.bad_feed_line.BadFeedLine.{BadFeedLine}
use Rattle.tilt_feed_form.specs.declared.bad_feed_line.BadFeedLine.TheVariants as bad
use Rattle.tilt_feed_form.specs.declared.feed_form.FeedForm.{FeedForm}
use Rattle.tilt_feed_text.specs.Report as rows
use Rattle.tilt_outside.specs.Counts.{next_count}
use Rattle.tilt_reading_text.specs.Report as readings

-- the line that reports a bad line, by its number from 1
abbrev pub report : ℕ → BadFeedLine → List ℕ
report number (bad.Rows why) = rows.report number why
report number (bad.Readings why) = readings.report number why

-- the report of a line, of which so many are before it, if it is bad
abbrev pub report_of : ℕ → Option BadFeedLine → List ℕ
report_of number None = []
report_of number (Some why) = report (next_count number) why

-- the reports of lines after some, of which the first one has a number; if one ends the run, the reports up to it
abbrev pub reports_from : Bool → FeedForm → List (List ℕ) → ℕ → FeedState → List (List ℕ) → List ℕ
reports_from strict form inputs number state [] = []
reports_from strict form inputs number state (line ∷ lines) =
    report_of number (line_fault form inputs state.kept number line)
    ++ (if stops strict form inputs state number line then []
    else reports_from strict form inputs (next_count number) (after_line form inputs number line state) lines)
