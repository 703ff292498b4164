-- The lines that report bad lines of a feed with keys.
use Rattle.std.specs.Prelude.{ℕ, List, [], ◌++◌, codes, Option, None, Some}
use Rattle.std.specs.Fmt.{decimal}
use Rattle.tilt_feed_form.specs.Report.{report}
use Rattle.tilt_feed_form.specs.declared.bad_feed_line.BadFeedLine.{BadFeedLine}
use Rattle.tilt_keyed_line.specs.declared.key_fault.KeyFault.{KeyFault}
use Rattle.tilt_keyed_line.specs.declared.key_fault.KeyFault.TheVariants.{BadKey, NoKey}
use Rattle.tilt_keyed_run.specs.declared.bad_keyed_line.BadKeyedLine.{BadKeyedLine}
use Rattle.tilt_keyed_run.specs.declared.bad_keyed_line.BadKeyedLine.TheVariants as bad
use Rattle.tilt_outside.specs.Counts.{next_count}

-- what comes before the number of a line without a key, and what comes after it
abbrev pub key_front : KeyFault → List ℕ
key_front NoKey = codes "tilt: 86 line "
key_front BadKey = codes "tilt: 87 line "

abbrev pub key_reason : KeyFault → List ℕ
key_reason NoKey = codes ": no key\n"
key_reason BadKey = codes ": bad key\n"

-- the line that reports a bad line, by its number from 1 in the whole feed
abbrev pub keyed_report : ℕ → BadKeyedLine BadFeedLine → List ℕ
keyed_report number (bad.NoKey why) = key_front why ++ (decimal number ++ key_reason why)
keyed_report number (bad.OfKey why) = report number why

-- the report of a line, of which so many are before it, if it is bad
abbrev pub keyed_report_of : ℕ → Option (BadKeyedLine BadFeedLine) → List ℕ
keyed_report_of number None = []
keyed_report_of number (Some why) = keyed_report (next_count number) why
