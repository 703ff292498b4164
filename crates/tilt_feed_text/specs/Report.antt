-- The lines that report bad lines.
use Rattle.std.specs.Prelude.{ℕ, Bool, if◌then◌else◌, List, [], ◌∷◌, ◌++◌, codes, Option, None, Some}
use Rattle.std.specs.Fmt.{decimal}
use Rattle.tilt_feed.specs.declared.fault.EventFault.{EventFault}
use Rattle.tilt_feed.specs.declared.fault.EventFault.TheVariants as rule
use Rattle.tilt_feed_line.specs.declared.fault.LineFault.{LineFault}
use Rattle.tilt_feed_line.specs.declared.fault.LineFault.TheVariants as unread
use Rattle.tilt_feed_text.specs.Said.{FeedState, after_line, line_fault, stops}
use Rattle.tilt_feed_text.specs.declared.bad_line.BadLine.{BadLine}
use Rattle.tilt_feed_text.specs.declared.bad_line.BadLine.TheVariants as bad
use Rattle.tilt_outside.specs.Counts.{next_count}
use Rattle.tilt_watermarks.specs.declared.fault.TakeFault.{TakeFault}
use Rattle.tilt_watermarks.specs.declared.fault.TakeFault.TheVariants as take
use Rattle.tilt_watermarks.specs.declared.options.Options.{Options}

-- the number of the reason, and what is said after the number of the line
abbrev pub unread_front : LineFault → List ℕ
unread_front unread.NotOneRecord = codes "70"
unread_front (unread.FieldCount expected) = codes "71"
unread_front unread.NoForm = codes "72"
unread_front unread.UnknownInput = codes "73"
unread_front unread.BadStart = codes "74"
unread_front unread.BadEnd = codes "75"
unread_front unread.BadValue = codes "76"

abbrev pub unread_reason : LineFault → List ℕ
unread_reason unread.NotOneRecord = codes ": not one record\n"
unread_reason (unread.FieldCount expected) = codes ": not " ++ (decimal expected ++ codes " fields\n")
unread_reason unread.NoForm = codes ": no such form\n"
unread_reason unread.UnknownInput = codes ": unknown input\n"
unread_reason unread.BadStart = codes ": bad start\n"
unread_reason unread.BadEnd = codes ": bad end\n"
unread_reason unread.BadValue = codes ": bad value\n"

abbrev pub rule_front : EventFault → List ℕ
rule_front rule.Finished = codes "80"
rule_front rule.OutOfRange = codes "81"
rule_front rule.Late = codes "82"
rule_front rule.NoTick = codes "83"

abbrev pub rule_reason : EventFault → List ℕ
rule_reason rule.Finished = codes ": after the end\n"
rule_reason rule.OutOfRange = codes ": time out of range\n"
rule_reason rule.Late = codes ": late\n"
rule_reason rule.NoTick = codes ": empty interval\n"

abbrev pub take_front : TakeFault → List ℕ
take_front (take.NotAllowed rule) = rule_front rule
take_front take.Overlap = codes "84"
take_front take.Ahead = codes "85"

abbrev pub take_reason : TakeFault → List ℕ
take_reason (take.NotAllowed rule) = rule_reason rule
take_reason take.Overlap = codes ": overlaps one that is held\n"
take_reason take.Ahead = codes ": too far ahead\n"

abbrev pub bad_front : BadLine → List ℕ
bad_front bad.TooLong = codes "77"
bad_front (bad.Unreadable fault) = unread_front fault
bad_front (bad.NotTaken fault) = take_front fault
bad_front bad.NoEnd = codes "78"

abbrev pub bad_reason : BadLine → List ℕ
bad_reason bad.TooLong = codes ": too long\n"
bad_reason (bad.Unreadable fault) = unread_reason fault
bad_reason (bad.NotTaken fault) = take_reason fault
bad_reason bad.NoEnd = codes ": no end of line\n"

-- the line that reports a bad line, by its number from 1
abbrev pub report : ℕ → BadLine → List ℕ
report number why = codes "tilt: " ++ (bad_front why ++ (codes " line " ++ (decimal number ++ bad_reason why)))

-- the report of a line, of which so many are before it, if it is bad
abbrev pub report_of : ℕ → Option BadLine → List ℕ
report_of number None = []
report_of number (Some why) = report (next_count number) why

-- the reports of lines after some, of which the first one has a number; if bad lines stop the run, the reports up to the first bad line
abbrev pub reports_from : Bool → Options → List (List ℕ) → ℕ → FeedState → List (List ℕ) → List ℕ
reports_from strict options inputs number state [] = []
reports_from strict options inputs number state (bytes ∷ lines) =
    report_of number (line_fault options inputs state number bytes)
    ++ (if stops strict options inputs state number bytes then []
    else reports_from strict options inputs (next_count number) (after_line options inputs number bytes state) lines)
