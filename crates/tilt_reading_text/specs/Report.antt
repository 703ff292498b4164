-- The lines that report bad lines of readings. Inputs are counted from 1 there, in the order of their numbers.
use Rattle.std.specs.Prelude.{ℕ, ◌+◌, List, [], ◌++◌, codes, Option, None, Some}
use Rattle.std.specs.Fmt.{decimal}
use Rattle.tilt_conventions.specs.declared.fault.TurnFault.{TurnFault}
use Rattle.tilt_conventions.specs.declared.fault.TurnFault.TheVariants as turn
use Rattle.tilt_outside.specs.Counts.{next_count}
use Rattle.tilt_reading_feed.specs.declared.fault.FeedFault.{FeedFault}
use Rattle.tilt_reading_feed.specs.declared.fault.FeedFault.TheVariants as feed
use Rattle.tilt_reading_lines.specs.declared.fault.Column.{Column}
use Rattle.tilt_reading_lines.specs.declared.fault.Column.TheVariants as column
use Rattle.tilt_reading_lines.specs.declared.fault.HeaderFault.{HeaderFault}
use Rattle.tilt_reading_lines.specs.declared.fault.HeaderFault.TheVariants as header
use Rattle.tilt_reading_lines.specs.declared.fault.LineFault.{LineFault}
use Rattle.tilt_reading_lines.specs.declared.fault.LineFault.TheVariants as unread
use Rattle.tilt_reading_text.specs.declared.bad_reading_line.BadReadingLine.{BadReadingLine}
use Rattle.tilt_reading_text.specs.declared.bad_reading_line.BadReadingLine.TheVariants as bad
use Rattle.tilt_readings.specs.declared.fault.DateFault.{DateFault}
use Rattle.tilt_readings.specs.declared.fault.DateFault.TheVariants as date
use Rattle.tilt_readings.specs.declared.fault.DecimalFault.{DecimalFault}
use Rattle.tilt_readings.specs.declared.fault.DecimalFault.TheVariants as decimal
use Rattle.tilt_zones.specs.declared.fault.LocalFault.{LocalFault}
use Rattle.tilt_zones.specs.declared.fault.LocalFault.TheVariants as local

-- the number of the reason, and what is said after the number of the line: of a header,
abbrev pub header_front : HeaderFault → List ℕ
header_front header.NotOneRecord = codes "90"
header_front (header.Missing column) = codes "91"
header_front (header.Doubled column) = codes "92"

abbrev pub column_text : Column → List ℕ
column_text column.Time = codes "times\n"
column_text column.Name = codes "names\n"
column_text column.Value = codes "values\n"
column_text (column.OfInput input) = codes "input " ++ (decimal (input + 1) ++ codes "\n")

abbrev pub header_reason : HeaderFault → List ℕ
header_reason header.NotOneRecord = codes ": the header isn't one record\n"
header_reason (header.Missing column) = codes ": no column of " ++ column_text column
header_reason (header.Doubled column) = codes ": two columns of " ++ column_text column

-- of a line that says nothing,
abbrev pub unread_front : LineFault → List ℕ
unread_front unread.NotOneRecord = codes "93"
unread_front (unread.FieldCount expected) = codes "94"
unread_front (unread.BadDate fault) = codes "95"
unread_front (unread.BadLocal fault) = codes "95"
unread_front (unread.BadNumber fault) = codes "95"
unread_front unread.TimeOutOfRange = codes "96"
unread_front unread.NoName = codes "97"
unread_front (unread.BadValue input fault) = codes "98"

abbrev pub date_reason : DateFault → List ℕ
date_reason date.NotDate = codes ": bad time: no date with an offset\n"
date_reason date.NoSuchTime = codes ": bad time: no such day or time\n"
date_reason date.TooFine = codes ": bad time: finer than a nanosecond\n"
date_reason date.OutOfYears = codes ": bad time: not in the years 1 to 9999\n"

abbrev pub local_reason : LocalFault → List ℕ
local_reason local.Skipped = codes ": bad time: the clocks of the zone skip this local time\n"
local_reason local.Doubled = codes ": bad time: the clocks of the zone show this local time twice\n"
local_reason local.Beyond = codes ": bad time: the table of the zone ends before this local time\n"

abbrev pub number_reason : DecimalFault → List ℕ
number_reason decimal.NotDecimal = codes ": bad time: not a number\n"
number_reason decimal.NotWhole = codes ": bad time: finer than a nanosecond\n"
number_reason decimal.OutOfRange = codes ": bad time: out of range\n"

abbrev pub value_reason : DecimalFault → List ℕ
value_reason decimal.NotDecimal = codes ": not a number\n"
value_reason decimal.NotWhole = codes ": digits would be lost\n"
value_reason decimal.OutOfRange = codes ": out of range\n"

abbrev pub unread_reason : LineFault → List ℕ
unread_reason unread.NotOneRecord = codes ": not one record\n"
unread_reason (unread.FieldCount expected) = codes ": not " ++ (decimal expected ++ codes " fields\n")
unread_reason (unread.BadDate fault) = date_reason fault
unread_reason (unread.BadLocal fault) = local_reason fault
unread_reason (unread.BadNumber fault) = number_reason fault
unread_reason unread.TimeOutOfRange = codes ": time out of range\n"
unread_reason unread.NoName = codes ": no name\n"
unread_reason (unread.BadValue input fault) = codes ": bad value of input " ++ (decimal (input + 1) ++ value_reason fault)

-- and of a line that the feed doesn't take
abbrev pub turn_front : TurnFault → List ℕ
turn_front turn.OutOfRange = codes "96"
turn_front turn.Late = codes "102"
turn_front turn.Tie = codes "103"

abbrev pub turn_reason : ℕ → TurnFault → List ℕ
turn_reason input turn.OutOfRange = codes ": time out of range\n"
turn_reason input turn.Late = codes ": late reading of input " ++ (decimal (input + 1) ++ codes "\n")
turn_reason input turn.Tie = codes ": second reading in one tick of input " ++ (decimal (input + 1) ++ codes "\n")

abbrev pub feed_front : FeedFault → List ℕ
feed_front feed.Finished = codes "101"
feed_front (feed.NoInput input) = codes "104"
feed_front (feed.Repeated input) = codes "105"
feed_front (feed.NotTaken input fault) = turn_front fault
feed_front feed.OutOfRange = codes "96"

abbrev pub feed_reason : FeedFault → List ℕ
feed_reason feed.Finished = codes ": after the end\n"
feed_reason (feed.NoInput input) = codes ": no input " ++ (decimal (input + 1) ++ codes "\n")
feed_reason (feed.Repeated input) = codes ": readings not in the order of inputs\n"
feed_reason (feed.NotTaken input fault) = turn_reason input fault
feed_reason feed.OutOfRange = codes ": time out of range\n"

abbrev pub bad_front : BadReadingLine → List ℕ
bad_front bad.TooLong = codes "99"
bad_front (bad.BadHeader fault) = header_front fault
bad_front (bad.Unreadable fault) = unread_front fault
bad_front (bad.NotTaken fault) = feed_front fault
bad_front bad.NoEnd = codes "100"

abbrev pub bad_reason : BadReadingLine → List ℕ
bad_reason bad.TooLong = codes ": too long\n"
bad_reason (bad.BadHeader fault) = header_reason fault
bad_reason (bad.Unreadable fault) = unread_reason fault
bad_reason (bad.NotTaken fault) = feed_reason fault
bad_reason bad.NoEnd = codes ": no end of line\n"

-- the line that reports a bad line, by its number from 1
abbrev pub report : ℕ → BadReadingLine → List ℕ
report number why = codes "tilt: " ++ (bad_front why ++ (codes " line " ++ (decimal number ++ bad_reason why)))

-- the report of a line, of which so many are before it, if it is bad
abbrev pub report_of : ℕ → Option BadReadingLine → List ℕ
report_of number None = []
report_of number (Some why) = report (next_count number) why
