-- What is reported if a command isn't done: the status that the program exits with, and one line.
use Rattle.std.specs.Prelude.{ℕ, ℤ, List, ◌++◌, codes}
use Rattle.std.specs.Fmt.{decimal, signed_decimal}
use Rattle.tilt_stream.specs.Snap.{Snapshot}
use Rattle.tilt_stream.specs.Text.{cell_text}
use Rattle.tilt_lexer.specs.declared.fault.LexFault.{LexFault}
use Rattle.tilt_lexer.specs.declared.fault.LexFault.TheVariants as lexical
use Rattle.tilt_series.specs.declared.fault.SeriesFault.{SeriesFault}
use Rattle.tilt_series.specs.declared.fault.SeriesFault.TheVariants as series
use Rattle.tilt_syntax.specs.declared.fault.SyntaxFault.{SyntaxFault}
use Rattle.tilt_syntax.specs.declared.fault.SyntaxFault.TheVariants as syntax
use Rattle.tilt_syntax.specs.declared.fault.TextFault.{TextFault}
use Rattle.tilt_syntax.specs.declared.fault.TextFault.TheVariants as text
use Rattle.tilt_types.specs.declared.fault.CheckFault.{CheckFault}
use Rattle.tilt_types.specs.declared.fault.CheckFault.TheVariants as check
use Rattle.tilt_bounds.specs.declared.fault.ReachFault.{ReachFault}
use Rattle.tilt_bounds.specs.declared.fault.ReachFault.TheVariants as reach
use Rattle.tilt_operators.specs.declared.fault.FlowFault.{FlowFault}
use Rattle.tilt_operators.specs.declared.fault.FlowFault.TheVariants as pipeline
use Rattle.tilt_code.specs.declared.fault.CodeFault.{CodeFault}
use Rattle.tilt_code.specs.declared.fault.CodeFault.TheVariants as listing
use Rattle.tilt_edits.specs.declared.fault.EditFault.{EditFault}
use Rattle.tilt_edits.specs.declared.fault.EditFault.TheVariants as edits
use Rattle.tilt_edits.specs.declared.fault.FixFault.{FixFault}
use Rattle.tilt_edits.specs.declared.fault.FixFault.TheVariants as correction
use Rattle.tilt_cli.specs.declared.fault.WordsFault.{WordsFault}
use Rattle.tilt_cli.specs.declared.fault.WordsFault.TheVariants as words
use Rattle.tilt_report.specs.declared.refusal.Refusal.{Refusal}
use Rattle.tilt_report.specs.declared.refusal.Refusal.TheVariants as code
use Rattle.tilt_report.specs.declared.refusal.StatementFault.{StatementFault}
use Rattle.tilt_report.specs.declared.refusal.StatementFault.TheVariants as statement
use Rattle.tilt_report.specs.declared.fault.Fault.{Fault}
use Rattle.tilt_report.specs.declared.fault.Fault.TheVariants.{Usage, Refused, ReadFault, WriteFault, SaveFault, OutOfMemory}

-- why arguments that are a command are rejected, with what each reason is about. This is the name of a file or of an input, the place,
-- the statement, or how far the query looks back and ahead. It can also be the line of the code and its loop, the old cut and the new
-- one, or the cut or the number of a part. The last ones are the step of a pipeline, the row that another one overlaps, and the line of a
-- correction
pub data Reason : Type 0 where
  input_names : List ℕ → Reason
  file_too_long : List ℕ → Reason
  bad_series : List ℕ → SeriesFault → Reason
  bad_byte : ℕ → Reason
  big_number : ℕ → Reason
  too_many_statements : Reason
  bad_statement : StatementFault → ℕ → Reason
  too_far : ℤ → ℤ → Reason
  bad_code : ℕ → Reason
  bad_reference : ℕ → ℕ → Reason
  bad_checkpoint : Reason
  cut_back : ℤ → ℤ → Reason
  cut_names : List ℕ → Reason
  part_outside : ℤ → Reason
  no_such_part : ℕ → Reason
  bad_step : ℕ → Reason
  step_type : ℕ → Reason
  bad_state : Reason
  other_query : Reason
  other_options : Reason
  no_such_row : Reason
  overlaps : Snapshot → Reason
  bad_edit : ℕ → Reason

-- why a command isn't done
pub data Report : Type 0 where
  usage : Report
  refusal : Reason → Report
  read_fault : List ℕ → Report
  write_fault : Report
  save_fault : List ℕ → Report
  out_of_memory : Report

-- a text that is printed; a text that is printed, and bytes that are saved under a name after it; or a refusal
pub data Outcome : Type 0 where
  printed : List ℕ → Outcome
  printed_and_saved : (text name bytes : List ℕ) → Outcome
  refused : Report → Outcome

-- the reason of a refusal
abbrev pub reason_of : Refusal → Reason
reason_of (code.UnexpectedName name) = input_names name.now
reason_of (code.UnboundInput name) = input_names name
reason_of (code.FileTooLong name) = file_too_long name.now
reason_of (code.BadSeries name fault) = bad_series name fault
reason_of (code.BadByte at) = bad_byte at
reason_of (code.BigNumber at) = big_number at
reason_of code.TooManyStatements = too_many_statements
reason_of (code.BadStatement fault n) = bad_statement fault n
reason_of (code.TooFar back ahead) = too_far back ahead
reason_of (code.BadCode line) = bad_code line
reason_of (code.BadReference in_loop line) = bad_reference in_loop line
reason_of code.BadCheckpoint = bad_checkpoint
reason_of (code.CutBack old new) = cut_back old new
reason_of (code.CutNames name) = cut_names name
reason_of (code.PartOutside at) = part_outside at
reason_of (code.NoSuchPart part) = no_such_part part
reason_of (code.BadStep step) = bad_step step
reason_of (code.StepType step) = step_type step
reason_of code.BadState = bad_state
reason_of code.OtherQuery = other_query
reason_of code.OtherOptions = other_options
reason_of code.NoSuchRow = no_such_row
reason_of (code.Overlaps row) = overlaps row
reason_of (code.BadEdit line) = bad_edit line

-- the report of a fault
abbrev pub report_of : Fault → Report
report_of Usage = usage
report_of (Refused why) = refusal (reason_of why)
report_of (ReadFault name) = read_fault name.now
report_of WriteFault = write_fault
report_of (SaveFault name) = save_fault name.now
report_of OutOfMemory = out_of_memory

-- the report of arguments that give no command
abbrev pub report_of_words : WordsFault → Report
report_of_words words.Usage = usage
report_of_words words.OutOfMemory = out_of_memory

-- the report of a query whose text has a faulty place
abbrev pub report_of_place : LexFault → Report
report_of_place (lexical.BadByte at) = refusal (bad_byte at)
report_of_place (lexical.BigNumber at) = refusal (big_number at)
report_of_place lexical.OutOfMemory = out_of_memory

-- the report of a query whose tokens are rejected
abbrev pub report_of_syntax : SyntaxFault → Report
report_of_syntax syntax.TooManyStatements = refusal too_many_statements
report_of_syntax (syntax.StatementTooLong n) = refusal (bad_statement statement.TooLong n)
report_of_syntax (syntax.Syntax n) = refusal (bad_statement statement.NoReading n)
report_of_syntax (syntax.EmitPlace n) = refusal (bad_statement statement.EmitPlace n)
report_of_syntax syntax.OutOfMemory = out_of_memory

-- the report of a text that is no query
abbrev pub report_of_text : TextFault → Report
report_of_text (text.Lexical place) = report_of_place place
report_of_text (text.Refused tokens) = report_of_syntax tokens
report_of_text text.OutOfMemory = out_of_memory

-- the report of a query that isn't well formed
abbrev pub report_of_check : CheckFault → Report
report_of_check (check.NameTaken n) = refusal (bad_statement statement.NameTaken n)
report_of_check (check.UnknownName n) = refusal (bad_statement statement.UnknownName n)
report_of_check (check.TypeMismatch n) = refusal (bad_statement statement.TypeMismatch n)
report_of_check (check.BadWindow n) = refusal (bad_statement statement.BadWindow n)
report_of_check (check.BadDomain n) = refusal (bad_statement statement.BadDomain n)
report_of_check check.OutOfMemory = out_of_memory

-- the report of a query that has no margins
abbrev pub report_of_reach : ReachFault → Report
report_of_reach (reach.TooFar back ahead) = refusal (too_far back ahead)
report_of_reach reach.OutOfMemory = out_of_memory

-- the report of a text that is no pipeline
abbrev pub report_of_flow : FlowFault → Report
report_of_flow (pipeline.BadByte at) = refusal (bad_byte at)
report_of_flow (pipeline.BigNumber at) = refusal (big_number at)
report_of_flow (pipeline.BadStep step) = refusal (bad_step step)
report_of_flow (pipeline.StepType step) = refusal (step_type step)
report_of_flow pipeline.OutOfMemory = out_of_memory

-- the report of a listing that is rejected
abbrev pub report_of_code : CodeFault → Report
report_of_code (listing.BadCode line) = refusal (bad_code line)
report_of_code (listing.BadReference in_loop line) = refusal (bad_reference in_loop line)
report_of_code listing.OutOfMemory = out_of_memory

-- the report of a text that has no corrections
abbrev pub report_of_edits : EditFault → Report
report_of_edits (edits.BadEdit line) = refusal (bad_edit line)
report_of_edits edits.OutOfMemory = out_of_memory

-- the report of a correction that isn't done
abbrev pub report_of_fix : FixFault → Report
report_of_fix correction.NoSuchRow = refusal no_such_row
report_of_fix (correction.Overlaps row) = refusal (overlaps row)
report_of_fix correction.OutOfMemory = out_of_memory

-- the status that the program exits with
abbrev pub status_of : Report → ℕ
status_of usage = 2
status_of (refusal why) = 1
status_of (read_fault name) = 3
status_of write_fault = 4
status_of (save_fault name) = 6
status_of out_of_memory = 5

-- the number of a series fault, which is before the input's name
abbrev pub series_number : SeriesFault → List ℕ
series_number series.BadHeader = codes "10"
series_number (series.BadFields row) = codes "11"
series_number (series.BadField row field) = codes "12"
series_number (series.TimeRange row) = codes "13"
series_number (series.EmptyInterval row) = codes "14"
series_number (series.OutOfOrder row) = codes "15"
series_number (series.RowBeforeCut row) = codes "16"
series_number (series.RowPastCut row) = codes "17"

-- what a series fault reports after the input's name
abbrev pub series_words : SeriesFault → List ℕ
series_words series.BadHeader = codes ": bad header"
series_words (series.BadFields row) = codes ": bad fields in row " ++ decimal row
series_words (series.BadField row field) = codes ": bad field " ++ decimal field ++ codes " in row " ++ decimal row
series_words (series.TimeRange row) = codes ": time out of range in row " ++ decimal row
series_words (series.EmptyInterval row) = codes ": empty interval in row " ++ decimal row
series_words (series.OutOfOrder row) = codes ": out of order in row " ++ decimal row
series_words (series.RowBeforeCut row) = codes ": before the cut in row " ++ decimal row
series_words (series.RowPastCut row) = codes ": past the cut in row " ++ decimal row

-- the number of a statement's fault and the word that follows it
abbrev pub statement_front : StatementFault → List ℕ
statement_front statement.TooLong = codes "23 statement "
statement_front statement.NoReading = codes "24 statement "
statement_front statement.EmitPlace = codes "25 statement "
statement_front statement.NameTaken = codes "26 statement "
statement_front statement.UnknownName = codes "27 statement "
statement_front statement.TypeMismatch = codes "28 statement "
statement_front statement.BadWindow = codes "29 statement "
statement_front statement.BadDomain = codes "30 statement "

-- the text after the number of the statement
abbrev pub statement_words : StatementFault → List ℕ
statement_words statement.TooLong = codes ": too long"
statement_words statement.NoReading = codes ": syntax"
statement_words statement.EmitPlace = codes ": place of emit"
statement_words statement.NameTaken = codes ": name taken"
statement_words statement.UnknownName = codes ": unknown name"
statement_words statement.TypeMismatch = codes ": type mismatch"
statement_words statement.BadWindow = codes ": bad window"
statement_words statement.BadDomain = codes ": bad domain"

-- a row as a series has it, without the end of its line
abbrev pub row_words : Snapshot → List ℕ
row_words row = signed_decimal row.start ++ codes "," ++ signed_decimal row.end ++ codes "," ++ cell_text row.value

-- the number and the text of a refusal
abbrev pub reason_words : Reason → List ℕ
reason_words (input_names name) = codes "2 input names: " ++ name
reason_words (file_too_long name) = codes "3 file too long: " ++ name
reason_words (bad_series name fault) = series_number fault ++ codes " series " ++ name ++ series_words fault
reason_words (bad_byte at) = codes "20 bad byte at " ++ decimal at
reason_words (big_number at) = codes "21 big number at " ++ decimal at
reason_words too_many_statements = codes "22 too many statements"
reason_words (bad_statement fault n) = statement_front fault ++ decimal n ++ statement_words fault
reason_words (too_far back ahead) = codes "31 too far: back " ++ signed_decimal back ++ codes " ahead " ++ signed_decimal ahead
reason_words (bad_code line) = codes "40 bad code in line " ++ decimal line
reason_words (bad_reference in_loop line) = codes "41 bad reference in loop " ++ decimal in_loop ++ codes ", line " ++ decimal line
reason_words bad_checkpoint = codes "50 bad checkpoint"
reason_words (cut_back old new) = codes "51 cut back from " ++ signed_decimal old ++ codes " to " ++ signed_decimal new
reason_words (cut_names name) = codes "52 cut names: " ++ name
reason_words (part_outside at) = codes "56 part outside: " ++ signed_decimal at
reason_words (no_such_part part) = codes "57 no such part: " ++ decimal part
reason_words (bad_step step) = codes "53 bad step " ++ decimal step
reason_words (step_type step) = codes "54 step " ++ decimal step ++ codes ": type"
reason_words bad_state = codes "55 bad state"
reason_words other_query = codes "58 state of another query"
reason_words other_options = codes "59 state of other options"
reason_words no_such_row = codes "60 no such row"
reason_words (overlaps row) = codes "61 overlaps " ++ row_words row
reason_words (bad_edit line) = codes "62 bad edit in line " ++ decimal line

-- the number and the text of a fault
abbrev pub words_of : Report → List ℕ
words_of usage = codes "1 usage"
words_of (refusal why) = reason_words why
words_of (read_fault name) = codes "4 read fault: " ++ name
words_of write_fault = codes "5 write fault"
words_of (save_fault name) = codes "6 save fault: " ++ name
words_of out_of_memory = codes "7 out of memory"

-- the line that is reported
abbrev pub line_of : Report → List ℕ
line_of report = codes "tilt: " ++ words_of report ++ codes "\n"
