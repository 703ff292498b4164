use Rattle.csv.specs.Reading.{strip_bom}
use Rattle.csv.specs.Records.{fields_of}
use Rattle.tilt_reading_lines.specs.Records.{next_of}
use Rattle.tilt_reading_lines.proofs.Only.{none_found, one_found}
use Rattle.tilt_reading_lines.proofs.record.read_one_record.Goals as goal

pub returns-then-not-branch : goal.returns-then-not-branch
returns-then-not-branch c =
    none_found c.args.delimiter (strip_bom c.args.line.now) (fields_of c.read_next.new.fields) (next_of c.args.delimiter c.read_next.new.reader)
    (rw (c.open-reader.ensures.next, c.if-not-branch.true) at c.in_ok-read_next.ensures.taken)

pub returns : goal.returns
returns c =
    one_found c.args.delimiter (strip_bom c.args.line.now) (fields_of c.read_next.new.fields) (fields_of c.read_next-2.new.fields)
    c.in_ok-found.found (next_of c.args.delimiter c.read_next.new.reader) (next_of c.args.delimiter c.read_next-2.new.reader)
    (rw (c.open-reader.ensures.next, c.if-not-branch.false) at c.in_ok-read_next.ensures.taken) c.in_ok-found.ensures.taken
