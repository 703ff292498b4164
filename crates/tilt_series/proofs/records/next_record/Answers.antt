use Rattle.csv.specs.Records.{fields_of}
use Rattle.tilt_series.proofs.Left.{stopped_from, stays_between, takes_first}
use Rattle.tilt_series.proofs.records.next_record.Goals as goal

pub returns-clause-between : goal.returns-clause-between
returns-clause-between c =
    stays_between c.args.reader.now c.read_byte_record.new.self c.in-Ok.found (fields_of c.read_byte_record.new.row) c.requires
    (c.in-Ok.ensures.ready c.requires.trim) c.in-Ok.ensures.flexible (c.in-Ok.ensures.reads c.requires.trim c.requires.ready)

pub returns-clause-taken : goal.returns-clause-taken
returns-clause-taken c =
    takes_first c.args.reader.now c.read_byte_record.new.self c.in-Ok.found (fields_of c.read_byte_record.new.row) c.requires (c.in-Ok.ensures.reads c.requires.trim c.requires.ready)

pub out_of_memory-requires : goal.out_of_memory-requires
out_of_memory-requires c = stopped_from c.args.reader.now c.read_byte_record.new.self _ c.requires.flexible (c.in-Err.ensures.why c.requires.ready)
