use Rattle.std.proofs.Common.{Ok, sym}
use Rattle.tilt_feed_line.specs.Plain.{words}
use Rattle.tilt_feed_line.proofs.OfInputs.{keyed_fields_input, keyed_given_input}
use Rattle.tilt_feed_line.proofs.reader.LineReader.read_keyed_line.Goals as goal

pub returns-in_ok-read_keyed_words-in-Some-plain_part-clause-input : goal.returns-in_ok-read_keyed_words-in-Some-plain_part-clause-input
returns-in_ok-read_keyed_words-in-Some-plain_part-clause-input c =
    rw (sym c.in_ok-read_keyed_words-in-Some-plain_part.ensures) at (keyed_fields_input c.args.inputs.now (words c.in-Some-plain_part.part.now))

pub returns-in-Some-clause-input : goal.returns-in-Some-clause-input
returns-in-Some-clause-input c = keyed_given_input c.args.inputs.now c.args.line.now (Ok c.in-Some.said) c.in-Some.ensures

pub returns-in-None-clause-input : goal.returns-in-None-clause-input
returns-in-None-clause-input c = keyed_given_input c.args.inputs.now c.args.line.now c.read_keyed_record.result c.read_keyed_record.ensures
