use Rattle.tilt_readings.proofs.WrittenLemmas.{written_back}
use Rattle.tilt_readings.proofs.law.written_decimals_are_read_back.Goals as goal

pub returns : goal.returns
returns c = written_back
