use Rattle.tilt_reading_lines.proofs.Ticks.{holds, no_reach}
use Rattle.tilt_reading_lines.proofs.law.ticks_hold_their_moments.Goals as goal

pub returns-clause-tick : goal.returns-clause-tick
returns-clause-tick c clock moment tick some is = holds clock moment tick some is

pub returns-clause-none : goal.returns-clause-none
returns-clause-none c clock moment some is = no_reach clock moment some is
