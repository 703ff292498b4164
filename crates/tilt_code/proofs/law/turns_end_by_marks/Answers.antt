use Rattle.tilt_code.proofs.Turns.{turns_until-first, turns_until-none, turn-ends, turn-end_by_mark, turn-end_without_mark}
use Rattle.tilt_code.proofs.law.turns_end_by_marks.Goals as goal

pub returns-clause-first : goal.returns-clause-first
returns-clause-first c = λ body grid hi start valid some. turns_until-first body grid valid hi start some

pub returns-clause-none : goal.returns-clause-none
returns-clause-none c = turns_until-none

pub returns-clause-ends : goal.returns-clause-ends
returns-clause-ends c = λ body grid hi start valid some. turn-ends body grid valid hi start some

pub returns-clause-by_mark : goal.returns-clause-by_mark
returns-clause-by_mark c = λ body grid hi start next valid some found. turn-end_by_mark body grid valid hi start some next found

pub returns-clause-without_mark : goal.returns-clause-without_mark
returns-clause-without_mark c = λ body grid hi start valid some none. turn-end_without_mark body grid valid hi start some none
