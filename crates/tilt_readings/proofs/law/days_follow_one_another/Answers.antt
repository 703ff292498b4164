use Rattle.tilt_readings.proofs.DayLemmas.{first_day, next_day, next_month, next_year}
use Rattle.tilt_readings.proofs.law.days_follow_one_another.Goals as goal

pub returns-clause-first : goal.returns-clause-first
returns-clause-first c = first_day

pub returns-clause-day : goal.returns-clause-day
returns-clause-day c = next_day

pub returns-clause-month : goal.returns-clause-month
returns-clause-month c = next_month

pub returns-clause-year : goal.returns-clause-year
returns-clause-year c = next_year
