use Rattle.tilt_unit_report.proofs.Places.{ill_scaled_found, ill_scaled_reported}
use Rattle.tilt_unit_report.proofs.law.ill_scaled_queries_have_one_statement.Goals as goal

pub returns : goal.returns
returns c = record {
  found = ill_scaled_found;
  reported = ill_scaled_reported;
}
