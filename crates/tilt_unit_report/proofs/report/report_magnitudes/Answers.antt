-- A report without an ill-scaled statement is of a query whose sources have bounds.
use Rattle.std.proofs.Common.{◌≡◌, ◌∙◌, List, None, Result, Ok, Err, length, refl, sym}
use Rattle.tilt_core.proofs.Constancy.{definitions-AreGrids}
use Rattle.tilt_magnitudes.specs.Interval.{Interval}
use Rattle.tilt_magnitudes.specs.declared.overflow.Overflow.{Overflow}
use Rattle.tilt_syntax.specs.Tree.{StatementTree}
use Rattle.tilt_unit_report.specs.Bound.{rates_for, values_for}
use Rattle.tilt_unit_report.specs.IllScaled.{ill_scaled, magnitudes_of}
use Rattle.tilt_unit_report.proofs.report.report_magnitudes.Goals as goal

has_bounds : (query : List StatementTree) (found : Result (List Interval) Overflow) → ill_scaled query found ≡ None
    → (all : List Interval) × (found ≡ Ok all)
has_bounds query (Ok all) none = (all, refl)
has_bounds query (Err overflow) none = cc

pub returns-clause-safe : goal.returns-clause-safe
returns-clause-safe c =
    let query = c.args.query.now in
    let core = c.args.core.now in
    let bounds = c.args.bounds.now in
    λ none rows bounded marked.
    let found = has_bounds query (magnitudes_of core bounds) (sym c.in_ok-report_of.ensures.ill_scaled ∙ none) in
    c.values_stay_within_bounds.ensures.no_overflow (values_for bounds core.inputs) found.0 (rates_for bounds core.inputs) rows core.defs
    bounded marked (definitions-AreGrids (length core.inputs) core.defs c.inputs.ensures.accepted.definitions) found.1
