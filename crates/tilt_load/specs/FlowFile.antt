-- What a pipeline file gives: a pipeline, or the first reason why it is none.
use Rattle.std.specs.Prelude.{◌≡◌, ◌<◌, ◌≤◌, List, ℕ, length, Ok, Err}
use Rattle.tilt_base.specs.declared.limits.TheConstants.{FILE}
use Rattle.tilt_bounds.specs.Margins.{MarginsParts, margins_of}
use Rattle.tilt_core.specs.Needs.{Need}
use Rattle.tilt_operators.specs.Desugared.{query_of}
use Rattle.tilt_operators.specs.Flow.{FlowTree}
use Rattle.tilt_operators.specs.Steps.{IsFlowText, IsRefusedText}
use Rattle.tilt_operators.specs.declared.fault.FlowFault.{FlowFault}
use Rattle.tilt_report.specs.Report.{Reason, refusal, file_too_long, too_far, report_of_flow}
use Rattle.tilt_types.specs.Checked.{core_of}

-- the text is no longer than a file may be, and it is this pipeline
pub record HasFlow (bytes : List ℕ) (flow : FlowTree) : Type 0 where
  pub short : length bytes ≤ FILE
  pub read : IsFlowText bytes flow

-- and the query of the pipeline looks no farther than a query may
pub record TakesFlow (bytes : List ℕ) (flow : FlowTree) : Type 0 where
  pub has_flow : HasFlow bytes flow
  pub margins : MarginsParts
  pub reach : margins_of (core_of (query_of flow)) ≡ Ok margins

-- why the pipeline file of a name is rejected: it is too long, it is no pipeline, or the query of its pipeline looks too far
pub data RefusesFlow (name bytes : List ℕ) : Reason → Type 0 where
  long : FILE < length bytes → RefusesFlow name bytes (file_too_long name)
  no_flow : {why : Reason} (fault : FlowFault) → length bytes ≤ FILE → IsRefusedText bytes fault → report_of_flow fault ≡ refusal why
      → RefusesFlow name bytes why
  far : (flow : FlowTree) (widest : Need) → HasFlow bytes flow → margins_of (core_of (query_of flow)) ≡ Err widest
      → RefusesFlow name bytes (too_far widest.back widest.ahead)
