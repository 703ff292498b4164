-- What `flow` prints: the run of the code of a pipeline's query is what the pipeline gives by lists.
use Rattle.std.proofs.Common.{◌≡◌, ◌∙◌, List, ℕ, Option, Some, sym, ap}
use Rattle.tilt_commands.specs.Table.{flow_text}
use Rattle.tilt_core.specs.Core.{CoreParts}
use Rattle.tilt_core.specs.Meaning.{output_of}
use Rattle.tilt_load.proofs.InputRows.{read_many}
use Rattle.tilt_load.proofs.ReadRows.{inputs_good}
use Rattle.tilt_load.specs.SeriesFiles.{TakesInputs, no_bounds}
use Rattle.tilt_operators.proofs.Kept.{keeps}
use Rattle.tilt_operators.specs.Desugared.{query_of}
use Rattle.tilt_operators.specs.Flow.{FlowTree}
use Rattle.tilt_operators.specs.Inputs.{inputs_of}
use Rattle.tilt_operators.specs.Law.{AreSeries}
use Rattle.tilt_operators.specs.Steps.{IsFlow}
use Rattle.tilt_stream.specs.Snap.{Snapshot}
use Rattle.tilt_stream.specs.Text.{text_of}
use Rattle.tilt_types.specs.Checked.{core_of}
use Rattle.tilt_cli.specs.Binding.{Binding}

same_list : {list list' : List Snapshot} → (let x : Option (List Snapshot) = Some list in x ≡ Some list') → list ≡ list'
same_list e = cc

module _ (flow : FlowTree) (core : CoreParts) (valid : IsFlow flow) (same : core ≡ core_of (query_of flow)) where
  -- the inputs of the query are those of the pipeline
  pub flow_core_inputs : core.inputs ≡ inputs_of flow
  flow_core_inputs = ap (λ (c : CoreParts). c.inputs) same ∙ (keeps flow valid).inputs

  module _ (files : List ℕ → List ℕ) (binds : List Binding) (rows : List (List Snapshot)) (read : TakesInputs files binds (inputs_of flow) rows) where
    -- rows that are read are those of series
    are_series : AreSeries flow rows
    are_series = record {
      one_each = read_many files binds (λ _. no_bounds) (inputs_of flow) rows read.read;
      each = (inputs_good files binds (λ _. no_bounds) (inputs_of flow) rows read.read).in_order;
    }

    -- what the query gives on them is what the pipeline gives
    pub flow_gives : (list : List Snapshot) → output_of core rows ≡ Some list → text_of list ≡ flow_text flow rows
    flow_gives list means =
        let given = (keeps flow valid).output rows are_series in
        ap text_of (same_list (sym means ∙ ap (λ (c : CoreParts). output_of c rows) same ∙ given))
