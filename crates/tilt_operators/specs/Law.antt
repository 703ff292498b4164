-- What the query of a pipeline is for: it gives what the pipeline gives.
use Rattle.std.specs.Prelude.{◌≡◌, List, length, Some}
use Rattle.std.specs.List.{AllByRecursion}
use Rattle.tilt_core.specs.Core.{CoreParts, domain_of}
use Rattle.tilt_core.specs.Meaning.{emitted, output_of}
use Rattle.tilt_stream.specs.Agreement.{Agree}
use Rattle.tilt_stream.specs.Snap.{Snapshot, AreRows}
use Rattle.tilt_stream.specs.Snapshots.{snapshots}
use Rattle.tilt_stream.specs.Stream.{Stream, stream_of}
use Rattle.tilt_operators.specs.Flow.{FlowTree}
use Rattle.tilt_operators.specs.Inputs.{inputs_of}
use Rattle.tilt_operators.specs.Lists.{flow_list}

-- one list of rows for each input of the pipeline, in their order
pub record AreSeries (flow : FlowTree) (rows : List (List Snapshot)) : Type 0 where
  pub one_each : length rows ≡ length (inputs_of flow)
  pub each : AllByRecursion AreRows rows

-- on all series the core emits a stream that agrees with that of the pipeline's list on the domain, so that both have the same snapshots
-- there
pub record KeepsMeaning (flow : FlowTree) (core : CoreParts) : Type 0 where
  pub inputs : core.inputs ≡ inputs_of flow
  pub domain : domain_of core.defs ≡ Some flow.domain
  pub same : (rows : List (List Snapshot)) → AreSeries flow rows
      → (x : Stream) × (emitted core rows ≡ Some x) × Agree (stream_of (flow_list flow rows)) x flow.domain.start flow.domain.end
  pub output : (rows : List (List Snapshot)) → AreSeries flow rows
      → output_of core rows ≡ Some (snapshots (stream_of (flow_list flow rows)) flow.domain.start flow.domain.end)
