use Rattle.std.proofs.Common.{drop}
use Rattle.tilt_base.specs.declared.limits.TheConstants.{T}
use Rattle.tilt_session.specs.Parts.{AreJoined}
use Rattle.tilt_cli.specs.Number.{RiseFrom}
use Rattle.tilt_session.proofs.cut_run.run_cut.Given as goal

abbrev pub invariant-loop-cut : goal.invariant-loop-cut
invariant-loop-cut l = record {
  joined : AreJoined l.fn.query l.accepted.core l.rows l.joined.cut l.joined.printed l.joined.bytes.items;
  rise : RiseFrom l.joined.cut T (drop l.cut-index l.later);
}
