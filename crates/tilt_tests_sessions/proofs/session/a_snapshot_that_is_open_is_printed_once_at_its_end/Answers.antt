use Rattle.std.proofs.Common.{◌∙◌, ap, sym}
use Rattle.tilt_checkpoint.specs.Checkpoint.{CheckpointParts}
use Rattle.tilt_types.specs.Checked.{core_of}
use Rattle.tilt_types.proofs.CheckedCore.{checked-core}
use Rattle.tilt_tests_sessions.proofs.session.a_snapshot_that_is_open_is_printed_once_at_its_end.Goals as goal

pub resume-requires-clause-core : goal.resume-requires-clause-core
resume-requires-clause-core g c =
    c.in_ok-accepted.ensures.core ∙ sym (checked-core c.in_ok-query.query c.in_ok-core.core c.in_ok-core.ensures) ∙ ap (λ (d : CheckpointParts). core_of d.query) (sym c.in_ok-session.ensures.left)
