use Rattle.std.proofs.Common.{◌≡◌, ◌∙◌, FitsSigned, ap, length, rules, sym, subst, to_z-of_z, w64}
use Rattle.tilt_checkpoint.specs.Checkpoint.{CheckpointParts}
use Rattle.tilt_checkpoint.proofs.Leasts.{cuts_same}
use Rattle.tilt_checkpoint.specs.Cuts.{AreCuts}
use Rattle.tilt_checkpoint.specs.Cuts.{same_cuts}
use Rattle.tilt_session.proofs.Steps.{first-handed, first-joined}
use Rattle.tilt_session.proofs.joined.Joined.first.Goals as goal

pub start-requires-clause-rows : goal.start-requires-clause-rows
start-requires-clause-rows c =
    let parts = rw (to_z-of_z c.ranges.cut) at c.in_ok-part.ensures.parts in
    let cuts : c.in_ok-cuts.cuts ≡ same_cuts (length c.args.rows.now) c.args.cut = rw (to_z-of_z c.ranges.cut) at c.in_ok-cuts.ensures in
    rw cuts (first-handed c.args.accepted.now.core c.args.rows.now c.in_ok-part.part.items c.args.cut c.requires.run.counted parts)

pub start-requires-clause-cuts : goal.start-requires-clause-cuts
start-requires-clause-cuts c =
    let cuts : c.in_ok-cuts.cuts ≡ same_cuts (length c.args.rows.now) c.args.cut = rw (to_z-of_z c.ranges.cut) at c.in_ok-cuts.ensures in
    subst AreCuts (sym cuts) (cuts_same c.args.cut (length c.args.rows.now) c.requires.cut)

pub returns-clause-joined : goal.returns-clause-joined
returns-clause-joined c =
    let parts = rw (to_z-of_z c.ranges.cut) at c.in_ok-part.ensures.parts in
    let cuts : c.in_ok-cuts.cuts ≡ same_cuts (length c.args.rows.now) c.args.cut = rw (to_z-of_z c.ranges.cut) at c.in_ok-cuts.ensures in
    first-joined c.args.query c.args.accepted.now.core c.args.rows.now c.in_ok-part.part.items c.args.cut c.in_ok-printed.printed c.in_ok-printed.checkpoint c.in_ok-bytes.bytes.items
    parts (rw cuts at c.in_ok-printed.ensures.printed) (rw cuts at c.in_ok-printed.ensures.left) c.in_ok-bytes.ensures.text c.cut.ensures.valid

pub returns-clause-cut : goal.returns-clause-cut
returns-clause-cut c =
    let fits : FitsSigned w64 c.cut.result = search rules in
    let cuts : c.in_ok-cuts.cuts ≡ same_cuts (length c.args.rows.now) c.args.cut = rw (to_z-of_z c.ranges.cut) at c.in_ok-cuts.ensures in
    let left = rw cuts at c.in_ok-printed.ensures.left in
    to_z-of_z fits ∙ c.cut.ensures.value ∙ ap (λ (k : CheckpointParts). k.cut) left
