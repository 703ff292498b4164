use Rattle.std.proofs.Common.{◌∙◌, ap, Some, SFits, rules, w64}
use Rattle.tilt_base.proofs.Bits.{int_eq-bits}
use Rattle.tilt_parts.specs.Part.{is_finished}
use Rattle.tilt_parts.proofs.Finished.{last-ends}
use Rattle.tilt_stream.specs.Snap.{Snapshot}
use Rattle.tilt_parts.proofs.part.Part.is_finished.Goals as goal

pub returns-in-Some : goal.returns-in-Some
returns-in-Some c =
    let last : SFits w64 c.last-in-Some.inside.end = search rules in
    let end : SFits w64 c.self.inside.stretch.end = search rules in
    int_eq-bits w64 c.last-in-Some.inside.end c.self.inside.stretch.end last end
    ∙ last-ends c.self.inside.taken _ c.self.inside.stretch.end
    (ap (λ (s : Snapshot). Some s) c.last-in-Some.view_is ∙ (rw c.as_slice.ensures.snaps at c.in-Some.ensures.value))
    ∙ ap is_finished c.self.view_is
