use Rattle.std.proofs.Common.{◌≡◌, sym, ◌∙◌, ap, Some, w64, FitsSigned, rules}
use Rattle.std.proofs.lemmas.Int.{to_z-of_z}
use Rattle.tilt_stream.proofs.Pieces.{without_last-push, last_start-push}
use Rattle.tilt_stream.specs.Pieces.{last_start, without_last}
use Rattle.tilt_stream.specs.Snap.{Snapshot}
use Rattle.tilt_session.proofs.closing.without_last.Goals as goal

pub returns-in-Some-clause-printed : goal.returns-in-Some-clause-printed
returns-in-Some-clause-printed c = sym (ap without_last c.in-Some.ensures ∙ without_last-push c.pop.new.self c.in-Some.last)

pub returns-in-Some-clause-begun : goal.returns-in-Some-clause-begun
returns-in-Some-clause-begun c =
    let fits : FitsSigned w64 c.last.inside.start = search rules in
    let at : last_start c.args.list ≡ Some c.in-Some.last.start = ap last_start c.in-Some.ensures ∙ last_start-push c.pop.new.self c.in-Some.last in
    rw (to_z-of_z w64 c.last.inside.start fits) (ap (λ (s : Snapshot). Some s.start) c.last.view_is ∙ sym at)
