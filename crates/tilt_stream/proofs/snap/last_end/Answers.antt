use Rattle.std.proofs.Common.{rules, ap, ◌∙◌, Some, option_map, SFits, w64}
use Rattle.std.proofs.lemmas.Int.{to_z-of_z}
use Rattle.tilt_stream.specs.Snap.{Snapshot}
use Rattle.tilt_stream.proofs.Order.{last_end-get}
use Rattle.tilt_stream.proofs.snap.last_end.Goals as goal

pub returns : goal.returns
returns c =
    let fits : SFits w64 c.last-2.inside.end = search rules in
    ap Some (to_z-of_z w64 c.last-2.inside.end fits) ∙ ap (λ (s : Snapshot). Some s.end) c.last-2.view_is
    ∙ ap (option_map (λ (s : Snapshot). s.end)) c.in_ok-last.ensures.value ∙ last_end-get c.args.snaps.now
