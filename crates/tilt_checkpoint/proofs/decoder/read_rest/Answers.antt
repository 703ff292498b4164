use Rattle.std.proofs.Common.{◌≡◌, ◌∙◌, ℕ, List, Option, FitsSigned, sym, ap, subst, rules}
use Rattle.std.specs.Int.{w64}
use Rattle.std.proofs.lemmas.Int.{to_z-of_z}
use Rattle.tilt_text.specs.Step.{◌>>=◌}
use Rattle.tilt_checkpoint.specs.Checkpoint.{BodyParts}
use Rattle.tilt_checkpoint.specs.Reading.{Gives, end_at, rest_at}
use Rattle.tilt_checkpoint.proofs.decoder.read_rest.Goals as goal

pub returns : goal.returns
returns c =
    let least = c.args.form.least in
    let start = c.args.open_start in
    let fits : FitsSigned w64 least = search rules in
    let read : rest_at c.args.inputs c.args.form start c.args.reader ≡ end_at least start (c.in_ok-series.series.items, c.left.result.now) =
    ap (λ o. o >>= end_at least start) c.in_ok-series.ensures
    ∙ ap (λ (l : List ℕ). end_at least start (c.in_ok-series.series.items, l)) (sym c.left.ensures) in
    subst (λ (o : Option BodyParts). Gives o (λ body. body) c.end.result) (sym read) (rw (to_z-of_z w64 least fits) at c.end.ensures)
