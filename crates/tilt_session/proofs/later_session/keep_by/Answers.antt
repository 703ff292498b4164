use Rattle.std.proofs.Common.{◌≡◌, ◌∙◌, List, sym, ap, subst, w64, FitsSigned, rules}
use Rattle.std.specs.Prelude.{IfOk}
use Rattle.std.proofs.lemmas.Int.{to_z-of_z}
use Rattle.tilt_checkpoint.specs.Checkpoint.{KeptParts}
use Rattle.tilt_checkpoint.specs.Cuts.{CutsParts}
use Rattle.tilt_checkpoint.specs.Decided.{first_kept}
use Rattle.tilt_session.proofs.Parted.{same-cuts}
use Rattle.tilt_session.specs.Handed.{kept_at}
use Rattle.tilt_session.proofs.later_session.keep_by.Goals as goal

pub returns-in-Upto-clause-kept : goal.returns-in-Upto-clause-kept
returns-in-Upto-clause-kept c = λ upto is.
    let first_fits : FitsSigned w64 c.first_kept.result = search rules in
    let least_fits : FitsSigned w64 c.least.result = search rules in
    let same : c.in-Upto.upto ≡ upto = same-cuts c.in-Upto.upto upto (sym c.in-Upto.is ∙ is) in
    let least = to_z-of_z w64 c.least.result least_fits ∙ c.least.ensures.value ∙ ap (λ (cuts : CutsParts). cuts.least) same in
    let first = to_z-of_z w64 c.first_kept.result first_fits ∙ c.first_kept.ensures ∙ ap (first_kept c.args.frame) least in
    let each = c.each.ensures.value ∙ ap (λ (cuts : CutsParts). cuts.each) same in
    subst (λ (made : List KeptParts). IfOk c.keep.result (λ series. series.items ≡ made))
    (λ i. kept_at (first i) (each i) c.args.handed.now.ends.items c.args.handed.now.rows.items) c.keep.ensures.kept
