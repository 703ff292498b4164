use Rattle.std.proofs.Common.{◌≡◌, ◌∙◌, sym, ap, subst, Bool, true, if◌then◌else◌, None, Option, ℤ, FitsSigned, rules}
use Rattle.std.proofs.lemmas.Int.{to_z-of_z}
use Rattle.std.specs.Int.{w64}
use Rattle.std.proofs.lemmas.Bool.{and_from}
use Rattle.tilt_text.specs.Step.{◌>>=◌}
use Rattle.tilt_checkpoint.specs.Checkpoint.{BodyParts}
use Rattle.tilt_checkpoint.specs.Decided.{decided}
use Rattle.tilt_checkpoint.specs.Reading.{Gives, behind_moment, body_at, form_of, is_cut, is_open, rest_at}
use Rattle.tilt_checkpoint.proofs.decoder.read_body.Goals as goal

pub returns-then-is_open : goal.returns-then-is_open
returns-then-is_open c =
    let frame = c.args.frame in
    let start = c.in-Some.open_start in
    let cut_fits : FitsSigned w64 c.in-Some.cut = search rules in
    let done_fits : FitsSigned w64 c.decided.result = search rules in
    let cut = to_z-of_z w64 c.in-Some.cut cut_fits in
    let done = to_z-of_z w64 c.decided.result done_fits in
    let test_cut : is_cut c.in-Some.cut ≡ true = ap is_cut (sym cut) ∙ sym c.is_cut.ensures ∙ c.if-is_cut.true in
    let test_open : is_open frame (decided frame c.in-Some.cut) start ≡ true =
    ap (λ (z : ℤ). is_open frame (decided frame z) start) (sym cut)
    ∙ ap (λ (z : ℤ). is_open frame z start) (sym (done ∙ c.decided.ensures)) ∙ sym c.is_open.ensures ∙ c.if-is_open.true in
    let version = c.args.version in
    let rest = rest_at c.args.inputs (form_of version frame c.in-Some.cut) start c.moment.new.self in
    let read : body_at version frame c.args.inputs c.args.reader ≡ rest =
    ap (λ o. o >>= behind_moment version frame c.args.inputs) c.in-Some.ensures
    ∙ ap (λ (t : Bool). if t then rest else None) (and_from (is_cut c.in-Some.cut) (is_open frame (decided frame c.in-Some.cut) start) test_cut test_open) in
    let form = c.form_of.ensures ∙ ap (form_of version frame) cut in
    subst (λ (o : Option BodyParts). Gives o (λ body. body) c.read_rest.result)
    (sym (read ∙ sym (λ i. rest_at c.args.inputs (form i) start c.moment.new.self))) c.read_rest.ensures
