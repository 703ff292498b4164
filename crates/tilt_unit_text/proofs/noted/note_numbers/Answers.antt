use Rattle.std.proofs.Common.{◌+◌, ◌∷◌, List, [], Option, drop, inr, ap, ◌∙◌, subst, arith}
use Rattle.std.proofs.lemmas.Result.{err_from_is_err_and}
use Rattle.tilt_lexer.specs.declared.token.Token.{Token}
use Rattle.tilt_unit_text.proofs.Noting.{AreAll, all_noted, drop_end, drop_item, one_fault, one_more, taken_few}
use Rattle.tilt_unit_text.specs.Numbers.{left_over, progress_of, unless}
use Rattle.tilt_unit_text.specs.declared.fault.UnitFault.{UnitFault}
use Rattle.tilt_unit_text.proofs.noted.note_numbers.Goals as goal

pub returns-in_err-note : goal.returns-in_err-note
returns-in_err-note c =
    let p = err_from_is_err_and c.from_residual.result c.from_residual.ensures.1 in
    let ts = c.args.tokens.now in
    let i = c.loop-token.token-index in
    let t = c.token-item.result in
    let point = c.point_at-point.ensures in
    let all : AreAll c.args.points.now ts (progress_of c.loop-token.noted) (t ∷ drop (i + 1) ts) =
    subst (λ (rest : List Token). AreAll c.args.points.now ts (progress_of c.loop-token.noted) rest)
    (drop_item ts i t (omega arith) c.token-item.is) c.loop-token.invariant.whole in
    rw (p.1, p.2) (one_fault c.args.points.now ts (progress_of c.loop-token.noted) t (drop (i + 1) ts) c.point_at-point.result _ all point c.in_err-note.ensures)

pub loop-token-preserved : goal.loop-token-preserved
loop-token-preserved c =
    let ts = c.args.tokens.now in
    let i = c.loop-token.token-index in
    let t = c.token-item.result in
    let point = c.point_at-point.ensures in
    let all : AreAll c.args.points.now ts (progress_of c.loop-token.noted) (t ∷ drop (i + 1) ts) =
    subst (λ (rest : List Token). AreAll c.args.points.now ts (progress_of c.loop-token.noted) rest)
    (drop_item ts i t (omega arith) c.token-item.is) c.loop-token.invariant.whole in
    record {
      whole = one_more c.args.points.now ts (progress_of c.loop-token.noted) t (drop (i + 1) ts) c.point_at-point.result
          (progress_of c.note.new.noted) all point c.in_ok-note.ensures;
      few = taken_few c.args.points.now (progress_of c.loop-token.noted) t c.point_at-point.result
          (progress_of c.note.new.noted) point c.in_ok-note.ensures c.loop-token.invariant.few;
    }

pub returns-in-Some : goal.returns-in-Some
returns-in-Some c =
    let ts = c.args.tokens.now in
    let point = c.point_at.ensures in
    let all : AreAll c.args.points.now ts (progress_of c.loop-token.noted) [] =
    subst (λ (rest : List Token). AreAll c.args.points.now ts (progress_of c.loop-token.noted) rest)
    (drop_end ts c.loop-token.token-index (omega arith)) c.loop-token.invariant.whole in
    inr (all_noted c.args.points.now ts (progress_of c.loop-token.noted) c.left_over.result all
    (c.left_over.ensures ∙ ap (left_over c.loop-token.noted.taken) point)
    ∙ ap (λ (o : Option UnitFault). unless o c.loop-token.noted.numbers.items) c.in-Some.is)

pub returns-in-None : goal.returns-in-None
returns-in-None c =
    let ts = c.args.tokens.now in
    let point = c.point_at.ensures in
    let all : AreAll c.args.points.now ts (progress_of c.loop-token.noted) [] =
    subst (λ (rest : List Token). AreAll c.args.points.now ts (progress_of c.loop-token.noted) rest)
    (drop_end ts c.loop-token.token-index (omega arith)) c.loop-token.invariant.whole in
    all_noted c.args.points.now ts (progress_of c.loop-token.noted) c.left_over.result all
    (c.left_over.ensures ∙ ap (left_over c.loop-token.noted.taken) point)
    ∙ ap (λ (o : Option UnitFault). unless o c.loop-token.noted.numbers.items) c.in-None.is
