use Rattle.std.proofs.Common.{rules, ◌≡◌, ◌∷◌, [], ◌≤◌, ◌==◌, length, pos}
use Rattle.std.proofs.lemmas.Result.{err_from_is_err_and}
use Rattle.std.specs.List.{position_or_len}
use Rattle.tilt_cli.specs.Number.{before_comma, after_comma}
use Rattle.tilt_cli.proofs.Listed.{HasComma, IsPart, after_part, before_all, before_next, parts_spelled, refused_next, refused_last}
use Rattle.tilt_cli.proofs.number.read_numbers.Goals as goal

pub loop-piece-init : goal.loop-piece-init
loop-piece-init c = (c.utf8.word, rw c.new-numbers.ensures.items (before_all (IsPart 4294967295) after_part (parts_spelled 4294967295) (pos 0) c.args.word.now))

pub returns-in_err-push_number : goal.returns-in_err-push_number
returns-in_err-push_number c =
    let p = err_from_is_err_and c.from_residual.result c.from_residual.ensures.1 in
    let has : HasComma c.loop-piece.rest.now = search rules in
    let piece : c.in-Some.piece.now ≡ before_comma c.loop-piece.rest.now = search rules in
    rw (p.1, p.2) (λ usage. refused_next (IsPart 4294967295) after_part (parts_spelled 4294967295) (pos 0) c.args.word.now _ _ _ c.loop-piece.invariant.1 has
    (rw piece at (c.in_err-push_number.ensures usage)))

pub loop-piece-preserved : goal.loop-piece-preserved
loop-piece-preserved c =
    let has : HasComma c.loop-piece.rest.now = search rules in
    let piece : c.in-Some.piece.now ≡ before_comma c.loop-piece.rest.now = search rules in
    let behind : c.in-Some.behind.now ≡ after_comma c.loop-piece.rest.now = search rules in
    let added = c.in_ok-push_number.ensures in (
      search rules,
      rw (behind, added.2)
          (before_next (IsPart 4294967295) after_part (parts_spelled 4294967295) (pos 0) c.args.word.now _ _ _ c.loop-piece.invariant.1 added.0 has (rw piece at added.1)),
    )

pub returns-in_err-push_number-2 : goal.returns-in_err-push_number-2
returns-in_err-push_number-2 c =
    let p = err_from_is_err_and c.from_residual-in_err-push_number-2.result c.from_residual-in_err-push_number-2.ensures.1 in
    let end : length c.loop-piece.rest.now ≤ position_or_len (λ b. b == 44) c.loop-piece.rest.now = search rules in
    rw (p.1, p.2) (λ usage. refused_last (IsPart 4294967295) after_part (parts_spelled 4294967295) (pos 0) c.args.word.now _ _ _ c.loop-piece.invariant.1 end
    (c.in_err-push_number-2.ensures usage))

pub returns : goal.returns
returns c =
    let added = c.in_ok-push_number-2.ensures in
    rw added.2 (c.loop-piece.invariant.1.go_on (added.0 ∷ []) added.1)
