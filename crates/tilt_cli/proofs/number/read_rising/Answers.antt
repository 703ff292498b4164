use Rattle.std.proofs.Common.{rules, ◌≡◌, ◌∷◌, [], ◌≤◌, ◌==◌, length, neg_ℤ, FitsSigned, arith}
use Rattle.std.proofs.lemmas.Int.{ints, to_z-of_z}
use Rattle.std.proofs.lemmas.Result.{err_from_is_err_and}
use Rattle.std.specs.Int.{w64}
use Rattle.std.specs.List.{position_or_len}
use Rattle.tilt_base.specs.declared.limits.TheConstants.{T}
use Rattle.tilt_cli.specs.Number.{before_comma, after_comma}
use Rattle.tilt_cli.proofs.Listed.{HasComma, IsTime, after_time, before_all, before_next, refused_next, refused_last, times_spelled}
use Rattle.tilt_cli.proofs.number.read_rising.Goals as goal

pub loop-piece-init : goal.loop-piece-init
loop-piece-init c = (
  c.utf8.word,
  rw (c.new-times.ensures.items, to_z-of_z w64 c.args.apart c.ranges.apart) (before_all (IsTime T) (after_time c.args.apart) (times_spelled T)
      (neg_ℤ T) c.args.word.now),
)

pub returns-in_err-least : goal.returns-in_err-least
returns-in_err-least c =
    let p = err_from_is_err_and c.from_residual.result c.from_residual.ensures.1 in
    let before = rw (to_z-of_z w64 c.args.apart c.ranges.apart) at c.loop-piece.invariant.1 in
    let has : HasComma c.loop-piece.rest.now = search rules in
    let piece : c.in-Some.piece.now ≡ before_comma c.loop-piece.rest.now = search rules in
    rw (p.1, p.2) (λ usage. refused_next (IsTime T) (after_time c.args.apart) (times_spelled T) (neg_ℤ T) c.args.word.now _ _ _ before has (rw piece at (c.in_err-least.ensures usage)))

pub loop-piece-preserved : goal.loop-piece-preserved
loop-piece-preserved c =
    let has : HasComma c.loop-piece.rest.now = search rules in
    let piece : c.in-Some.piece.now ≡ before_comma c.loop-piece.rest.now = search rules in
    let behind : c.in-Some.behind.now ≡ after_comma c.loop-piece.rest.now = search rules in
    let before = rw (to_z-of_z w64 c.args.apart c.ranges.apart) at c.loop-piece.invariant.1 in
    let added = c.in_ok-least.ensures in
    let number = rw piece at added.1 in
    let fits : FitsSigned w64 c.in_ok-least.least = omega (arith, ints, number.low, number.high, added.3, c.loop-piece.auto.least-fits, c.requires.0, c.requires.1) in (
      search rules,
      rw (to_z-of_z w64 c.in_ok-least.least fits, behind, added.2, added.3, to_z-of_z w64 c.args.apart c.ranges.apart)
          (before_next (IsTime T) (after_time c.args.apart) (times_spelled T) (neg_ℤ T) c.args.word.now _ _ _ before added.0 has number),
    )

pub returns-in_err-push_time : goal.returns-in_err-push_time
returns-in_err-push_time c =
    let p = err_from_is_err_and c.from_residual-in_err-push_time.result c.from_residual-in_err-push_time.ensures.1 in
    let before = rw (to_z-of_z w64 c.args.apart c.ranges.apart) at c.loop-piece.invariant.1 in
    let end : length c.loop-piece.rest.now ≤ position_or_len (λ b. b == 44) c.loop-piece.rest.now = search rules in
    rw (p.1, p.2) (λ usage. refused_last (IsTime T) (after_time c.args.apart) (times_spelled T) (neg_ℤ T) c.args.word.now _ _ _ before end (c.in_err-push_time.ensures usage))

pub returns : goal.returns
returns c =
    let added = c.in_ok-push_time.ensures in
    let before = rw (to_z-of_z w64 c.args.apart c.ranges.apart) at c.loop-piece.invariant.1 in
    rw added.2 (before.go_on (added.0 ∷ []) added.1)
