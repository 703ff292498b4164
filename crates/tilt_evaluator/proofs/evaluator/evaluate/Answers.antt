use Rattle.std.proofs.Common.{arith, ◌≡◌, ◌<ℤ◌, ◌≤ℤ◌, ◌∙◌, refl, sym, ap, ℤ, pos, ◌+ℤ◌, to_z, of_z}
use Rattle.std.proofs.lemmas.Int.{ints, to_z-of_z}
use Rattle.std.specs.Int.{w64, w128}
use Rattle.tilt_stream.proofs.Order.{last_end-after_push}
use Rattle.tilt_stream.specs.Snapshots.{snapshot_on, snapshots}
use Rattle.tilt_core.specs.Meaning.{meaning}
use Rattle.tilt_evaluator.proofs.Walk.{cut-piece, cut-same, cut-end}
use Rattle.tilt_evaluator.proofs.evaluator.evaluate.Goals as goal
use Rattle.tilt_evaluator.proofs.evaluator.evaluate.Goals.{then-source_mark+in_ok-push_piece, else-source_mark}

pub loop-end-preserved : goal.loop-end-preserved
loop-end-preserved c =
    let x = meaning c.args.source.now.inputs.now c.args.source.now.defs.now c.args.source.now.number in
    let lo = to_z w64 (of_z w64 c.args.lo) in
    let hi = to_z w64 (of_z w64 c.args.hi) in
    let start = to_z w64 c.loop-end.start-bits in
    let end = to_z w64 c.loop-end.end-bits in
    let next = to_z w64 (of_z w64 (end +ℤ pos 1)) in
    let within : end <ℤ hi = grind (arith, ints) in
    let is : next ≡ end +ℤ pos 1 = omega (arith, ints) in
    let at : to_z w128 (of_z w128 (to_z w128 (of_z w128 c.from.result) +ℤ pos 1)) ≡ next = omega (arith, ints) in
    let mark = c.source_mark.ensures ∙ ap (λ (t : ℤ). x.mark t) at in
    let kept = c.loop-end.invariant in
    let from = kept.from in
    let ahead = kept.ahead in
    let all = snapshots x lo hi in
    elim c.if-source_mark.branch [
      | then-source_mark+in_ok-push_piece w ↦ (
          let begins = w.start-is in
          let pushed = w.list-is ∙ w.in_ok-push_piece.ensures in
          record {
            from = omega (arith, ints);
            ahead = omega (arith, ints);
            within = omega (arith, ints);
            touches = λ last e. last_end-after_push c.loop-end.list c.if-source_mark.list (snapshot_on x start end) last pushed e ∙ sym begins;
            so_far = rw begins (cut-piece x c.loop-end.list all start end hi next is kept.so_far c.if-source_mark.list within pushed (sym mark ∙ w.if-source_mark.true));
          })
      | else-source_mark w ↦ (
          let stays = w.start-is in
          record {
            from = omega (arith, ints);
            ahead = omega (arith, ints);
            within = omega (arith, ints);
            touches = rw (w.list-is, stays) kept.touches;
            so_far = rw (w.list-is, stays) (cut-same x c.loop-end.list all start end hi next is kept.so_far within (sym mark ∙ w.if-source_mark.false));
          })
    ]

pub returns : goal.returns
returns c =
    let x = meaning c.args.source.now.inputs.now c.args.source.now.defs.now c.args.source.now.number in
    let lo = to_z w64 (of_z w64 c.args.lo) in
    let hi = to_z w64 (of_z w64 c.args.hi) in
    let end = to_z w64 c.loop-end.end-bits in
    let start = to_z w64 c.loop-end.start-bits in
    let none : hi ≤ℤ end = grind (arith, ints) in
    let within = c.loop-end.invariant.within in
    let same : hi ≡ end = omega (arith, ints) in
    cut-end x c.loop-end.list (snapshots x lo hi) start end hi (end +ℤ pos 1) refl c.loop-end.invariant.so_far c.push_piece-2.new.list hi none same c.in_ok-push_piece-2.ensures
    ∙ ap (λ (t : ℤ). snapshots x t hi) (to_z-of_z w64 c.args.lo c.ranges.lo) ∙ ap (λ (t : ℤ). snapshots x c.args.lo t) (to_z-of_z w64 c.args.hi c.ranges.hi)
