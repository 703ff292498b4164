use Rattle.std.proofs.Common.{arith, pos, slice_index_or}
use Rattle.std.proofs.lemmas.Int.{ints, to_z-of_z}
use Rattle.std.specs.Int.{w64}
use Rattle.tilt_base.specs.declared.limits.TheConstants.{T}
use Rattle.tilt_session.proofs.Cuts.{rise-at, cut-fits, all-output}
use Rattle.tilt_session.proofs.cut_run.run_cut.Goals as goal

pub go_on-requires-clause-cut : goal.go_on-requires-clause-cut
go_on-requires-clause-cut c =
    let rise = rise-at c.loop-cut.joined.cut T c.args.later.now c.loop-cut.cut-index c.loop-cut-test.true c.loop-cut.invariant.rise in
    let low = c.loop-cut.invariant.joined.valid.cut.0 in
    let up = rise.0 in
    let high = rise.1 in
    let fits = cut-fits c.loop-cut.joined.cut (slice_index_or c.args.later.now c.loop-cut.cut-index (pos 0)) low up high in
    rw (to_z-of_z w64 (slice_index_or c.args.later.now c.loop-cut.cut-index (pos 0)) fits) (omega (arith, ints), high)

pub loop-cut-preserved : goal.loop-cut-preserved
loop-cut-preserved c =
    let rise = rise-at c.loop-cut.joined.cut T c.args.later.now c.loop-cut.cut-index c.loop-cut-test.true c.loop-cut.invariant.rise in
    let low = c.loop-cut.invariant.joined.valid.cut.0 in
    let fits = cut-fits c.loop-cut.joined.cut (slice_index_or c.args.later.now c.loop-cut.cut-index (pos 0)) low rise.0 rise.1 in
    let is = rw (to_z-of_z w64 (slice_index_or c.args.later.now c.loop-cut.cut-index (pos 0)) fits) at c.in_ok-joined-2.ensures.cut in
    let joined = rw (to_z-of_z w64 (slice_index_or c.args.later.now c.loop-cut.cut-index (pos 0)) fits) at (c.in_ok-joined-2.ensures.joined c.args.query c.requires.run c.loop-cut.invariant.joined) in
    record {
      joined = rw is joined;
      rise = rw is rise.2;
    }

pub returns : goal.returns
returns c = record { whole = all-output c.args.accepted.now.core c.args.rows.now c.domain.result c.finish.result c.domain.ensures.value c.requires.run.counted c.finish.ensures }
