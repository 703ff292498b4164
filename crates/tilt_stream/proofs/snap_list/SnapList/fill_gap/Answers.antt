use Rattle.std.proofs.Common.{◌≡◌, arith, ◌≤ℤ◌}
use Rattle.std.proofs.lemmas.Int.{ints}
use Rattle.std.proofs.lemmas.Result.{on_ok_weaker}
use Rattle.tilt_stream.proofs.Order.{last_end-after_push}
use Rattle.tilt_stream.proofs.snap_list.SnapList.fill_gap.Goals as goal

pub returns-in-Some-clause-touches : goal.returns-in-Some-clause-touches
returns-in-Some-clause-touches c =
    on_ok_weaker c.push.result (λ pushed. λ x is. let e = last_end-after_push c.args.self.now _ _ x pushed is in omega (arith, ints)) c.push.ensures.ok

pub returns-in_default-clause-touches : goal.returns-in_default-clause-touches
returns-in_default-clause-touches c =
    λ x is.
    let same : x ≡ c.in-Some.end = cc in
    let low : x ≤ℤ c.args.start = c.requires.behind x is in
    omega (arith, ints)
