use Rattle.std.proofs.Common.{◌≡◌, ◌+◌, length, arith, refl, rules, to_z, of_z, w64}
use Rattle.std.proofs.lemmas.Int.{ints}
use Rattle.tilt_series.specs.Series.{bounds_after}
use Rattle.tilt_series.proofs.Stretch.{at_low, no_fault}
use Rattle.tilt_series.proofs.row.read_row.Goals as goal

pub returns-then-end-free-clause-read : goal.returns-then-end-free-clause-read
returns-then-end-free-clause-read c =
    let start : to_z w64 (of_z w64 c.in_ok-start.start) ≡ c.in_ok-start.start = search rules in
    let end : to_z w64 (of_z w64 c.in_ok-start.end) ≡ c.in_ok-start.end = search rules in
    let at = no_fault (bounds_after c.args.bounds.now c.args.rows.now) (length c.args.rows.now + 1) c.args.free.low c.args.free.high c.in_ok-start.start c.in_ok-start.end in
    let clear = at c.requires (grind (arith, ints)) (grind (arith, ints)) (grind (arith, ints)) in
    let spelled = rw c.as_slice.ensures.rows at c.in_ok-start.ensures in
    rw (start, end, ← spelled, clear) refl

pub returns-then-end-free-clause-after : goal.returns-then-end-free-clause-after
returns-then-end-free-clause-after c =
    at_low _ c.args.free.low _ c.requires.last_end (grind (arith, ints))

pub returns-then-end-free-clause-cut : goal.returns-then-end-free-clause-cut
returns-then-end-free-clause-cut c =
    at_low c.args.bounds.now.from c.args.free.low _ c.requires.from (grind (arith, ints))
