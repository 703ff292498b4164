use Rattle.std.proofs.Common.{pos, ◌+ℤ◌, SFits, true, false, arith, w64}
use Rattle.std.proofs.lemmas.Int.{ints, to_z-of_z}
use Rattle.tilt_base.proofs.Wide.{wide_fits}
use Rattle.tilt_fix.proofs.Stretch.{looked}
use Rattle.tilt_edits.specs.Edited.{end_of, start_of}
use Rattle.tilt_fix.proofs.reach.looking_at.Goals as goal

-- the sums fit
end_fits : (c : goal.After-end) → SFits w64 (end_of c.args.edit.now) × SFits w64 (end_of c.args.edit.now +ℤ c.args.back) × SFits w64 (end_of c.args.edit.now +ℤ c.args.back +ℤ pos 1)
end_fits c =
    let a = c.requires.near.0 in
    let b = c.requires.near.1 in
    let low = c.requires.low in
    let some = c.requires.some in
    let high = c.requires.high in
    (wide_fits _ (omega (arith, ints)) (omega (arith, ints)), wide_fits _ (omega (arith, ints)) (omega (arith, ints)), wide_fits _ (omega (arith, ints)) (omega (arith, ints)))

pub overflow_add-end-2 : goal.overflow_add-end-2
overflow_add-end-2 c =
    let f = end_fits c in
    rw (c.end.ensures, to_z-of_z w64 (end_of c.args.edit.now) f.0, to_z-of_z w64 c.args.back c.ranges.back, to_z-of_z w64 (end_of c.args.edit.now +ℤ c.args.back) f.1) f.2

pub returns-then-start-end : goal.returns-then-start-end
returns-then-start-end c =
    looked c.args.domain (start_of c.args.edit.now) (end_of c.args.edit.now) c.args.back c.args.ahead c.start.result c.end.result c.max-start.result c.min-end.result
    c.requires.stretch c.requires.near c.requires.low c.requires.some c.requires.high c.start.ensures c.end.ensures c.max-start.ensures.value c.min-end.ensures.value
    true c.if-start-end.true

pub returns-else-start-end : goal.returns-else-start-end
returns-else-start-end c =
    looked c.args.domain (start_of c.args.edit.now) (end_of c.args.edit.now) c.args.back c.args.ahead c.start.result c.end.result c.max-start.result c.min-end.result
    c.requires.stretch c.requires.near c.requires.low c.requires.some c.requires.high c.start.ensures c.end.ensures c.max-start.ensures.value c.min-end.ensures.value
    false c.if-start-end.false
