use Rattle.std.proofs.Common.{rules, ◌≡◌, ◌≢◌, ◌+◌, ◌==◌, ◌∙◌, suc, true, not, length, sym, ap, arith}
use Rattle.tilt_pipe.proofs.Starts.{last-used, used-is}
use Rattle.tilt_pipe.proofs.starting.is_used.Goals as goal

pub returns-then-loops-place : goal.returns-then-loops-place
returns-then-loops-place c = λ w is.
    let loops = ap length c.loops.ensures.loops in
    let test : (length c.loops.result.now == c.args.place + 1) ≡ true = grind arith in
    last-used c.args.rings.now c.args.place w is (omega arith) ∙ sym test

pub returns-else-loops-place : goal.returns-else-loops-place
returns-else-loops-place c = λ w is.
    let from = c.requires.begun in
    let loops = ap length c.loops.ensures.loops in
    let more : suc c.args.place ≢ length c.args.rings.now.code.loops = (λ same. c.if-loops-place.false (omega arith)) in
    used-is c.args.rings.now from.0 c.args.place w c.args.turns.now c.args.turns.now.readers.len from.1 more is (from.2 w is) (search rules)
    ∙ ap not (sym c.is_empty.ensures)
