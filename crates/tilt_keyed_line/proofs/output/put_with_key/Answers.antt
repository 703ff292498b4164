use Rattle.std.proofs.Common.{◌++◌, ◌∷◌, [], ℕ, List, ap, sym, ◌∙◌, append_assoc, append-nil}
use Rattle.tilt_keyed_line.proofs.Lines.{rest-shorter, with-first, with-none}
use Rattle.tilt_keyed_line.specs.Outputs.{key_line, with_key}
use Rattle.tilt_keyed_line.proofs.output.put_with_key.Goals as goal

pub loop-line-smaller : goal.loop-line-smaller
loop-line-smaller c = rest-shorter c.loop-line.rest.now c.in-Some.line.now c.in-Some.after.now c.in-Some.ensures

pub loop-line-preserved : goal.loop-line-preserved
loop-line-preserved c =
    let key = c.args.key.now in
    let before = c.loop-line.text.items in
    let first = with-first key c.loop-line.rest.now c.in-Some.line.now c.in-Some.after.now c.in-Some.ensures in
    rw (c.in_ok-put_line.ensures)
    (append_assoc before (key_line key c.in-Some.line.now ++ 10 ∷ []) (with_key key c.in-Some.after.now)
    ∙ ap (λ (t : List ℕ). before ++ t) first ∙ c.loop-line.invariant)

pub returns : goal.returns
returns c =
    let before = c.loop-line.text.items in
    sym (append-nil before) ∙ ap (λ (t : List ℕ). before ++ t) (sym (with-none c.args.key.now c.loop-line.rest.now c.in_default.ensures)) ∙ c.loop-line.invariant
