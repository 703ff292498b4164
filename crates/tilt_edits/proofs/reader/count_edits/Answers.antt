use Rattle.std.proofs.Common.{◌++◌, ◌+◌, [], ◌∷◌, sym, arith, length-append}
use Rattle.tilt_edits.proofs.Lines.{read_more, rest_shorter}
use Rattle.tilt_edits.proofs.reader.count_edits.Goals as goal

pub loop-left-smaller : goal.loop-left-smaller
loop-left-smaller c =
    rest_shorter c.args.inputs.now c.loop-left.left.now c.in-Some.field-0-0 c.in-Some.rest.now (sym c.in-Some.ensures)

pub loop-left-preserved : goal.loop-left-preserved
loop-left-preserved c =
    let so = c.loop-left.invariant.read in
    let edit = c.in-Some.field-0-0 in
    let next = sym c.in-Some.ensures in
    let shorter = rest_shorter c.args.inputs.now c.loop-left.left.now edit c.in-Some.rest.now next in
    record {
      read = (
        so.0 ++ edit ∷ [],
        read_more c.args.inputs.now c.args.bytes.now c.loop-left.left.now so.0 (c.loop-left.count + 1) edit c.in-Some.rest.now so.1 next,
        omega (arith, so.2, length-append so.0 (edit ∷ [])),
      );
      room = omega (arith, c.loop-left.invariant.room, shorter);
    }
