use Rattle.std.proofs.Common.{◌+◌, sym}
use Rattle.tilt_edits.proofs.Lines.{none_read, read_more, rest_shorter}
use Rattle.tilt_edits.proofs.Outcomes.{read_all}
use Rattle.tilt_edits.proofs.reader.collect_edits.Goals as goal

pub loop-edit-init : goal.loop-edit-init
loop-edit-init c = rw c.in_ok-edits.ensures.items (1, none_read c.args.inputs.now c.args.bytes.now)

pub loop-edit-smaller : goal.loop-edit-smaller
loop-edit-smaller c =
    rest_shorter c.args.inputs.now c.loop-edit.left.now c.in-Some.edit c.in-Some.rest.now (sym c.in-Some.ensures)

pub loop-edit-preserved : goal.loop-edit-preserved
loop-edit-preserved c =
    let so = c.loop-edit.invariant in
    rw c.in_ok-put_edit.ensures (
      so.0 + 1,
      read_more c.args.inputs.now c.args.bytes.now c.loop-edit.left.now c.loop-edit.edits.items so.0 c.in-Some.edit c.in-Some.rest.now so.1
          (sym c.in-Some.ensures),
    )

pub returns : goal.returns
returns c =
    let so = c.loop-edit.invariant in
    read_all c.args.inputs.now c.args.bytes.now c.loop-edit.left.now c.loop-edit.edits.items c.requires.some.0 so.0 so.1
    (sym c.in_default.ensures) c.requires.some.1
