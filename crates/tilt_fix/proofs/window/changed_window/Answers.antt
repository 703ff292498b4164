use Rattle.std.specs.Option.{option_to_list}
use Rattle.tilt_fix.proofs.Windows.{parts-joined}
use Rattle.tilt_edits.specs.Edited.{put_of}
use Rattle.tilt_fix.specs.Change.{made, next_of, place_of}
use Rattle.tilt_fix.proofs.window.changed_window.Goals as goal

pub window_around-requires : goal.window_around-requires
window_around-requires c =
    rw (parts-joined c.args.rows.now c.as_slice-all.result.now c.before-2.result.now (option_to_list c.put.result) (put_of c.args.edit.now) c.after.result.now
    (made c.args.change.now c.args.rows.now) (place_of c.args.change.now) (next_of c.args.change.now) c.requires.parts c.as_slice-all.ensures.rows
    c.before-2.ensures c.put.ensures c.after.ensures) c.requires.in_order

pub returns : goal.returns
returns c =
    rw (← parts-joined c.args.rows.now c.as_slice-all.result.now c.before-2.result.now (option_to_list c.put.result) (put_of c.args.edit.now) c.after.result.now
    (made c.args.change.now c.args.rows.now) (place_of c.args.change.now) (next_of c.args.change.now) c.requires.parts c.as_slice-all.ensures.rows
    c.before-2.ensures c.put.ensures c.after.ensures) c.window_around.ensures
