use Rattle.std.proofs.Common.{◌∙◌, sym}
use Rattle.tilt_outside.proofs.HeldFiles.{room_of-at, room_of-none}
use Rattle.tilt_outside.proofs.held_files.find_room.Goals as goal

pub returns-in-Some : goal.returns-in-Some
returns-in-Some c =
    c.room.ensures ∙ sym (room_of-at c.args.files.now c.args.name.now c.in-Some.place c.index-files-place.result (sym c.in-Some.ensures) c.index-files-place.is)

pub returns-in-None : goal.returns-in-None
returns-in-None c = sym (room_of-none c.args.files.now c.args.name.now (sym c.in-None.ensures))
