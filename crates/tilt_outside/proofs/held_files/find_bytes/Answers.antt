use Rattle.std.proofs.Common.{◌∙◌, sym, ap, Some}
use Rattle.tilt_outside.proofs.HeldFiles.{bytes_held-at, bytes_held-none}
use Rattle.tilt_outside.proofs.held_files.find_bytes.Goals as goal

pub returns-in_err-place : goal.returns-in_err-place
returns-in_err-place c = rw c.from_residual.ensures (sym (bytes_held-none c.args.files.now c.args.name.now (sym c.in_err-place.ensures)))

pub returns : goal.returns
returns c =
    let held = bytes_held-at c.args.files.now c.args.name.now c.in_ok-place.place c.index-files-place.result (sym c.in_ok-place.ensures) c.index-files-place.is in
    ap Some c.bytes.ensures ∙ sym held
