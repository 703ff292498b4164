-- What is left fits exactly if all does.
use Rattle.std.proofs.Common.{◌≡◌, drop}
use Rattle.tilt_watermarks.specs.Held.{fits}
use Rattle.tilt_watermarks.proofs.kept.fits.Given as goal

abbrev pub invariant-loop-update : goal.invariant-loop-update
invariant-loop-update l = fits l.reached (drop l.update-index l.updates) ≡ fits l.fn.watermark l.updates
