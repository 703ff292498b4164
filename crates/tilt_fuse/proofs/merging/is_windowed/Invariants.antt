use Rattle.std.proofs.Common.{◌≡◌, ◌+◌, suc, drop}
use Rattle.tilt_fuse.specs.Plan.{is_windowed}
use Rattle.tilt_core.specs.Needs.{needs_from}
use Rattle.tilt_fuse.proofs.merging.is_windowed.Given as goal

-- those gone through have no window on the source
abbrev pub invariant-loop-later : goal.invariant-loop-later
invariant-loop-later l =
    is_windowed (drop l.later l.query.defs.now) (drop l.later (needs_from l.query.inputs l.query.defs.now)) (l.query.inputs + l.place)
    ≡ is_windowed (drop (suc l.place) l.query.defs.now) (drop (suc l.place) (needs_from l.query.inputs l.query.defs.now)) (l.query.inputs + l.place)
