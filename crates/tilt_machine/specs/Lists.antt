-- The lists of buffers.
use Rattle.std.specs.Prelude.{List, ◌++◌}
use Rattle.tilt_stream.specs.Snap.{Snapshot}
use Rattle.tilt_machine.specs.declared.made_so_far.MadeSoFar.{MadeSoFar}

-- the rows of the inputs, and after them the snapshots of the loops
abbrev pub lists_of : MadeSoFar → List (List Snapshot)
lists_of buffers = buffers.inputs.now ++ buffers.made.now
