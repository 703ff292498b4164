use Rattle.std.proofs.Common.{◌≡◌, length}
use Rattle.std.specs.Io.KnownBytes.{Keeps}
use Rattle.tilt_port.proofs.std_port.read_some.Given as goal

-- calls that were interrupted read nothing
abbrev pub invariant-loop : goal.invariant-loop
invariant-loop g l =
    (length l.room ≡ length l.initial.room) × Keeps (g.R.Read.remaining l.initial.reader) (g.R.Read.remaining l.reader)
