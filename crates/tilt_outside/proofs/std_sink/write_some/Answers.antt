use Rattle.std.proofs.Common.{[]}
use Rattle.std.proofs.KnownBytes.{Appends-trans}
use Rattle.tilt_outside.proofs.std_sink.write_some.Goals as goal

pub returns-in-Ok-clause-bytes : goal.returns-in-Ok-clause-bytes
returns-in-Ok-clause-bytes g c = Appends-trans _ _ _ [] _ c.loop.invariant c.in-Ok.ensures.bytes
