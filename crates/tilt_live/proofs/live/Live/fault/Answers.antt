use Rattle.std.proofs.Common.{◌∙◌, []}
use Rattle.tilt_live.proofs.live.Live.fault.Goals as goal

pub returns : goal.returns
returns c = λ accepted feed given is. c.fault.ensures is.code is.left is.returned is.running.runs ∙ is.goes_on.allowed [] c.args.event
