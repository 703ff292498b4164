use Rattle.std.proofs.Common.{◌∙◌}
use Rattle.tilt_live_app.proofs.Watching.{starts-first}
use Rattle.tilt_live_app.specs.Resumed.{first_start}
use Rattle.tilt_live_app.proofs.serve.start_watch.Goals as goal

pub returns-in-Ok-clause-is : goal.returns-in-Ok-clause-is
returns-in-Ok-clause-is c =
    let watch = c.args.watch in
    c.in-Ok.ensures.is (first_start watch.accepted.core watch.options) (starts-first watch.options watch.accepted.core watch.from c.requires)

pub returns-in-Ok-clause-head : goal.returns-in-Ok-clause-head
returns-in-Ok-clause-head c =
    let watch = c.args.watch in
    let adds = c.in-Ok.ensures.adds (first_start watch.accepted.core watch.options) (starts-first watch.options watch.accepted.core watch.from c.requires) in
    c.into_bytes.ensures ∙ rw c.new-port.ensures at (adds.whole tt)
