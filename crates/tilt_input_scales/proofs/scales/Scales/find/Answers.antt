use Rattle.tilt_input_scales.proofs.Named.{named_is}
use Rattle.tilt_input_scales.proofs.scales.Scales.find.Goals as goal

pub returns-clause-bounds : goal.returns-clause-bounds
returns-clause-bounds c =
    let found = rw c.deref.ensures.value at c.find_among.ensures in
    rw found (named_is (record { named = c.self.inside.named.items; others = c.self.inside.others }) c.args.name.now c.self.invariant)
