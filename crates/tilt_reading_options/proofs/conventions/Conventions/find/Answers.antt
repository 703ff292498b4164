use Rattle.tilt_reading_options.proofs.Held.{named_holds}
use Rattle.tilt_reading_options.proofs.conventions.Conventions.find.Goals as goal

pub returns-clause-age : goal.returns-clause-age
returns-clause-age c =
    let found = rw c.deref.ensures.value at c.find_among.ensures in
    rw found (named_holds (record { named = c.self.inside.named.items; others = c.self.inside.others }) c.args.name.now c.self.invariant)
