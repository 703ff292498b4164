use Rattle.std.proofs.Common.{inl, refl}
use Rattle.tilt_live_app.proofs.zoned.load_named.Goals as goal

pub returns-in-Err-NoTable-clause-fault : goal.returns-in-Err-NoTable-clause-fault
returns-in-Err-NoTable-clause-fault g c =
    (refl, inl (λ t. (rw c.in-Err-NoTable.field-0-is at c.in-Err-NoTable.ensures.no_table) t refl))
