use Rattle.std.proofs.Common.{Some, neg_ℤ, sym, ap, ◌∙◌}
use Rattle.std.proofs.lemmas.Option.{slice_get-get_or}
use Rattle.tilt_base.specs.declared.limits.TheConstants.{T}
use Rattle.tilt_stream.proofs.Order.{InOrder-removed}
use Rattle.tilt_stream.specs.Snap.{Snapshot}
use Rattle.tilt_stream.proofs.rows.Rows.remove.Goals as goal

pub invariant_of-self : goal.invariant_of-self
invariant_of-self c = rw c.remove.ensures.by_index.2 (InOrder-removed (neg_ℤ T) T c.self.inside.rows.items c.args.i c.self.invariant)

pub returns-clause-taken : goal.returns-clause-taken
returns-clause-taken c =
    rw (← c.self.view_is)
    (slice_get-get_or c.self.inside.rows.items c.args.i c.remove.result (rw c.self.view_is c.requires)
    ∙ ap (λ (row : Snapshot). Some row) (sym c.remove.ensures.value))
