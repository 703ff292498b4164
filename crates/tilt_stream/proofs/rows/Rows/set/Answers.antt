use Rattle.std.proofs.Common.{neg_ℤ, refl}
use Rattle.tilt_base.specs.declared.limits.TheConstants.{T}
use Rattle.tilt_stream.proofs.Order.{InOrder-valued, set-valued}
use Rattle.tilt_stream.proofs.rows.Rows.set.Goals as goal

pub invariant_of-self : goal.invariant_of-self
invariant_of-self c =
    let rows = c.self.inside.rows.items in
    let row = c.index-row.result.now in
    let valued = set-valued rows c.args.i row c.args.value (rw c.self.view_is c.requires) c.index-row.ensures in
    rw (c.valued.ensures, valued) (InOrder-valued (neg_ℤ T) T rows c.args.i c.args.value c.self.invariant)

pub returns : goal.returns
returns c =
    let rows = c.self.inside.rows.items in
    let row = c.index-row.result.now in
    let valued = set-valued rows c.args.i row c.args.value (rw c.self.view_is c.requires) c.index-row.ensures in
    rw (c.valued.ensures, valued, c.self.view_is) refl
