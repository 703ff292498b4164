use Rattle.std.proofs.Common.{neg_ℤ, subst, sym, arith}
use Rattle.std.proofs.lemmas.Int.{ints}
use Rattle.tilt_base.specs.declared.limits.TheConstants.{WIDE}
use Rattle.tilt_stream.proofs.Places.{InOrder-wider}
use Rattle.tilt_stream.specs.Snap.{InOrder}
use Rattle.tilt_engine.proofs.inlet.Inlet.count_unread.Goals as goal

pub count_unread-requires : goal.count_unread-requires
count_unread-requires c =
    subst (InOrder (neg_ℤ WIDE) WIDE) (sym c.as_slice.ensures.rows)
    (InOrder-wider _ _ (neg_ℤ WIDE) WIDE c.self.inside.rows c.as_slice.ensures.in_order (omega (arith, ints)) (omega (arith, ints)))
