use Rattle.tilt_unit_text.proofs.Literals.{ten_small, ten_some}
use Rattle.tilt_unit_text.proofs.decimal.+smallest.Goals as goal

pub unreachable-requires : goal.unreachable-requires
unreachable-requires t c =
    c.in-None.ensures (record {
      positive = rw c.pow.ensures (ten_some c.args.decimals);
      small = rw c.pow.ensures (ten_small c.args.decimals c.requires);
    })
