use Rattle.tilt_session.proofs.Parted.{after-counted}
use Rattle.tilt_session.proofs.handed.take_up_all.Goals as goal
use Rattle.std.proofs.Common.{refl}

pub loop-i-init : goal.loop-i-init
loop-i-init c =
    record {
      taken = refl;
      after = c.requires;
      counted = after-counted c.args.series.now.items c.args.new.now c.requires;
      in_order = λ h. h;
    }
