use Rattle.std.proofs.Common.{rules, of_calls, int_le}
use Rattle.std.proofs.lemmas.Fn.{always_returns_same}
use Rattle.tilt_zones.proofs.PlaceLemmas.{locals_rise, parted, place_of}
use Rattle.tilt_zones.specs.Order.{shown_from}
use Rattle.tilt_zones.proofs.place.count_from.Goals as goal

pub returns : goal.returns
returns c =
    let ts = c.args.transitions.now in
    let z = c.args.local in
    place_of shown_from ts z c.partition_point.result c.partition_point.ensures.bound
    (c.partition_point.ensures.partitioned (λ t. int_le (shown_from t) z) (always_returns_same _ _ _ (λ a r f k. search (rules, of_calls))) (
    parted shown_from ts z (locals_rise ts c.requires)))
