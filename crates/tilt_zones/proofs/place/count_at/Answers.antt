use Rattle.std.proofs.Common.{rules, of_calls, int_le}
use Rattle.std.proofs.lemmas.Fn.{always_returns_same}
use Rattle.tilt_zones.proofs.PlaceLemmas.{moments_rise, parted, place_of}
use Rattle.tilt_zones.proofs.place.count_at.Goals as goal

pub returns : goal.returns
returns c =
    let ts = c.args.transitions.now in
    let z = c.args.moment in
    place_of (λ t. t.moment) ts z c.partition_point.result c.partition_point.ensures.bound
    (c.partition_point.ensures.partitioned (λ t. int_le t.moment z) (always_returns_same _ _ _ (λ a r f k. search (rules, of_calls))) (
    parted (λ t. t.moment) ts z (moments_rise ts c.requires)))
