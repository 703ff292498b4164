use Rattle.std.proofs.Common.{◌≡◌, ◌≤◌, length, ℤ, true, false, rules, subst, sym}
use Rattle.std.specs.List.Sorted.{IsPartitionPoint}
use Rattle.std.proofs.lemmas.List.Sorted.{IsPartitionPoint-from_clause}
use Rattle.tilt_feed.specs.declared.update.Update.{Update}
use Rattle.tilt_watermarks.proofs.Fitting.{StartsBy, place-found, starts-parted}
use Rattle.tilt_watermarks.proofs.lane.Lane.place_of.Goals as goal

pub returns-clause-place : goal.returns-clause-place
returns-clause-place c update is =
    let held = c.self.inside.held.items in
    let start = c.args.start in
    let bound : c.partition_point.result ≤ length held = search rules in
    let parted = starts-parted c.self.inside.edge.watermark held start c.self.invariant in
    let point = IsPartitionPoint-from_clause (StartsBy start) _ _ c.partition_point.ensures.partitioned parted (λ a r q k. search rules) in
    let there = subst (λ (t : ℤ). IsPartitionPoint (λ (u : Update). StartsBy t u ≡ true) (λ (u : Update). StartsBy t u ≡ false) held c.partition_point.result) (sym is) point in
    rw (← c.self.view_is) (place-found held update c.partition_point.result bound there)
