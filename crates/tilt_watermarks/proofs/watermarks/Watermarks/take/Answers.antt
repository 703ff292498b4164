use Rattle.std.proofs.Common.{◌≤◌, ◌+◌, List, is_ok, length, vec_len, ap, ◌∙◌, arith, rules}
use Rattle.std.specs.Vec.{vec_capacity}
use Rattle.tilt_watermarks.proofs.Near.{length-then}
use Rattle.tilt_watermarks.specs.Held.{Waiting}
use Rattle.tilt_watermarks.specs.Steps.{held_count}
use Rattle.tilt_watermarks.proofs.watermarks.Watermarks.take.Goals as goal

pub raise_all-requires : goal.raise_all-requires
raise_all-requires c =
    let self = c.args.self.now in
    let old = self.lanes.lanes.items in
    let now = c.follow.new.lanes.lanes.items in
    let many = ap (λ (list : List Waiting). length list) c.follow.ensures.lanes ∙ length-then (is_ok c.follow.result) self.options.lateness c.args.line old in
    let room : vec_len c.reserve.new.self + held_count old + length old + length old + 2 ≤ vec_capacity c.reserve.new.self = search rules in
    record { room = omega (arith, many, room, c.follow.ensures.len, c.follow.ensures.capacity) }
