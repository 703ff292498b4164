use Rattle.std.proofs.Common.{◌∙◌, ◌≤◌, ap, length, rules}
use Rattle.std.proofs.lemmas.List.{take_all}
use Rattle.tilt_watermarks.proofs.Resuming.{fit-all}
use Rattle.tilt_watermarks.specs.Steps.{held_count}
use Rattle.tilt_watermarks.proofs.lanes.Lanes.kept.Goals as goal

pub returns-clause-fit : goal.returns-clause-fit
returns-clause-fit c = λ lateness none.
    let past : length c.args.self.now.lanes.items ≤ c.loop-lane.lane-index = (let end = c.loop-lane-test.false in search rules) in
    let all = c.loop-lane.invariant.inputs ∙ take_all c.loop-lane.lane-index c.args.self.now.lanes.items past in
    fit-all lateness c.loop-lane.inputs.items (λ is. ap held_count all ∙ none is) c.loop-lane.invariant.fit
