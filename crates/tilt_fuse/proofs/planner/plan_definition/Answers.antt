use Rattle.std.proofs.Common.{◌∙◌, sym, arith}
use Rattle.tilt_bounds.proofs.Steps.{length-needs}
use Rattle.tilt_fuse.proofs.Means.{definition-there}
use Rattle.tilt_fuse.proofs.Places.{used-at}
use Rattle.tilt_fuse.proofs.Planned.{planned-skip}
use Rattle.tilt_fuse.proofs.planner.plan_definition.Goals as goal

pub bounds-query-query : goal.bounds-query-query
bounds-query-query c =
    let many = c.requires.known.are_used.many ∙ length-needs c.args.query.now.inputs c.args.query.now.defs.now in
    let low = c.requires.place in
    omega (arith, many)

pub returns-then-not-query-place : goal.returns-then-not-query-place
returns-then-not-query-place c =
    let defs = c.args.query.now.defs.now in
    let used = used-at c.args.query.now.inputs defs c.args.place c.requires.place c.args.query.now.used.now c.requires.known in
    let here = definition-there defs c.args.place c.requires.place in
    planned-skip c.args.query.now.inputs defs c.args.query.now.used.now c.requires.known c.args.place c.requires.place here.0 here.1
    c.args.progress.now.merged.items c.requires.so_far.many c.requires.so_far.trees c.args.query.now.fuse c.args.progress.now.loops.items c.requires.so_far.so_far
    c.skip.new.self.merged.items c.skip.new.self.loops.items (sym used ∙ c.if-not-query-place.true) c.in_ok-skip.ensures.sources c.in_ok-skip.ensures.loops

pub plan_used-requires-clause-is_used : goal.plan_used-requires-clause-is_used
plan_used-requires-clause-is_used c =
    sym (used-at c.args.query.now.inputs c.args.query.now.defs.now c.args.place c.requires.place c.args.query.now.used.now c.requires.known) ∙ c.if-not-query-place.false
