use Rattle.std.proofs.Common.{◌∙◌, None, arith, inl, FitsSigned}
use Rattle.std.specs.Int.{w64}
use Rattle.std.proofs.lemmas.Int.{ints, to_z-of_z}
use Rattle.tilt_session.proofs.Parts.{all-end}
use Rattle.tilt_session.proofs.Steps.{core-found, new-handed, both-printed, both-snapshots}
use Rattle.tilt_session.proofs.joined.Joined.finish.Goals as goal

pub resume-requires-clause-core : goal.resume-requires-clause-core
resume-requires-clause-core c =
    let run = c.requires.run in
    let found = c.in_ok-checkpoint.ensures _ run.2.valid (inl (c.deref.ensures.value ∙ run.2.handed_on)) in
    core-found run.0 c.args.accepted.now.core c.args.rows.now c.in_ok-part.part.items c.args.self.cut c.args.self.printed
    c.args.self.bytes.items c.in_ok-checkpoint.checkpoint run.1 run.2 c.in_ok-part.ensures.in_order found

pub resume-requires-clause-rows : goal.resume-requires-clause-rows
resume-requires-clause-rows c =
    let run = c.requires.run in
    let found = c.in_ok-checkpoint.ensures _ run.2.valid (inl (c.deref.ensures.value ∙ run.2.handed_on)) in
    let low = run.2.valid.cut.0 in
    let high = run.2.valid.cut.1 in
    let fits : FitsSigned w64 c.args.self.cut = record { sfits = omega (arith, ints, low, high) } in
    let parts = rw (to_z-of_z w64 c.args.self.cut fits) at c.in_ok-part.ensures.parts in
    new-handed run.0 c.args.accepted.now.core c.args.rows.now c.in_ok-part.part.items c.args.self.cut c.args.self.printed
    c.args.self.bytes.items c.in_ok-checkpoint.checkpoint run.1 run.2 c.in_ok-part.ensures.in_order found None tt parts

pub resume-requires-clause-onward : goal.resume-requires-clause-onward
resume-requires-clause-onward c = tt

pub with_list-requires : goal.with_list-requires
with_list-requires c =
    let run = c.requires.run in
    let found = c.in_ok-checkpoint.ensures _ run.2.valid (inl (c.deref.ensures.value ∙ run.2.handed_on)) in
    let low = run.2.valid.cut.0 in
    let high = run.2.valid.cut.1 in
    let fits : FitsSigned w64 c.args.self.cut = record { sfits = omega (arith, ints, low, high) } in
    let parts = rw (to_z-of_z w64 c.args.self.cut fits) at c.in_ok-part.ensures.parts in
    both-snapshots run.0 c.args.accepted.now.core c.args.rows.now c.in_ok-part.part.items c.args.self.cut
    c.args.self.printed c.args.self.bytes.items c.in_ok-checkpoint.checkpoint run.1 run.2 c.in_ok-part.ensures.in_order found None tt parts
    c.in_ok-list.ensures.law c.in_ok-list.list c.in_ok-list.ensures.newly (rw (c.new.ensures.frame, c.core.ensures.value) at c.new.ensures.bounds)

pub returns : goal.returns
returns c =
    let run = c.requires.run in
    let found = c.in_ok-checkpoint.ensures _ run.2.valid (inl (c.deref.ensures.value ∙ run.2.handed_on)) in
    let low = run.2.valid.cut.0 in
    let high = run.2.valid.cut.1 in
    let fits : FitsSigned w64 c.args.self.cut = record { sfits = omega (arith, ints, low, high) } in
    let parts = rw (to_z-of_z w64 c.args.self.cut fits) at c.in_ok-part.ensures.parts in
    let whole = both-printed run.0 c.args.accepted.now.core c.args.rows.now c.in_ok-part.part.items c.args.self.cut
    c.args.self.printed c.args.self.bytes.items c.in_ok-checkpoint.checkpoint run.1 run.2 c.in_ok-part.ensures.in_order found None tt parts
    c.in_ok-list.ensures.law c.in_ok-list.list c.in_ok-list.ensures.newly in
    rw (← all-end c.args.rows.now, ← whole) c.with_list.ensures
