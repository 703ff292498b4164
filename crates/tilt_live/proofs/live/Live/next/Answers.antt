use Rattle.std.proofs.Common.{FitsSigned, Some, None, ap, inr, rules, to_z, of_z, to_z-of_z, w64, ◌∙◌}
use Rattle.tilt_engine.specs.Engines.{given_after}
use Rattle.tilt_live.proofs.Lives.{live-next, of-some-run, run-moved}
use Rattle.tilt_live.specs.declared.live.Live.{Live}
use Rattle.tilt_stream.specs.Snap.{Snapshot}
use Rattle.tilt_live.proofs.live.Live.next.Goals as goal

pub returns-in-Ok-Some-clause-next : goal.returns-in-Ok-Some-clause-next
returns-in-Ok-Some-clause-next c = λ accepted feed given is.
    let found = c.find_next.new.self in
    let end = to_z w64 (of_z w64 c.snap.inside.end) in
    let later : Live = record { accepted = found.accepted; engine = found.engine; refused = found.refused; known = found.known; upto = end; alloc = found.alloc } in
    let fits : FitsSigned w64 c.snap.inside.end = search rules in
    let end_is = to_z-of_z fits ∙ ap (λ (s : Snapshot). s.end) c.snap.view_is in
    let next = rw c.in-Ok-Some.field-0-is at (c.in-Ok-Some.ensures.next accepted is.code is.left is.returned is.running) in
    live-next c.args.self.now later accepted feed given is (Some c.in-Ok-Some.snap) end_is
    (next.0, run-moved found accepted is.code is.left (given_after is.returned (Some c.in-Ok-Some.snap)) end next.1)

pub returns-in-Ok-Some-clause-live : goal.returns-in-Ok-Some-clause-live
returns-in-Ok-Some-clause-live c =
    let some = of-some-run c.args.self.now c.requires c.if-self.false in
    let found = c.find_next.new.self in
    let end = to_z w64 (of_z w64 c.snap.inside.end) in
    let next = c.in-Ok-Some.ensures.next some.0 some.1 some.2 some.3 some.4 in
    inr (some.0, some.1, some.2, given_after some.3 c.in-Ok-Some.field-0, run-moved found some.0 some.1 some.2 (given_after some.3 c.in-Ok-Some.field-0) end next.1)

pub returns-in-Ok-None-clause-next : goal.returns-in-Ok-None-clause-next
returns-in-Ok-None-clause-next c = λ accepted feed given is.
    let next = rw c.in-Ok-None.field-0-is at (c.in-Ok-None.ensures.next accepted is.code is.left is.returned is.running) in
    live-next c.args.self.now c.find_next.new.self accepted feed given is None c.find_next.ensures.tick next

pub returns-in-Ok-None-clause-live : goal.returns-in-Ok-None-clause-live
returns-in-Ok-None-clause-live c =
    let some = of-some-run c.args.self.now c.requires c.if-self.false in
    inr (some.0, some.1, some.2, given_after some.3 c.in-Ok-None.field-0, (c.in-Ok-None.ensures.next some.0 some.1 some.2 some.3 some.4).1)
