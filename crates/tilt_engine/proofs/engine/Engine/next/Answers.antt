-- What is given is the next snapshot of the run, if it ends at the limit or below it.
use Rattle.std.proofs.Common.{◌<◌, inl, inr, ◌<ℤ◌, ◌≤ℤ◌, Some, FitsSigned, to_z-of_z, w64, subst, ap, arith, rules}
use Rattle.std.proofs.lemmas.Int.{ints}
use Rattle.tilt_code.specs.References.{IsCode}
use Rattle.tilt_engine.proofs.Rooms.{room-given}
use Rattle.tilt_engine.proofs.Engined.{given-few, given-late, given-more, given-none, given-some}
use Rattle.tilt_engine.specs.Engines.{IsEngine, IsNextOf}
use Rattle.tilt_stream.specs.Snap.{Snapshot}
use Rattle.tilt_engine.proofs.engine.Engine.next.Goals as goal
use Rattle.tilt_engine.proofs.engine.Engine.next.Goals.{In-Some}

pub returns-in_default-clause-next : goal.returns-in_default-clause-next
returns-in_default-clause-next c = λ code feed given of known.
    let n = c.in_ok-snap.ensures.next code feed given of in
    let is = subst IsCode of.at.code_is c.loops.ensures.code in
    (given-none code feed is c.args.limit known given (subst (IsNextOf code feed given) c.in_default.is n.0), n.1)

pub returns-then-limit-snap-clause-next : goal.returns-then-limit-snap-clause-next
returns-then-limit-snap-clause-next c = λ code feed given of known.
    let n = c.in_ok-snap.ensures.next code feed given of in
    let is = subst IsCode of.at.code_is c.loops.ensures.code in
    let fits : FitsSigned w64 c.snap.inside.end = search rules in
    let test = rw (to_z-of_z fits) at c.if-limit-snap.true in
    let end = ap (λ (s : Snapshot). s.end) c.snap.view_is in
    let high : c.args.limit <ℤ c.in-Some.snap.end = grind (arith, ints) in
    (given-late code feed is c.args.limit known given c.in-Some.snap (subst (IsNextOf code feed given) c.in-Some.is n.0) high, n.1)

few-by : (c : In-Some) → IsEngine c.args.self.now → c.peek.new.self.given < 9223372036854775807
few-by c (inl refused) = absurd (cc (c.in_ok-snap.ensures.for_good refused))
few-by c (inr of) =
    let n = c.in_ok-snap.ensures.next of.0 of.1 of.2 of.3 in
    let is = subst IsCode of.3.at.code_is c.loops.ensures.code in
    let at : IsNextOf of.0 of.1 of.2 (Some c.in-Some.snap) = subst (IsNextOf of.0 of.1 of.2) c.in-Some.is n.0 in
    let few = given-few of.0 of.1 of.2 c.in-Some.snap is at in
    omega (arith, few, n.1.at.given_is)

pub overflow_add-self : goal.overflow_add-self
overflow_add-self c = let few = few-by (goal.at.overflow_add-self c).In-Some c.requires in omega arith

pub returns-clause-next : goal.returns-clause-next
returns-clause-next c = λ code feed given of known.
    let n = c.in_ok-snap.ensures.next code feed given of in
    let is = subst IsCode of.at.code_is c.loops.ensures.code in
    let fits : FitsSigned w64 c.snap.inside.end = search rules in
    let test = rw (to_z-of_z fits) at c.if-limit-snap.false in
    let end = ap (λ (s : Snapshot). s.end) c.snap.view_is in
    let low : c.in-Some.snap.end ≤ℤ c.args.limit = grind (arith, ints) in (
      given-some code feed is c.args.limit known given c.in-Some.snap (subst (IsNextOf code feed given) c.in-Some.is n.0) low,
      record { at = given-more c.peek.new.self code feed given n.1.at; few = n.1.few; room = room-given code feed given _ n.1.room },
    )
