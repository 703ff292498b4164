use Rattle.tilt_parts.proofs.Stepping.{may-take, taken-one, taken-one_kept, taken-none_kept, taken-none_all}
use Rattle.tilt_parts.proofs.part.Part.step.Goals.{in-Some+in_ok-push, in_default}
use Rattle.tilt_parts.proofs.part.Part.step.Goals as goal

pub push-requires-clause-touches : goal.push-requires-clause-touches
push-requires-clause-touches c =
    (may-take _ c.self.invariant c.if-self.false c.in_ok-snap.field-0 c.in_ok-snap.ensures.given c.in-Some.snap c.in-Some.is).touches

pub push-requires-clause-low : goal.push-requires-clause-low
push-requires-clause-low c =
    (may-take _ c.self.invariant c.if-self.false c.in_ok-snap.field-0 c.in_ok-snap.ensures.given c.in-Some.snap c.in-Some.is).low

pub push-requires-clause-high : goal.push-requires-clause-high
push-requires-clause-high c =
    (may-take _ c.self.invariant c.if-self.false c.in_ok-snap.field-0 c.in_ok-snap.ensures.given c.in-Some.snap c.in-Some.is).high

pub invariant_of-self-2 : goal.invariant_of-self-2
invariant_of-self-2 c = elim c.match-branch-2.branch [
  | in-Some+in_ok-push w ↦ rw w.self-inside-is (taken-one_kept _ c.self.invariant c.if-self.false c.in_ok-snap.field-0 c.in_ok-snap.ensures.given
      c.next.new.self c.in_ok-snap.ensures.after w.in-Some.snap w.push.new.self w.in-Some.is w.in_ok-push.ensures.ok)
  | in_default w ↦ rw w.self-inside-is (taken-none_kept _ c.self.invariant c.if-self.false c.in_ok-snap.field-0 c.in_ok-snap.ensures.given
      c.next.new.self c.in_ok-snap.ensures.after w.in_default.is)
]

pub returns-clause-one_more : goal.returns-clause-one_more
returns-clause-one_more c = rw (← c.self.view_is) (λ granted more few. elim c.match-branch-2.branch [
  | in-Some+in_ok-push w ↦ rw w.self-inside-is (taken-one _ c.self.invariant c.if-self.false c.in_ok-snap.field-0 c.in_ok-snap.ensures.given
      c.next.new.self c.in_ok-snap.ensures.after w.in-Some.snap w.push.new.self w.in-Some.is w.in_ok-push.ensures.ok)
  | in_default w ↦ absurd (taken-none_all _ c.self.invariant c.if-self.false c.in_ok-snap.field-0 c.in_ok-snap.ensures.given
      c.next.new.self c.in_ok-snap.ensures.after w.in_default.is few)
])
