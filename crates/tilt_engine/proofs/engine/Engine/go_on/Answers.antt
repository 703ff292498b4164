-- It was of some feed, since it wasn't refused memory.
use Rattle.std.proofs.Common.{◌≡◌, ◌≤◌, inl, inr, ℕ, Result, Ok, Err, sym, ◌∙◌, subst, rules}
use Rattle.std.specs.Prelude.{OnOk}
use Rattle.tilt_code.specs.Code.{CodeParts}
use Rattle.tilt_engine.specs.Engines.{IsEngine, IsEngineAt, IsEngineOf, held_by, room_of}
use Rattle.tilt_engine.specs.Keeping.{HasJustForgotten, KeepsFew}
use Rattle.tilt_engine.specs.Rooms.{IsRoomOf}
use Rattle.tilt_engine.proofs.Rooms.{room-then}
use Rattle.tilt_engine.specs.declared.engine.Engine.{Engine}
use Rattle.tilt_engine.specs.declared.status.Status.TheVariants.{Behind}
use Rattle.tilt_feed.specs.Feed.{Feed}
use Rattle.tilt_engine.proofs.engine.Engine.go_on.Goals as goal

of-feed : (e : Engine) → IsEngine e → e.status ≡ Behind → (code : CodeParts) × (feed : Feed) × (given : ℕ) × IsEngineAt e code feed given
of-feed e (inl refused) behind = absurd (cc (sym refused ∙ behind))
of-feed e (inr of) behind = (of.0, of.1, of.2, of.3.at)

pub forget-requires-clause-engine : goal.forget-requires-clause-engine
forget-requires-clause-engine c =
    let of = of-feed c.args.self.now c.requires.engine c.requires.behind in
    (of.0, of.1, of.2, c.in_ok-catch_up.ensures.engine of.0 of.1 of.2 of.3)

-- what holds of it once it has forgotten
engine-then : {E : Type 0} (e : Engine) (result : Result (Unit {0}) E) (code : CodeParts) (feed : Feed) (given : ℕ) → OnOk result (IsEngineAt e code feed given)
    → OnOk result (held_by e ≤ room_of e) → OnOk result (HasJustForgotten code feed given (held_by e) (room_of e)) → OnOk result (IsEngineOf e code feed given)
engine-then e (Ok done) code feed given at within forgotten =
    record { at = at; few = λ _. within; room = room-then code feed given (held_by e) (room_of e) forgotten }
engine-then e (Err fault) code feed given at within forgotten = tt

few-then : {E : Type 0} (result : Result (Unit {0}) E) (code : CodeParts) (feed : Feed) (given before held room : ℕ) → OnOk result (held ≤ room)
    → OnOk result (HasJustForgotten code feed given held room) → OnOk result (KeepsFew code feed given before held room)
few-then (Ok done) code feed given before held room within forgotten =
    record { within = within; room_is = inr forgotten; most = room-then code feed given held room forgotten }
few-then (Err fault) code feed given before held room within forgotten = tt

pub returns-clause-engine : goal.returns-clause-engine
returns-clause-engine c = λ code feed given of.
    engine-then c.forget.new.self c.forget.result code feed given
    (c.forget.ensures.engine code feed given (c.in_ok-catch_up.ensures.engine code feed given of.at)) c.forget.ensures.within
    (c.forget.ensures.forgotten code feed given (c.in_ok-catch_up.ensures.engine code feed given of.at))

pub returns-clause-bounded : goal.returns-clause-bounded
returns-clause-bounded c = λ code feed given of.
    few-then c.forget.result code feed given (room_of c.args.self.now) (held_by c.forget.new.self) (room_of c.forget.new.self) c.forget.ensures.within
    (c.forget.ensures.forgotten code feed given (c.in_ok-catch_up.ensures.engine code feed given of.at))

pub returns-then-held-self-clause-engine : goal.returns-then-held-self-clause-engine
returns-then-held-self-clause-engine c = λ code feed given of. record {
  at = c.in_ok-catch_up.ensures.engine code feed given of.at;
  few = λ _. search rules;
  room = subst (IsRoomOf code feed given) (sym c.in_ok-catch_up.ensures.room) of.room;
}

pub returns-then-held-self-clause-bounded : goal.returns-then-held-self-clause-bounded
returns-then-held-self-clause-bounded c = λ code feed given of. record {
  within = search rules;
  room_is = inl c.in_ok-catch_up.ensures.room;
  most = subst (IsRoomOf code feed given) (sym c.in_ok-catch_up.ensures.room) of.room;
}
