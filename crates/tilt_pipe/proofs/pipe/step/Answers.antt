use Rattle.std.proofs.Common.{◌≡◌, [], arith}
use Rattle.std.proofs.lemmas.List.{nil_from_length}
use Rattle.tilt_pipe.proofs.Pulling.{IsTurned, source-asked, source-nearer, asked-last, asked-open, turn-given, turn-nearer, turn-pulled}
use Rattle.tilt_pipe.proofs.pipe.step.Goals as goal
use Rattle.tilt_pipe.proofs.pipe.step.Goals.{After-pop, In_default-pop}

pub behind-requires-clause-open : goal.behind-requires-clause-open
behind-requires-clause-open c =
    let at = asked-last c.requires.pulled.0 c.args.chain.now.rings c.args.asked.now.items c.args.place.now c.requires.pulled.1 in
    (at.work, record { is = at.is; before = at.before }, at.used)

pub returns-in-Some-clause-pulled : goal.returns-in-Some-clause-pulled
returns-in-Some-clause-pulled c = λ given h.
    rw (c.in_ok-push.ensures.items, c.behind.ensures.rings)
    (source-asked given c.args.chain.now.rings c.args.asked.now.items c.args.place.now h c.in-Some.source c.in-Some.ensures.behind)

pub returns-in-Some-clause-nearer : goal.returns-in-Some-clause-nearer
returns-in-Some-clause-nearer c = λ given h none.
    rw (c.in_ok-push.ensures.items, c.behind.ensures.rings)
    (source-nearer given c.args.chain.now.rings c.args.asked.now.items c.args.place.now h c.in-Some.source c.in-Some.ensures.behind)

pub make-requires-clause-told : goal.make-requires-clause-told
make-requires-clause-told c =
    let p = c.args.chain.now.rings in
    let h = c.requires.pulled in
    let at = asked-last h.0 p c.args.asked.now.items c.args.place.now h.1 in
    let is_open = asked-open h.0 p c.args.asked.now.items c.args.place.now h.1 in
    rw c.behind.ensures.rings (at.work, is_open, at.used, c.in_default.ensures.behind at.work is_open)

-- the turn, after which the others are left
turned : (c : After-pop) → IsTurned c.args.chain.now.rings c.make.new.self.rings c.args.place.now c.in_ok-snap.snap
turned c =
    let made = rw c.behind.ensures.rings at c.in_ok-snap.ensures in
    record { told = c.in_default.ensures.behind; found = made.snap; code = made.code; inputs = made.inputs; starts = made.starts }

none : (c : In_default-pop) → c.args.asked.now.items ≡ []
none c =
    let asked = c.args.asked.now in
    nil_from_length asked.items (omega (arith, asked.ok.0, c.in_default-pop.ensures.cases.0))

pub returns-in_default-pop-clause-pulled : goal.returns-in_default-pop-clause-pulled
returns-in_default-pop-clause-pulled c = λ given h.
    let at = goal.at.returns-in_default-pop-clause-pulled c in
    rw (none at.In_default-pop) at (turn-pulled given c.args.chain.now.rings c.make.new.self.rings c.args.asked.now.items c.args.place.now h c.in_ok-snap.snap
    (turned at.After-pop))

pub returns-in_default-pop-clause-made : goal.returns-in_default-pop-clause-made
returns-in_default-pop-clause-made c = λ given h.
    let at = goal.at.returns-in_default-pop-clause-made c in
    turn-given given c.args.chain.now.rings c.make.new.self.rings c.args.asked.now.items c.args.place.now h c.in_ok-snap.snap (turned at.After-pop)
    (none at.In_default-pop)

pub returns-clause-pulled : goal.returns-clause-pulled
returns-clause-pulled c = λ given h.
    let at = goal.at.returns-clause-pulled c in
    rw (← c.in-Some-pop.ensures.items) (turn-pulled given c.args.chain.now.rings c.make.new.self.rings c.args.asked.now.items c.args.place.now h
    c.in_ok-snap.snap (turned at.After-pop))

pub returns-clause-nearer : goal.returns-clause-nearer
returns-clause-nearer c = λ given h none.
    let at = goal.at.returns-clause-nearer c in
    rw (← c.in-Some-pop.ensures.items) (turn-nearer given c.args.chain.now.rings c.make.new.self.rings c.args.asked.now.items c.args.place.now h
    c.in_ok-snap.snap (turned at.After-pop))
