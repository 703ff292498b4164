-- The turn is made over the whole buffers, and each ring lets go just what isn't wanted then.
use Rattle.tilt_pipe.proofs.Wanting.{reader-behind}
use Rattle.std.proofs.Common.{◌≡◌, ◌<◌, ◌∙◌, ℕ, length, sym, ap, subst, arith, rules, FitsSigned, w64, Some}
use Rattle.std.proofs.lemmas.Int.{to_z-of_z}
use Rattle.tilt_stream.specs.Snap.{Snapshot}
use Rattle.std.proofs.lemmas.List.{length-set}
use Rattle.std.proofs.lemmas.Option.{slice_get_within}
use Rattle.tilt_pipe.proofs.Making.{HasTurned, made-turn, may-turn, new-turns, held-after, turned-left}
use Rattle.tilt_pipe.proofs.Points.{turned-points}
use Rattle.tilt_pipe.proofs.RingsKept.{is-at}
use Rattle.tilt_pipe.proofs.Trimming.{alike-long, exact-trimmed, turned, turned-first, turned-starts, turned-wanted, unread-none, alike-both}
use Rattle.tilt_pipe.proofs.Turning.{has-many}
use Rattle.tilt_pipe.specs.Positions.{RingsParts, kept_ring, starts_of}
use Rattle.tilt_pipe.specs.Chain.{ArePoints, point_at, MayLetGo}
use Rattle.tilt_pipe.specs.Trimmed.{StandAlike}
use Rattle.tilt_pipe.proofs.chain.Chain.make.Goals as goal
use Rattle.tilt_pipe.proofs.chain.Chain.make.Goals.{After-set_point, After-trim_held}

pub index_mut-requires : goal.index_mut-requires
index_mut-requires c =
    let t = c.requires.told in
    let many = has-many c.args.self.now.rings c.args.self.now.turns.items c.args.place t.0 c.requires.is.turns t.1.is in
    search rules

pub is_read-read-requires-clause-there : goal.is_read-read-requires-clause-there
is_read-read-requires-clause-there c =
    let t = c.requires.told in
    (has-many c.args.self.now.rings c.args.self.now.turns.items c.args.place t.0 c.requires.is.turns t.1.is).rings

pub holds-had-requires : goal.holds-had-requires
holds-had-requires c =
    let t = c.requires.told in
    (has-many c.args.self.now.rings c.args.self.now.turns.items c.args.place t.0 c.requires.is.turns t.1.is).rings

pub next_snap-requires : goal.next_snap-requires
next_snap-requires c =
    let t = c.requires.told in (
      t.0,
      may-turn c.args.self.now.rings c.args.self.now.turns.items c.args.place t.0 c.index_mut.result.now c.loops.ensures.code c.loops.ensures.rings
          c.requires.is.turns c.requires.is.exact t.1 t.2 t.3 c.index_mut.ensures.value,
    )

pub keep-requires-clause-none : goal.keep-requires-clause-none
keep-requires-clause-none c = λ off r at.
    let p = c.args.self.now.rings in
    let t = c.requires.told in
    unread-none p c.args.place t.0 r (is-at p c.args.place t.0 r c.loops.ensures.code c.loops.ensures.rings t.1.is at).kept t.1.is at
    (exact-trimmed p c.args.place c.loops.ensures.rings c.requires.is.exact) (c.is_read-read.ensures off)

pub set_point-requires : goal.set_point-requires
set_point-requires c =
    let p = c.args.self.now.rings in
    let t = c.requires.told in
    let s = c.in_ok-snap.snap in
    let m = made-turn p c.args.place t.0 c.is_read-read.result s c.loops.ensures.code c.loops.ensures.rings t.1 c.is_read-read.ensures (c.in_ok-snap.ensures.snap t.0 t.1) in
    let pushed : c.keep.new.self ≡ turned p c.args.place c.is_read-read.result m.ring s = c.in_ok-keep.ensures.ok m.ring m.turn.at in
    let many = has-many p c.args.self.now.turns.items c.args.place t.0 c.requires.is.turns t.1.is in
    let there : c.args.place < length (turned p c.args.place c.is_read-read.result m.ring s).rings =
    subst (λ (n : ℕ). c.args.place < n) (sym (length-set p.rings c.args.place (kept_ring c.is_read-read.result m.ring s))) many.rings in
    record {
      there = subst (λ (q : RingsParts). c.args.place < length q.rings) (sym pushed) there;
      kept = slice_get_within c.args.self.now.points.items c.args.place (point_at p c.args.place t.0) (c.requires.is.points c.args.place t.0 t.1.is);
    }

-- the turn that was made, and the rings after it
now : (c : After-set_point) → (m : HasTurned c.args.self.now.rings c.args.place c.requires.told.0 c.is_read-read.result c.in_ok-snap.snap)
    × (c.set_point.new.self.rings ≡ turned c.args.self.now.rings c.args.place c.is_read-read.result m.ring c.in_ok-snap.snap)
now c =
    let t = c.requires.told in
    let m = made-turn c.args.self.now.rings c.args.place t.0 c.is_read-read.result c.in_ok-snap.snap c.loops.ensures.code c.loops.ensures.rings t.1
    c.is_read-read.ensures (c.in_ok-snap.ensures.snap t.0 t.1) in
    (m, c.set_point.ensures.rings ∙ c.in_ok-keep.ensures.ok m.ring m.turn.at)

there : (c : After-set_point) → c.args.place < length c.set_point.new.self.rings.rings
there c =
    let p = c.args.self.now.rings in
    let t = c.requires.told in
    let n = now c in
    let set = length-set p.rings c.args.place (kept_ring c.is_read-read.result n.0.ring c.in_ok-snap.snap) in
    omega (arith, ap (λ (q : RingsParts). length q.rings) n.1, (has-many p c.args.self.now.turns.items c.args.place t.0 c.requires.is.turns t.1.is).rings)

may : (c : After-set_point) → MayLetGo c.set_point.new.self
may c =
    let p = c.args.self.now.rings in
    let all = c.args.self.now.turns.items in
    let place = c.args.place in
    let t = c.requires.told in
    let s = c.in_ok-snap.snap in
    let b = c.is_read-read.result in
    let n = now c in
    let m = n.0 in
    let e = c.set_point.ensures in
    let snap = c.in_ok-snap.ensures in
    let points = rw (c.in_ok-keep.ensures.ok m.ring m.turn.at) at e.points in
    record {
      turns = rw (e.turns, n.1) (new-turns p all place t.0 c.index_mut.result.now c.next_snap.new.turns b m.ring s c.requires.is.turns m.turn m.stands
          c.index_mut.ensures.value snap.sources snap.readers snap.passed (snap.fit t.0 t.1));
      points = rw n.1 (subst (ArePoints (turned p place b m.ring s)) (sym (points t.0 m.turn.of t.2))
          (turned-points p place t.0 b m.ring s c.args.self.now.points.items m.turn c.requires.is.points));
      holders = rw (n.1, e.holders) c.requires.is.holders;
      lists = rw (e.holders, e.held) c.requires.is.lists;
      wanted = λ k. rw n.1 (turned-wanted p place k t.0 b m.ring s m.turn (λ j. exact-trimmed p j c.loops.ensures.rings c.requires.is.exact));
    }

pub trim_own-requires : goal.trim_own-requires
trim_own-requires c =
    let d = c.args.self.now in
    let place = c.args.place in
    let n = now (goal.at.trim_own-requires c).After-set_point in
    let m = n.0 in
    record {
      may = may (goal.at.trim_own-requires c).After-set_point;
      there = there (goal.at.trim_own-requires c).After-set_point;
      had = λ had x at.
          held-after d c.set_point.new.self place place c.requires.told.0 c.is_read-read.result m.ring c.in_ok-snap.snap m.turn n.1
          c.set_point.ensures.holders c.requires.is x (λ _. (c.holds-had.ensures m.ring m.turn.at).0 (rw had search rules)) (λ reader is.
          let own = c.requires.is.holders.among place reader (rw c.set_point.ensures.holders at at ∙ ap Some is) in
          let behind = reader-behind d.rings place reader c.loops.ensures.code c.loops.ensures.rings own in
          omega (arith, behind)) at;
      end = λ none.
          let tells = c.holds-had.ensures m.ring m.turn.at in
          let fits : FitsSigned w64 c.snap.inside.end = search rules in
          rw (n.1, to_z-of_z w64 c.snap.inside.end fits, ap (λ (x : Snapshot). x.end) c.snap.view_is)
          (turned-first d.rings place c.requires.told.0 c.is_read-read.result m.ring c.in_ok-snap.snap m.turn (grind (arith, none, tells)));
    }

pub trim_held-requires : goal.trim_held-requires
trim_held-requires c =
    let d = c.set_point.new.self in
    let z = c.trim_own.new.self in
    let place = c.args.place in
    let n = now (goal.at.trim_held-requires c).After-set_point in
    let m = n.0 in
    let e = c.in_ok-trim_own.ensures.settles.lets in
    record {
      may = e.may;
      rings = e.rings;
      there = omega (arith, alike-long d.rings z.rings e.alike, there (goal.at.trim_held-requires c).After-set_point);
      many = omega arith;
      left = λ k below.
          turned-left c.args.self.now d place k c.requires.told.0 c.is_read-read.result m.ring c.in_ok-snap.snap m.turn n.1 c.set_point.ensures.holders
          c.requires.is z c.set_point.ensures.held (may (goal.at.trim_held-requires c).After-set_point) e c.in_ok-trim_own.ensures.settles.settled below;
    }

-- the code and the inputs stay, however far it goes
same : (c : After-set_point) (q : RingsParts) → StandAlike c.set_point.new.self.rings q
    → (q.code ≡ c.args.self.now.rings.code) × (q.inputs ≡ c.args.self.now.rings.inputs)
same c q alike =
    let n = now c in (alike.code ∙ ap (λ (x : RingsParts). x.code) n.1, alike.inputs ∙ ap (λ (x : RingsParts). x.inputs) n.1)

pub returns-in_err-trim_own-clause-code : goal.returns-in_err-trim_own-clause-code
returns-in_err-trim_own-clause-code c =
    (same (goal.at.returns-in_err-trim_own-clause-code c).After-set_point c.trim_own.new.self.rings c.trim_own.ensures.alike).0

pub returns-in_err-trim_own-clause-inputs : goal.returns-in_err-trim_own-clause-inputs
returns-in_err-trim_own-clause-inputs c =
    (same (goal.at.returns-in_err-trim_own-clause-inputs c).After-set_point c.trim_own.new.self.rings c.trim_own.ensures.alike).1

-- and after all
alike : (c : After-trim_held) → StandAlike c.set_point.new.self.rings c.trim_held.new.self.rings
alike c = alike-both c.set_point.new.self.rings c.trim_own.new.self.rings c.trim_held.new.self.rings c.trim_own.ensures.alike c.trim_held.ensures.alike

pub returns-in_err-trim_held-clause-code : goal.returns-in_err-trim_held-clause-code
returns-in_err-trim_held-clause-code c =
    let at = goal.at.returns-in_err-trim_held-clause-code c in
    (same at.After-set_point c.trim_held.new.self.rings (alike at.After-trim_held)).0

pub returns-in_err-trim_held-clause-inputs : goal.returns-in_err-trim_held-clause-inputs
returns-in_err-trim_held-clause-inputs c =
    let at = goal.at.returns-in_err-trim_held-clause-inputs c in
    (same at.After-set_point c.trim_held.new.self.rings (alike at.After-trim_held)).1

pub returns : goal.returns
returns c =
    let at = goal.at.returns c in
    let n = now at.After-set_point in
    let both = same at.After-set_point c.trim_held.new.self.rings (alike at.After-trim_held) in
    record {
      is = c.in_ok-trim_held.ensures.is;
      snap = c.in_ok-snap.ensures.snap;
      starts = (alike at.After-trim_held).starts ∙ ap (λ (q : RingsParts). starts_of q.rings) n.1
          ∙ turned-starts c.args.self.now.rings c.args.place c.is_read-read.result n.0.ring c.in_ok-snap.snap;
      code = both.0;
      inputs = both.1;
    }
