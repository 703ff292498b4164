use Rattle.std.proofs.Common.{◌≡◌, refl, sym, ◌∙◌, rules}
use Rattle.std.proofs.lemmas.Option.{same_Some}
use Rattle.tilt_pipe.proofs.RingsKept.{MayKeep, may-keep, placed}
use Rattle.tilt_pipe.specs.contracts.rings.Rings.{the_view}
use Rattle.tilt_pipe.proofs.rings.Rings.keep.Goals as goal
use Rattle.tilt_pipe.proofs.rings.Rings.keep.Goals.{After-index_mut}

pub index_mut-requires : goal.index_mut-requires
index_mut-requires c =
    let next = rw (← c.self.view_is) at c.requires.next in
    let it = placed _ c.args.place next.0 c.loops.ensures.code c.self.invariant next.1 in
    search rules

may : (c : After-index_mut) → MayKeep (the_view c.self.inside) c.args.place c.args.read c.index_mut.result.now c.args.snap
may c =
    let next = rw (← c.self.view_is) at c.requires.next in
    let none = rw (← c.self.view_is) at c.requires.none in
    may-keep _ c.args.place next.0 c.args.read c.index_mut.result.now c.args.snap c.loops.ensures.code c.self.invariant next.1.is next.2
    c.index_mut.ensures.value none

pub keep-requires : goal.keep-requires
keep-requires c = record { touches = (may c).touches; low = (may c).low; high = (may c).high; fits = (may c).fits }

pub invariant_of-self-2 : goal.invariant_of-self-2
invariant_of-self-2 c = rw c.in_ok-keep.ensures.ok (may (goal.at.invariant_of-self-2 c).After-index_mut).rings

pub returns-clause-ok : goal.returns-clause-ok
returns-clause-ok c = λ r is.
    let at = (may (goal.at.returns-clause-ok c).After-index_mut).at in
    let same : c.index_mut.result.now ≡ r = same_Some c.index_mut.result.now r (sym at ∙ rw (← c.self.view_is) at is) in
    rw (← c.self.view_is, c.in_ok-keep.ensures.ok, same) refl
