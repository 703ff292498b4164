use Rattle.std.proofs.Common.{◌<◌, length, refl, sym, subst, ◌∙◌, arith, rules}
use Rattle.std.proofs.lemmas.Option.{same_Some, slice_get_within}
use Rattle.tilt_pipe.proofs.RingsKept.{IsAt, kept-count, kept-few, later-at, read-at}
use Rattle.tilt_pipe.proofs.Trimming.{there-at}
use Rattle.tilt_pipe.specs.Made.{Work}
use Rattle.tilt_pipe.specs.Positions.{RingParts}
use Rattle.tilt_pipe.specs.contracts.rings.Rings.{the_view}
use Rattle.tilt_pipe.proofs.rings.Rings.let_first_go.Goals as goal
use Rattle.tilt_pipe.proofs.rings.Rings.let_first_go.Goals.{After-index_mut}

within : (c : After-index_mut) → c.args.place < length c.self.inside.rings.items
within c = let here = rw (← c.self.view_is) at c.requires in slice_get_within c.self.inside.rings.items c.args.place here.0 here.1

pub index_mut-requires : goal.index_mut-requires
index_mut-requires c =
    let here = rw (← c.self.view_is) at c.requires in
    let within = slice_get_within c.self.inside.rings.items c.args.place here.0 here.1 in
    search rules

-- the ring there, and that it holds a snapshot
own : (c : After-index_mut) → (w : Work) × IsAt (the_view c.self.inside) c.args.place w c.index_mut.result.now × (0 < length c.index_mut.result.now.held)
own c =
    let p = the_view c.self.inside in
    let here = rw (← c.self.view_is) at c.requires in
    let t = there-at p c.args.place c.loops.ensures.code c.self.invariant (within c) in
    let it = read-at p c.args.place t.work c.index_mut.result.now c.loops.ensures.code c.self.invariant t.it.of c.index_mut.ensures.value in
    (t.work, it, subst (λ (r : RingParts). 0 < length r.held) (same_Some here.0 c.index_mut.result.now (sym here.1 ∙ it.at)) here.2)

pub let_first_go-requires : goal.let_first_go-requires
let_first_go-requires c =
    let o = own c in
    let r = c.index_mut.result.now in
    record { some = o.2; fits = omega (arith, kept-few o.0 r o.1.kept, kept-count o.0 r o.1.kept) }

pub invariant_of-self : goal.invariant_of-self
invariant_of-self c =
    let o = own (goal.at.invariant_of-self c).After-index_mut in
    rw c.let_first_go.ensures (later-at (the_view c.self.inside) c.args.place o.0 c.index_mut.result.now o.1 o.2)

pub returns : goal.returns
returns c = λ r at.
    let o = own (goal.at.returns c).After-index_mut in
    let same = same_Some r c.index_mut.result.now (sym (rw (← c.self.view_is) at at) ∙ o.1.at) in
    rw (← c.self.view_is, c.let_first_go.ensures, same) refl
