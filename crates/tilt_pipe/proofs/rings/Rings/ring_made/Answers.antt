use Rattle.std.proofs.Common.{◌∙◌, refl, arith}
use Rattle.tilt_pipe.proofs.Telling.{IsOpenAt, open-read, open-count, open_at-past}
use Rattle.tilt_pipe.specs.contracts.rings.Rings.{the_view}
use Rattle.tilt_pipe.proofs.rings.Rings.ring_made.Goals as goal
use Rattle.tilt_pipe.proofs.rings.Rings.ring_made.Goals.{In-Some}

pub returns-in-None : goal.returns-in-None
returns-in-None c =
    let past = rw c.deref.ensures.value at c.in-None.ensures.lookup.3 in
    let none = open_at-past (the_view c.self.inside) c.args.place c.self.invariant past in
    rw (← c.self.view_is, none) (record { count = refl; in_order = tt })

-- the ring there
here : (c : In-Some) → IsOpenAt (the_view c.self.inside) c.args.place c.in-Some.ring.now
here c =
    open-read (the_view c.self.inside) c.args.place c.in-Some.ring.now c.loops.ensures.code c.self.invariant
    (rw c.deref.ensures.value at c.in-Some.ensures.lookup.3)

pub made-requires : goal.made-requires
made-requires c = let o = here c in omega (arith, o.few, o.count)

pub returns-in-Some : goal.returns-in-Some
returns-in-Some c =
    let o = here (goal.at.returns-in-Some c).In-Some in
    rw (← c.self.view_is) (record {
      count = c.made.ensures ∙ open-count (the_view c.self.inside) c.args.place c.in-Some.ring.now o;
      in_order = o.in_order;
    })
