use Rattle.std.proofs.Common.{◌∙◌, refl, sym}
use Rattle.tilt_pipe.proofs.Telling.{IsOpenAt, open-read, open-kept, open_at-past}
use Rattle.tilt_pipe.specs.contracts.rings.Rings.{the_view}
use Rattle.tilt_pipe.proofs.rings.Rings.ring_at.Goals as goal
use Rattle.tilt_pipe.proofs.rings.Rings.ring_at.Goals.{In_ok-get}

pub returns-in_err-get : goal.returns-in_err-get
returns-in_err-get c =
    let past = rw c.deref.ensures.value at c.in_err-get.ensures.lookup.3 in
    let none = open_at-past (the_view c.self.inside) c.args.place c.self.invariant past in
    rw (c.from_residual.ensures, ← c.self.view_is, none) (record { snap = refl; in_order = tt })

-- the ring there
here : (c : In_ok-get) → IsOpenAt (the_view c.self.inside) c.args.place c.in_ok-get.field-0.now
here c =
    open-read (the_view c.self.inside) c.args.place c.in_ok-get.field-0.now c.loops.ensures.code c.self.invariant
    (rw c.deref.ensures.value at c.in_ok-get.ensures.lookup.3)

pub at-requires : goal.at-requires
at-requires c = rw (here c).forgotten at (rw (← c.self.view_is) at c.requires)

pub returns : goal.returns
returns c =
    let o = here (goal.at.returns c).In_ok-get in
    let kept = rw o.forgotten at (rw (← c.self.view_is) at c.requires.kept) in
    rw (← c.self.view_is) (record {
      snap = c.at.ensures ∙ sym (open-kept (the_view c.self.inside) c.args.place c.args.number c.in_ok-get.field-0.now o kept);
      in_order = o.in_order;
    })
