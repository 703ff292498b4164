use Rattle.std.proofs.Common.{◌≡◌, ◌∙◌, ◌++◌, ◌-◌, List, [], length, take, drop, sym, ap, subst, append-nil}
use Rattle.std.proofs.lemmas.List.{take_rest}
use Rattle.tilt_engine.proofs.Shorter.{order-later}
use Rattle.tilt_stream.specs.Snap.{AreRows, Snapshot}
use Rattle.tilt_engine.proofs.inlet.Inlet.rows_after.Goals as goal

pub append-requires-clause-rows : goal.append-requires-clause-rows
append-requires-clause-rows c =
    let all = c.as_slice.result.now in
    let n = c.args.count in
    let order = subst AreRows (sym c.as_slice.ensures.rows) c.as_slice.ensures.in_order in
    subst AreRows (sym (take_rest all n)) (subst AreRows (append-nil (drop n all)) (order-later _ _ n all [] (subst AreRows (sym (append-nil all)) order)))

pub returns : goal.returns
returns c =
    let all = c.as_slice.result.now in
    let n = c.args.count in
    rw (← c.self.view_is) (c.in_ok-append.ensures.ok ∙ ap (λ (front : List Snapshot). front ++ take (length all - n) (drop n all)) c.new-rest.ensures
    ∙ take_rest all n ∙ ap (drop n) c.as_slice.ensures.rows)
