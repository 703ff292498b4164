use Rattle.std.proofs.Common.{FitsSigned, to_z, of_z, to_z-of_z, w64, ◌∙◌, refl, rules}
use Rattle.tilt_live.proofs.Lives.{run-next}
use Rattle.tilt_live.specs.declared.live.Live.{Live}
use Rattle.tilt_live.proofs.live.Live.find_next.Goals as goal

pub returns-clause-next : goal.returns-clause-next
returns-clause-next c = λ accepted code left returned is.
    let live = c.horizon.new.self in
    let now = c.horizon.ensures.running accepted code left returned is in
    let later : Live = record { accepted = live.accepted; engine = c.next.new.self; refused = live.refused; known = live.known; upto = live.upto; alloc = live.alloc } in
    let tick = c.in_ok-horizon.horizon in
    let fits : FitsSigned w64 tick = search rules in
    run-next live later refl refl accepted code left returned now (to_z w64 (of_z w64 tick)) c.next.result refl
    (to_z-of_z fits ∙ c.in_ok-horizon.ensures.tick accepted code left returned is) (c.next.ensures.next code left returned now.runs)

pub returns-clause-bounded : goal.returns-clause-bounded
returns-clause-bounded c = λ accepted code left returned is.
    let now = c.horizon.ensures.running accepted code left returned is in
    rw (← c.horizon.ensures.engine) (c.next.ensures.bounded code left returned now.runs)
