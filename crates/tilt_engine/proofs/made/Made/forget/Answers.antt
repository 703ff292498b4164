use Rattle.std.proofs.Common.{◌≡◌, ◌∙◌, ◌++◌, ◌-◌, List, length, take, drop, sym, ap, subst}
use Rattle.std.proofs.lemmas.List.{take_rest}
use Rattle.tilt_engine.proofs.Shorter.{made-later, made-snapshots}
use Rattle.tilt_engine.specs.Stock.{IsMade, MadeParts}
use Rattle.tilt_stream.specs.Snap.{AreSnapshots, Snapshot}
use Rattle.tilt_engine.proofs.made.Made.forget.Goals as goal
use Rattle.tilt_engine.proofs.made.Made.forget.Goals.{After-as_slice}

-- what is left is what comes after the first ones
left : (c : After-as_slice) → c.new-rest.result ++ take (length c.as_slice.result.now - c.args.count) (drop c.args.count c.as_slice.result.now)
    ≡ drop c.args.count c.self.inside.made
left c =
    let all = c.as_slice.result.now in
    let n = c.args.count in
    ap (λ (front : List Snapshot). front ++ take (length all - n) (drop n all)) c.new-rest.ensures ∙ take_rest all n ∙ ap (drop n) c.as_slice.ensures.snaps

abbrev whole : After-as_slice → MadeParts
whole c = record { made = c.self.inside.made; settled = c.self.inside.settled; waiting = c.self.inside.waiting; hi = c.self.inside.hi }

pub append-requires : goal.append-requires
append-requires c =
    let b = (goal.at.append-requires c).After-as_slice in
    subst AreSnapshots (sym (left b)) (made-snapshots c.args.count (whole b) c.self.invariant)

pub invariant_of-self : goal.invariant_of-self
invariant_of-self c =
    let b = (goal.at.invariant_of-self c).After-as_slice in
    let old = c.self.inside in
    subst (λ (list : List Snapshot). IsMade (record { made = list; settled = old.settled; waiting = old.waiting; hi = old.hi }))
    (sym (c.in_ok-append.ensures.ok ∙ left b)) (made-later c.args.count (whole b) c.self.invariant)
