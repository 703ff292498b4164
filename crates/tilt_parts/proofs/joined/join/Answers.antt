use Rattle.std.proofs.Common.{◌≡◌, ◌++◌, ◌∷◌, ◌∙◌, [], sym, subst, rules, SFits, w64, to_z-of_z}
use Rattle.std.proofs.lemmas.List.{nil_from_length}
use Rattle.tilt_parts.proofs.Lists.{joined_pieces, joint-follows, joint-none, joint-parted, on_ok}
use Rattle.tilt_parts.specs.Parts.{joint}
use Rattle.tilt_stream.specs.Snap.{AreSnapshots}
use Rattle.tilt_parts.proofs.joined.join.Goals as goal

pub invariant_of-push : goal.invariant_of-push
invariant_of-push c =
    let starts : SFits w64 c.open.inside.start = search rules in
    let ends : SFits w64 c.first.inside.end = search rules in
    let begins : c.args.next.now ≡ c.in-Some-Some.first.now ∷ c.in-Some-Some.rest.now = sym c.as_slice.ensures.snaps ∙ c.in-Some-Some.ensures'.cases.0 in
    let follows = joint-follows c.pop.new.self c.args.list.now c.in-Some-Some.rest.now c.args.next.now c.in-Some-Some.open c.in-Some-Some.first.now
    c.in-Some-Some.ensures begins c.requires in
    rw (to_z-of_z starts, to_z-of_z ends) (rw (← c.open.view_is, ← c.first.view_is) at follows.some)

pub push-requires-clause-touches : goal.push-requires-clause-touches
push-requires-clause-touches c =
    let starts : SFits w64 c.open.inside.start = search rules in
    let begins : c.args.next.now ≡ c.in-Some-Some.first.now ∷ c.in-Some-Some.rest.now = sym c.as_slice.ensures.snaps ∙ c.in-Some-Some.ensures'.cases.0 in
    let follows = joint-follows c.pop.new.self c.args.list.now c.in-Some-Some.rest.now c.args.next.now c.in-Some-Some.open c.in-Some-Some.first.now
    c.in-Some-Some.ensures begins c.requires in
    rw (to_z-of_z starts) (rw (← c.open.view_is) at follows.touches)

pub push-requires-clause-low : goal.push-requires-clause-low
push-requires-clause-low c =
    let starts : SFits w64 c.open.inside.start = search rules in
    let begins : c.args.next.now ≡ c.in-Some-Some.first.now ∷ c.in-Some-Some.rest.now = sym c.as_slice.ensures.snaps ∙ c.in-Some-Some.ensures'.cases.0 in
    let follows = joint-follows c.pop.new.self c.args.list.now c.in-Some-Some.rest.now c.args.next.now c.in-Some-Some.open c.in-Some-Some.first.now
    c.in-Some-Some.ensures begins c.requires in
    rw (to_z-of_z starts) (rw (← c.open.view_is) at follows.low)

pub append-requires : goal.append-requires
append-requires c =
    let starts : SFits w64 c.open.inside.start = search rules in
    let ends : SFits w64 c.first.inside.end = search rules in
    let begins : c.args.next.now ≡ c.in-Some-Some.first.now ∷ c.in-Some-Some.rest.now = sym c.as_slice.ensures.snaps ∙ c.in-Some-Some.ensures'.cases.0 in
    let parted = joint-parted c.pop.new.self c.args.list.now c.in-Some-Some.rest.now c.args.next.now c.in-Some-Some.open c.in-Some-Some.first.now
    c.in-Some-Some.ensures begins in
    let pushed = rw (to_z-of_z starts, to_z-of_z ends) at c.in_ok-push-in-Some-Some.ensures.ok in
    let all : c.push.new.self ++ c.in-Some-Some.rest.now ≡ joint c.args.list.now c.args.next.now =
    joined_pieces c.pop.new.self c.in-Some-Some.rest.now c.push.new.self _ c.in-Some-Some.open c.in-Some-Some.first.now _ _ c.open.view_is c.first.view_is pushed parted in
    subst AreSnapshots (sym all) c.requires

pub returns-in_ok-push-in-Some-Some : goal.returns-in_ok-push-in-Some-Some
returns-in_ok-push-in-Some-Some c =
    let starts : SFits w64 c.open.inside.start = search rules in
    let ends : SFits w64 c.first.inside.end = search rules in
    let begins : c.args.next.now ≡ c.in-Some-Some.first.now ∷ c.in-Some-Some.rest.now = sym c.as_slice.ensures.snaps ∙ c.in-Some-Some.ensures'.cases.0 in
    let parted = joint-parted c.pop.new.self c.args.list.now c.in-Some-Some.rest.now c.args.next.now c.in-Some-Some.open c.in-Some-Some.first.now
    c.in-Some-Some.ensures begins in
    let pushed = rw (to_z-of_z starts, to_z-of_z ends) at c.in_ok-push-in-Some-Some.ensures.ok in
    let all : c.push.new.self ++ c.in-Some-Some.rest.now ≡ joint c.args.list.now c.args.next.now =
    joined_pieces c.pop.new.self c.in-Some-Some.rest.now c.push.new.self _ c.in-Some-Some.open c.in-Some-Some.first.now _ _ c.open.view_is c.first.view_is pushed parted in
    on_ok c.append.result (λ (is : c.append.new.self ≡ c.push.new.self ++ c.in-Some-Some.rest.now). is ∙ all) c.append.ensures.ok

pub returns-in_default-None : goal.returns-in_default-None
returns-in_default-None c =
    let none : c.args.next.now ≡ [] = sym c.as_slice.ensures.snaps ∙ nil_from_length c.as_slice.result.now c.in_default-None.ensures'.cases in
    rw none (joint-none c.pop.result c.args.list.now c.pop.new.self c.pop.ensures)
