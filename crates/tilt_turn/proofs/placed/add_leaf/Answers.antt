use Rattle.std.proofs.Common.{inl, refl, subst, sym}
use Rattle.tilt_base.proofs.Lists.{all-push}
use Rattle.tilt_turn.proofs.Repeats.{among-at, among-last, among-more, among-set, one-of-last, one-of-more}
use Rattle.tilt_turn.specs.Held.{IsOneOf, IsUnread, places_of}
use Rattle.tilt_turn.proofs.placed.add_leaf.Goals as goal

pub returns-in_ok-add-in-Some-earlier_equal-clause-before : goal.returns-in_ok-add-in-Some-earlier_equal-clause-before
returns-in_ok-add-in-Some-earlier_equal-clause-before c = λ earlier is.
    let places = c.in_ok-add-in-Some-earlier_equal.ensures.places in
    let own = c.index_mut.result.now in
    among-set earlier c.in-Some-earlier_equal.number c.args.leaves.now.items own c.add.new.self c.index_mut.ensures.value
    (λ one. subst (IsOneOf earlier) (sym places) (one-of-more earlier c.args.place (places_of own) one)) is

pub returns-in_ok-add-in-Some-earlier_equal-clause-here : goal.returns-in_ok-add-in-Some-earlier_equal-clause-here
returns-in_ok-add-in-Some-earlier_equal-clause-here c = λ by.
    let places = c.in_ok-add-in-Some-earlier_equal.ensures.places in
    let found = c.in-Some-earlier_equal.ensures c.in-Some-earlier_equal.number refl in
    among-at c.args.place c.in-Some-earlier_equal.number c.args.leaves.now.items c.add.new.self (rw c.deref.ensures.value at found.0)
    (subst (IsOneOf c.args.place) (sym places) (one-of-last c.args.place (places_of c.index_mut.result.now)))

pub returns-in_ok-push-in-None-clause-before : goal.returns-in_ok-push-in-None-clause-before
returns-in_ok-push-in-None-clause-before c = λ earlier is.
    rw c.in_ok-push-in-None.ensures.items (among-more earlier c.args.leaves.now.items _ is)

pub returns-in_ok-push-in-None-clause-here : goal.returns-in_ok-push-in-None-clause-here
returns-in_ok-push-in-None-clause-here c = λ by.
    rw c.in_ok-push-in-None.ensures.items (among-last c.args.place c.args.leaves.now.items _ (inl refl))

pub returns-in_ok-push-in-None-clause-unread : goal.returns-in_ok-push-in-None-clause-unread
returns-in_ok-push-in-None-clause-unread c =
    let ensures = c.in-Some.ensures in
    rw c.in_ok-push-in-None.ensures.items (all-push (IsUnread c.args.body.now) c.args.leaves.now.items _ c.requires.unread (record {
      places = rw c.new-in-None.ensures.items ((c.requires.place, sym ensures.same), tt);
      never = refl;
      leaf = λ lists maps point readable low. ensures.fit lists maps point (rw ensures.same at readable) low;
    }))
