use Rattle.std.proofs.Common.{◌≡◌, pos, ◌+ℤ◌, Option, Some, FitsSigned, refl, to_z-of_z, w64, rules, ap, ◌∙◌}
use Rattle.tilt_fix.proofs.Ends.{is-between}
use Rattle.tilt_stream.specs.Snap.{Snapshot, ended_below}
use Rattle.tilt_fix.proofs.piece.piece_of.Goals as goal

pub end_at-requires-clause-later : goal.end_at-requires-clause-later
end_at-requires-clause-later c =
    let b =
    is-between _ _ _ _ _ _ _ _ _ c.as_slice-all.ensures.snaps c.as_slice-all.ensures.no_gaps c.requires
    c.ended_below-from.ensures c.ended_below-up_to.ensures c.index-all-from.is c.index-all-up_to.is in
    let end : FitsSigned w64 c.last.inside.end = search rules in
    let is : c.last.inside.end ≡ c.index-all-up_to.result.end = ap (λ (s : Snapshot). s.end) c.last.view_is in
    rw (to_z-of_z end, is) b.ends.later

pub end_at-requires-clause-high : goal.end_at-requires-clause-high
end_at-requires-clause-high c =
    let b =
    is-between _ _ _ _ _ _ _ _ _ c.as_slice-all.ensures.snaps c.as_slice-all.ensures.no_gaps c.requires
    c.ended_below-from.ensures c.ended_below-up_to.ensures c.index-all-from.is c.index-all-up_to.is in
    let end : FitsSigned w64 c.last.inside.end = search rules in
    let is : c.last.inside.end ≡ c.index-all-up_to.result.end = ap (λ (s : Snapshot). s.end) c.last.view_is in
    rw (to_z-of_z end, is) b.ends.high

pub join_open-requires-clause-some : goal.join_open-requires-clause-some
join_open-requires-clause-some c =
    let b =
    is-between _ _ _ _ _ _ _ _ _ c.as_slice-all.ensures.snaps c.as_slice-all.ensures.no_gaps c.requires
    c.ended_below-from.ensures c.ended_below-up_to.ensures c.index-all-from.is c.index-all-up_to.is in
    let end : FitsSigned w64 c.last.inside.end = search rules in
    let is : c.last.inside.end ≡ c.index-all-up_to.result.end = ap (λ (s : Snapshot). s.end) c.last.view_is in
    rw (c.in_ok-ended.ensures, to_z-of_z end, is) b.ends.some

pub join_open-requires-clause-low : goal.join_open-requires-clause-low
join_open-requires-clause-low c =
    let b =
    is-between _ _ _ _ _ _ _ _ _ c.as_slice-all.ensures.snaps c.as_slice-all.ensures.no_gaps c.requires
    c.ended_below-from.ensures c.ended_below-up_to.ensures c.index-all-from.is c.index-all-up_to.is in
    let start : FitsSigned w64 c.first.inside.start = search rules in
    let is : c.first.inside.start ≡ c.index-all-from.result.start = ap (λ (s : Snapshot). s.start) c.first.view_is in
    rw (to_z-of_z start, is) b.ends.low

pub join_open-requires-clause-earlier : goal.join_open-requires-clause-earlier
join_open-requires-clause-earlier c =
    let b =
    is-between _ _ _ _ _ _ _ _ _ c.as_slice-all.ensures.snaps c.as_slice-all.ensures.no_gaps c.requires
    c.ended_below-from.ensures c.ended_below-up_to.ensures c.index-all-from.is c.index-all-up_to.is in
    let start : FitsSigned w64 c.first.inside.start = search rules in
    let begins : c.first.inside.start ≡ c.index-all-from.result.start = ap (λ (s : Snapshot). s.start) c.first.view_is in
    let end : FitsSigned w64 c.last.inside.end = search rules in
    let is : c.last.inside.end ≡ c.index-all-up_to.result.end = ap (λ (s : Snapshot). s.end) c.last.view_is in
    rw (c.in_ok-ended.ensures, to_z-of_z start, begins, to_z-of_z end, is) b.ends.earlier

pub returns-clause-from : goal.returns-clause-from
returns-clause-from c =
    let low = c.requires.low in
    let some = c.requires.some in
    let high = c.requires.high in
    let start : FitsSigned w64 c.args.on.start = search rules in
    let next : FitsSigned w64 (c.args.on.start +ℤ pos 1) = search rules in
    let is : c.ended_below-from.result ≡ ended_below (c.args.on.start +ℤ pos 1) c.as_slice-all.result.now =
    rw (to_z-of_z start, to_z-of_z next) at c.ended_below-from.ensures in
    is ∙ ap (ended_below (c.args.on.start +ℤ pos 1)) c.as_slice-all.ensures.snaps

same-found : (found : Option Snapshot) (a b : Snapshot) → found ≡ Some a → found ≡ Some b → a ≡ b
same-found found a b is too = cc

pub returns-clause-list : goal.returns-clause-list
returns-clause-list c = λ first last first_is last_is.
    let start : FitsSigned w64 c.first.inside.start = search rules in
    let end : FitsSigned w64 c.last.inside.end = search rules in
    let b =
    is-between _ _ _ _ _ _ _ _ _ c.as_slice-all.ensures.snaps c.as_slice-all.ensures.no_gaps c.requires
    c.ended_below-from.ensures c.ended_below-up_to.ensures c.index-all-from.is c.index-all-up_to.is in
    let one : c.first.inside.start ≡ first.start =
    ap (λ (s : Snapshot). s.start) (c.first.view_is ∙ same-found _ c.index-all-from.result first b.first_is first_is) in
    let two : c.last.inside.end ≡ last.end = ap (λ (s : Snapshot). s.end) (c.last.view_is ∙ same-found _ c.index-all-up_to.result last b.last_is last_is) in
    rw (c.join_open.ensures, c.in_ok-ended.ensures, to_z-of_z start, to_z-of_z end, one, two) refl
