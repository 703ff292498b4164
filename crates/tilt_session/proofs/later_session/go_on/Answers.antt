use Rattle.std.proofs.Common.{◌≡◌, ◌∙◌, ap, sym, rules, w64, FitsSigned, pos, ◌-ℤ◌, ◌≤ℤ◌, ◌<ℤ◌, arith}
use Rattle.std.specs.Int.{int_max}
use Rattle.std.proofs.lemmas.Int.{ints, to_z-of_z}
use Rattle.tilt_checkpoint.specs.Decided.{decided}
use Rattle.tilt_checkpoint.proofs.Rows.{time_fits}
use Rattle.tilt_session.proofs.Sessions.{begun-low, after-none, decided-low, open-none, passed-max, went-begun, went-earlier, went-printed, wide_fits}
use Rattle.tilt_compiler.specs.Compiled.{given}
use Rattle.tilt_session.specs.Later.{resumed_at}
use Rattle.tilt_stream.specs.Pieces.{joined_from}
use Rattle.tilt_session.proofs.later_session.go_on.Goals as goal

pub returns-then-decided-frame-clause-printed : goal.returns-then-decided-frame-clause-printed
returns-then-decided-frame-clause-printed c =
    let frame = c.args.after.frame in
    let cut = c.args.after.cut in
    let cut_is = to_z-of_z w64 cut (time_fits cut c.requires.cut.0 c.requires.cut.1) in
    let mid : c.decided-decided.result ≡ decided frame cut = c.decided-decided.ensures ∙ ap (decided frame) cut_is in
    let mid_fits : FitsSigned w64 c.decided-decided.result = search rules in
    let end_fits : FitsSigned w64 frame.end = search rules in
    let t = rw (to_z-of_z w64 frame.end end_fits, to_z-of_z w64 c.decided-decided.result mid_fits, mid) at c.if-decided-frame.true in
    let done : frame.end ≤ℤ decided frame cut = grind (arith, ints) in
    c.new.ensures ∙ sym (after-none frame cut c.args.last _ done)

pub returns-then-decided-frame-clause-begun : goal.returns-then-decided-frame-clause-begun
returns-then-decided-frame-clause-begun c =
    let frame = c.args.after.frame in
    let cut = c.args.after.cut in
    let cut_is = to_z-of_z w64 cut (time_fits cut c.requires.cut.0 c.requires.cut.1) in
    let mid : c.decided-decided.result ≡ decided frame cut = c.decided-decided.ensures ∙ ap (decided frame) cut_is in
    let mid_fits : FitsSigned w64 c.decided-decided.result = search rules in
    let end_fits : FitsSigned w64 frame.end = search rules in
    let t = rw (to_z-of_z w64 frame.end end_fits, to_z-of_z w64 c.decided-decided.result mid_fits, mid) at c.if-decided-frame.true in
    let done : frame.end ≤ℤ decided frame cut = grind (arith, ints) in
    sym (open-none frame cut c.args.last (joined_from c.args.after.begun (given c.args.accepted.now.core c.args.rows.items (resumed_at frame cut) c.args.last)) done c.requires.onward)

pub overflow_sub-decided : goal.overflow_sub-decided
overflow_sub-decided c =
    let frame = c.args.after.frame in
    let cut = c.args.after.cut in
    let cut_is = to_z-of_z w64 cut (time_fits cut c.requires.cut.0 c.requires.cut.1) in
    let mid : c.decided-decided.result ≡ decided frame cut = c.decided-decided.ensures ∙ ap (decided frame) cut_is in
    let mid_fits : FitsSigned w64 c.decided-decided.result = search rules in
    let low = decided-low frame cut c.requires.frame c.requires.cut in
    let l = low.0 in
    let h = low.1 in
    rw (to_z-of_z w64 c.decided-decided.result mid_fits, mid) (wide_fits (decided frame cut -ℤ pos 1) (omega (arith, ints)) (omega (arith, ints)))

pub join_from-requires-clause-low : goal.join_from-requires-clause-low
join_from-requires-clause-low c =
    λ start is. begun-low c.args.after.frame (decided c.args.after.frame c.args.after.cut) start c.args.after.begun c.requires.frame c.requires.begun is

pub join_from-requires-clause-earlier : goal.join_from-requires-clause-earlier
join_from-requires-clause-earlier c =
    let frame = c.args.after.frame in
    let cut = c.args.after.cut in
    let mid = c.decided-decided.result in
    let cut_is = to_z-of_z w64 cut (time_fits cut c.requires.cut.0 c.requires.cut.1) in
    let mid_is : mid ≡ decided frame cut = c.decided-decided.ensures ∙ ap (decided frame) cut_is in
    let mid_fits : FitsSigned w64 mid = search rules in
    let start_fits : FitsSigned w64 frame.start = search rules in
    let from_fits : FitsSigned w64 c.max-from.result = search rules in
    let low = decided-low frame cut c.requires.frame c.requires.cut in
    let from_is : c.max-from.result ≡ int_max frame.start (mid -ℤ pos 1) = passed-max frame.start mid c.max-from.result start_fits mid_fits (rw (← mid_is) at low) c.max-from.ensures.value in
    went-earlier c.args.accepted.now.core frame c.args.rows.items c.args.after.begun c.in_ok-list.list c.in_ok-list.list cut c.args.last mid c.max-from.result _ _ mid_is from_is
    (to_z-of_z w64 c.max-from.result from_fits) (to_z-of_z w64 c.args.last c.ranges.last) c.in_ok-list.ensures c.requires.begun

pub returns-clause-printed : goal.returns-clause-printed
returns-clause-printed c =
    let frame = c.args.after.frame in
    let cut = c.args.after.cut in
    let mid = c.decided-decided.result in
    let cut_is = to_z-of_z w64 cut (time_fits cut c.requires.cut.0 c.requires.cut.1) in
    let mid_is : mid ≡ decided frame cut = c.decided-decided.ensures ∙ ap (decided frame) cut_is in
    let mid_fits : FitsSigned w64 mid = search rules in
    let start_fits : FitsSigned w64 frame.start = search rules in
    let from_fits : FitsSigned w64 c.max-from.result = search rules in
    let low = decided-low frame cut c.requires.frame c.requires.cut in
    let from_is : c.max-from.result ≡ int_max frame.start (mid -ℤ pos 1) = passed-max frame.start mid c.max-from.result start_fits mid_fits (rw (← mid_is) at low) c.max-from.ensures.value in
    let end_fits : FitsSigned w64 frame.end = search rules in
    let t = rw (to_z-of_z w64 frame.end end_fits, to_z-of_z w64 mid mid_fits) at c.if-decided-frame.false in
    let before : mid <ℤ frame.end = grind (arith, ints) in
    c.close.ensures.printed ∙ went-printed c.args.accepted.now.core frame c.args.rows.items c.args.after.begun c.in_ok-list.list
    c.join_from.result cut c.args.last mid c.max-from.result _ _ mid_is from_is
    (to_z-of_z w64 c.max-from.result from_fits) (to_z-of_z w64 c.args.last c.ranges.last) c.in_ok-list.ensures c.join_from.ensures before

pub returns-clause-begun : goal.returns-clause-begun
returns-clause-begun c =
    let frame = c.args.after.frame in
    let cut = c.args.after.cut in
    let mid = c.decided-decided.result in
    let cut_is = to_z-of_z w64 cut (time_fits cut c.requires.cut.0 c.requires.cut.1) in
    let mid_is : mid ≡ decided frame cut = c.decided-decided.ensures ∙ ap (decided frame) cut_is in
    let mid_fits : FitsSigned w64 mid = search rules in
    let start_fits : FitsSigned w64 frame.start = search rules in
    let from_fits : FitsSigned w64 c.max-from.result = search rules in
    let low = decided-low frame cut c.requires.frame c.requires.cut in
    let from_is : c.max-from.result ≡ int_max frame.start (mid -ℤ pos 1) = passed-max frame.start mid c.max-from.result start_fits mid_fits (rw (← mid_is) at low) c.max-from.ensures.value in
    c.close.ensures.begun ∙ went-begun c.args.accepted.now.core frame c.args.rows.items c.args.after.begun c.in_ok-list.list
    c.join_from.result cut c.args.last mid c.max-from.result _ _ mid_is from_is
    (to_z-of_z w64 c.max-from.result from_fits) (to_z-of_z w64 c.args.last c.ranges.last) c.in_ok-list.ensures c.join_from.ensures
