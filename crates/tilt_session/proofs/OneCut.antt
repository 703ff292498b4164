-- Sessions print together what one session prints.
use Rattle.std.proofs.Common.{◌≡◌, ℕ, ◌<◌, ℤ, pos, ◌+ℤ◌, ◌-ℤ◌, ◌<ℤ◌, ◌≤ℤ◌, Bool, true, false, List, [], ◌++◌, length, Option, Some, None, Ok, refl, sym, ap, ◌∙◌, arith, subst, append-nil}
use Rattle.std.specs.Prelude.{int_lt, if◌then◌else◌}
use Rattle.std.specs.Int.{int_max}
use Rattle.std.specs.List.{AllByRecursion}
use Rattle.std.proofs.lemmas.Int.{ints, clamps, by_lt_z}
use Rattle.tilt_bounds.specs.Margins.{AreMargins, MarginsParts, margins_of}
use Rattle.tilt_checkpoint.specs.Checkpoint.{CheckpointParts, cuts_kept, cuts_of}
use Rattle.tilt_checkpoint.specs.Cuts.{CutsParts, IsLeast}
use Rattle.tilt_checkpoint.specs.Decided.{decided, first_kept, frame_of, frame_with}
use Rattle.tilt_checkpoint.specs.declared.frame.Frame.{Frame}
use Rattle.tilt_stream.proofs.Cut.{snapshots-none}
use Rattle.tilt_stream.specs.Agreement.{ChangesOnlyAtMarks}
use Rattle.tilt_stream.specs.Snap.{Snapshot, AreRows}
use Rattle.tilt_stream.specs.Snapshots.{snapshots}
use Rattle.tilt_stream.specs.Stream.{Stream}
use Rattle.tilt_syntax.specs.Tree.{StatementTree}
use Rattle.tilt_base.specs.declared.span.Span.{Span}
use Rattle.tilt_core.proofs.Constancy.{definitions-AreGrids, meaning-changes}
use Rattle.tilt_types.specs.Checked.{core_of}
use Rattle.tilt_core.specs.Core.{CoreParts, IsCore, domain_of, emitted_number}
use Rattle.tilt_core.specs.Meaning.{meaning}
use Rattle.tilt_core.specs.Needs.{Need, reach}
use Rattle.tilt_bounds.proofs.Margin.{margins-reach}
use Rattle.tilt_session.proofs.Given.{given-continued, given-kept}
use Rattle.tilt_stream.proofs.Joined.{snapshots-parted, snapshots-some}
use Rattle.tilt_session.proofs.Lists.{continued, early-counted, kept-all, length-kept_each, new-counted, rows-kept}
use Rattle.tilt_stream.proofs.Pieces.{last_start-append, length-joined_from, without_last-append}
use Rattle.tilt_session.specs.Cuts.{IsOnward, decided_by}
use Rattle.tilt_session.specs.Emitted.{closed, emitted, open_at, open_start}
use Rattle.tilt_compiler.specs.Compiled.{given}
use Rattle.tilt_session.specs.Kept.{checkpoint_at, kept_each}
use Rattle.tilt_session.specs.Later.{both, going_on, newly, next, resumed_at}
use Rattle.tilt_session.specs.Law.{IsOneCut}
use Rattle.tilt_session.specs.NewRows.{AreNewRows, added}
use Rattle.tilt_stream.specs.Pieces.{joined_from, last_start, without_last}
use Rattle.tilt_session.specs.declared.cut.Cut.{Cut}
use Rattle.tilt_session.specs.declared.cut.Cut.TheVariants.{Upto, End}

-- what is decided doesn't fall from cut to cut, and is the output at most
decided-raised : (frame : Frame) (old new : ℤ) → old ≤ℤ new → decided frame old ≤ℤ decided frame new
decided-raised frame old new on = grind (arith, ints, clamps)

pub decided-on : (frame : Frame) (old : CutsParts) (cut : Cut) → IsOnward old cut → decided frame old.least ≤ℤ decided_by frame cut
decided-on frame old (Upto new) on = decided-raised frame old.least new.least on.0
decided-on frame old End on = grind (arith, ints, clamps)

pub decided-most : (frame : Frame) (cut : Cut) → decided_by frame cut ≤ℤ frame.end
decided-most frame (Upto new) = grind (arith, ints, clamps)
decided-most frame End = omega (arith, ints)

-- nor does the first tick that is kept
raised : (a b start back : ℤ) → a ≤ℤ b → (int_max a start -ℤ back) ≤ℤ (int_max b start -ℤ back)
raised a b start back on = grind (arith, ints, clamps)

pub first-on : (frame : Frame) (old upto : ℤ) → old ≤ℤ upto → first_kept frame old ≤ℤ first_kept frame upto
first-on frame old upto on = raised (decided frame old) (decided frame upto) (frame.start +ℤ pos 1) frame.back (decided-raised frame old upto on)

-- snapshots that are separated at a tick are closed and opened as the second part is
module _ (frame : Frame) (last : ℤ) (front back : List Snapshot) (some : 0 < length back) where
  pub closed-append : closed frame last (front ++ back) ≡ front ++ closed frame last back
  closed-append =
      by_lt_z last frame.end
      (λ before. let test : int_lt last frame.end ≡ true = grind (arith, ints) in rw test (without_last-append front back some))
      (λ done. let test : int_lt last frame.end ≡ false = grind (arith, ints) in rw test refl)

  pub open_start-append : open_start frame last (front ++ back) ≡ open_start frame last back
  open_start-append =
      by_lt_z last frame.end
      (λ before. let test : int_lt last frame.end ≡ true = grind (arith, ints) in rw test (last_start-append front back some))
      (λ done. let test : int_lt last frame.end ≡ false = grind (arith, ints) in rw test refl)

-- of a stream that changes only at marks: what is closed up to a later tick, from what is up to an earlier one
record IsParted (frame : Frame) (x : Stream) (mid last : ℤ) (going : List Snapshot) : Type 0 where
  closed_is : closed frame last (snapshots x frame.start last) ≡ closed frame mid (snapshots x frame.start mid) ++ closed frame last going
  open_is : open_start frame last (snapshots x frame.start last) ≡ open_start frame last going

parted : (frame : Frame) (x : Stream) (mid last : ℤ) → ChangesOnlyAtMarks x → mid <ℤ frame.end → mid ≤ℤ last
    → IsParted frame x mid last (joined_from (open_start frame mid (snapshots x frame.start mid)) (snapshots x (int_max frame.start (mid -ℤ pos 1)) last))
parted frame x mid last h before on =
    let test : int_lt mid frame.end ≡ true = grind (arith, ints) in
    by_lt_z frame.start mid
    (λ some.
    let at : int_max frame.start (mid -ℤ pos 1) ≡ mid -ℤ pos 1 = grind (arith, ints, clamps) in
    let front = snapshots x frame.start mid in
    let going = joined_from (last_start front) (snapshots x (mid -ℤ pos 1) last) in
    let filled : 0 < length going =
    subst (λ (n : ℕ). 0 < n) (sym (length-joined_from (last_start front) (snapshots x (mid -ℤ pos 1) last))) (snapshots-some x (mid -ℤ pos 1) last (omega (arith, ints))) in
    let whole = snapshots-parted x h frame.start mid last some on in
    let opens : open_start frame mid front ≡ last_start front = ap (λ (b : Bool). if b then last_start front else None) test in
    let closes : closed frame mid front ≡ without_last front = ap (λ (b : Bool). if b then without_last front else front) test in
    subst (λ (l : List Snapshot). IsParted frame x mid last l) (λ i. joined_from (sym opens i) (snapshots x (sym at i) last)) (record {
      closed_is =
          ap (closed frame last) whole ∙ closed-append frame last (without_last front) going filled
          ∙ ap (λ (l : List Snapshot). l ++ closed frame last going) (sym closes);
      open_is = ap (open_start frame last) whole ∙ open_start-append frame last (without_last front) going filled;
    }))
    (λ none.
    let at : int_max frame.start (mid -ℤ pos 1) ≡ frame.start = grind (arith, ints, clamps) in
    let is_none = snapshots-none x frame.start mid none in
    let opens : open_start frame mid (snapshots x frame.start mid) ≡ None =
    ap (open_start frame mid) is_none ∙ ap (λ (b : Bool). if b then last_start [] else None) test in
    let closes : closed frame mid (snapshots x frame.start mid) ≡ [] =
    ap (closed frame mid) is_none ∙ ap (λ (b : Bool). if b then without_last [] else []) test in
    subst (λ (l : List Snapshot). IsParted frame x mid last l) (λ i. joined_from (sym opens i) (snapshots x (sym at i) last)) (record {
      closed_is = ap (λ (l : List Snapshot). l ++ closed frame last (snapshots x frame.start last)) (sym closes);
      open_is = refl;
    }))

-- a frame has the look-back and the look-ahead of its core
frame-back : (domain : Option Span) (n : Need) → (frame_with domain n).back ≡ n.back
frame-back None n = refl
frame-back (Some span) n = refl

frame-ahead : (domain : Option Span) (n : Need) → (frame_with domain n).ahead ≡ n.ahead
frame-ahead None n = refl
frame-ahead (Some span) n = refl

module _ (query : List StatementTree) (margins : MarginsParts) (is : IsCore (core_of query)) (near : margins_of (core_of query) ≡ Ok margins)
    (within : AreMargins margins) where
  abbrev core : CoreParts
  core = core_of query

  abbrev frame : Frame
  frame = frame_of core

  back-is : frame.back ≡ margins.back
  back-is = frame-back (domain_of core.defs) (reach (length core.inputs) core.defs) ∙ (margins-reach core margins near).0

  ahead-is : frame.ahead ≡ margins.ahead
  ahead-is = frame-ahead (domain_of core.defs) (reach (length core.inputs) core.defs) ∙ (margins-reach core margins near).1

  changes : (rows : List (List Snapshot)) → ChangesOnlyAtMarks (meaning rows core.defs (emitted_number core))
  changes rows = meaning-changes rows core.defs (definitions-AreGrids (length core.inputs) core.defs is.definitions) (emitted_number core)

  module _ (old : CutsParts) (cut : Cut) (onward : IsOnward old cut) (rows new : List (List Snapshot)) (order : AllByRecursion AreRows rows)
      (later : AllByRecursion AreRows new) (many : length rows ≡ length core.inputs) (paired : length old.each ≡ length rows)
      (low : AllByRecursion (λ each. old.least ≤ℤ each) old.each)
      (are : AreNewRows cut (kept_each (first_kept frame old.least) old.each rows) new) where
    abbrev mid : ℤ
    mid = decided frame old.least

    abbrev last : ℤ
    last = decided_by frame cut

    abbrev lo : ℤ
    lo = resumed_at frame old.least

    abbrev first : ℤ
    first = first_kept frame old.least

    abbrev all : List (List Snapshot)
    all = added rows new

    abbrev c : CheckpointParts
    c = checkpoint_at query rows old

    counted : length new ≡ length rows
    counted = new-counted cut (kept_each first old.each rows) new are ∙ length-kept_each first old.each rows paired

    -- what was decided stays
    stays : given core rows frame.start mid ≡ given core all frame.start mid
    stays =
        let ahead = ahead-is in
        given-continued core margins is near within old.least frame.start mid rows all many
        (continued first old.least old.each rows new paired low later are.late) (grind (arith, ints, clamps))

    -- what is kept is enough
    enough : given core (both c new) lo last ≡ given core all lo last
    enough =
        let back = back-is in
        ap (λ (held : List (List Snapshot)). given core (added held new) lo last) (rows-kept first old.each rows paired)
        ∙ given-kept core margins is near within first lo last rows new order many counted (grind (arith, ints, clamps))

    going-same : going_on c new cut ≡ joined_from (open_start frame mid (given core all frame.start mid)) (given core all lo last)
    going-same = λ i. joined_from (open_start frame mid (stays i)) (enough i)

    mid-on : mid ≤ℤ last
    mid-on = decided-on frame old cut onward

    last-most : last ≤ℤ frame.end
    last-most = decided-most frame cut

    pub printed-joined : emitted core all cut ≡ emitted core rows (Upto old) ++ newly c new cut
    printed-joined =
        let on = mid-on in
        let most = last-most in
        by_lt_z mid frame.end
        (λ before.
        let test : int_lt mid frame.end ≡ true = grind (arith, ints) in
        let p = parted frame (meaning all core.defs (emitted_number core)) mid last (changes all) before on in
        let is_newly : newly c new cut ≡ closed frame last (going_on c new cut) =
        ap (λ (b : Bool). if b then closed frame last (going_on c new cut) else []) test in
        p.closed_is
        ∙ (λ i. closed frame mid (sym stays i) ++ closed frame last (sym going-same i))
        ∙ ap (λ (l : List Snapshot). closed frame mid (given core rows frame.start mid) ++ l) (sym is_newly))
        (λ done.
        let test : int_lt mid frame.end ≡ false = grind (arith, ints) in
        let at : last ≡ mid = omega (arith, ints) in
        let is_none : newly c new cut ≡ [] = ap (λ (b : Bool). if b then closed frame last (going_on c new cut) else []) test in
        ap (λ (t : ℤ). closed frame t (given core all frame.start t)) at
        ∙ ap (closed frame mid) (sym stays)
        ∙ sym (append-nil (closed frame mid (given core rows frame.start mid)))
        ∙ ap (λ (l : List Snapshot). closed frame mid (given core rows frame.start mid) ++ l) (sym is_none))

    pub opens-same : open_at core all cut ≡ open_start frame last (going_on c new cut)
    opens-same =
        let on = mid-on in
        let most = last-most in
        by_lt_z mid frame.end
        (λ before.
        let p = parted frame (meaning all core.defs (emitted_number core)) mid last (changes all) before on in
        p.open_is ∙ ap (open_start frame last) (sym going-same))
        (λ done.
        let test : int_lt last frame.end ≡ false = grind (arith, ints) in
        rw test refl)

  pub left-same : (old upto : CutsParts) (rows new : List (List Snapshot)) → IsOnward old (Upto upto) → AllByRecursion AreRows rows
      → AllByRecursion AreRows new → length rows ≡ length core.inputs → length old.each ≡ length rows
      → AllByRecursion (λ each. old.least ≤ℤ each) old.each
      → AreNewRows (Upto upto) (kept_each (first_kept frame old.least) old.each rows) new
      → checkpoint_at query (added rows new) upto ≡ next (checkpoint_at query rows old) new upto
  left-same old upto rows new on order later many paired low are =
      let opens = opens-same old (Upto upto) on rows new order later many paired low are in
      let series = kept-all (first_kept frame old.least) (first_kept frame upto.least) old.each upto.each rows new
      (first-on frame old.least upto.least on.0) paired (counted old (Upto upto) on rows new order later many paired low are) in
      λ i. record { query = query; cut = upto.least; open_start = opens i; series = series i }

-- whichever rows a checkpoint is of
pub one-cut : (c : CheckpointParts) (margins : MarginsParts) (cut : Cut) (new : List (List Snapshot)) → IsCore (core_of c.query)
    → margins_of (core_of c.query) ≡ Ok margins → AreMargins margins → IsLeast c.cut (cuts_kept c.series) → IsOnward (cuts_of c) cut
    → AllByRecursion AreRows new → AreNewRows cut c.series new → IsOneCut c new cut
one-cut c margins cut new is near within least onward later are = record {
  printed = λ rows of.
      let are_new = subst (λ (d : CheckpointParts). AreNewRows cut d.series new) of.is are in
      let paired = early-counted (cuts_kept c.series) rows of.first.early in
      subst (λ (d : CheckpointParts). emitted (core_of c.query) (added rows new) cut ≡ emitted (core_of c.query) rows (Upto (cuts_of c)) ++ newly d new cut)
      (sym of.is) (printed-joined c.query margins is near within (cuts_of c) cut onward rows new of.in_order later of.first.counted paired least.none_below are_new);
  left = λ rows upto of by.
      let are_new = subst (λ (d : CheckpointParts). AreNewRows cut d.series new) of.is are in
      let are_upto =
      subst (λ (d : Cut). AreNewRows d (kept_each (first_kept (frame_of (core_of c.query)) c.cut) (cuts_kept c.series) rows) new) by are_new in
      let paired = early-counted (cuts_kept c.series) rows of.first.early in
      subst (λ (d : CheckpointParts). checkpoint_at c.query (added rows new) upto ≡ next d new upto) (sym of.is)
      (left-same c.query margins is near within (cuts_of c) upto rows new (subst (IsOnward (cuts_of c)) by onward) of.in_order later of.first.counted
      paired least.none_below are_upto);
}
