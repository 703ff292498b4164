-- The checkpoints of sessions are valid, and what sessions go on by.
use Rattle.std.proofs.Common.{◌≡◌, ℕ, zero, suc, FitsSigned, of_z, to_z, w64, ℤ, pos, negsuc, neg_ℤ, ◌+ℤ◌, ◌-ℤ◌, ◌<ℤ◌, ◌≤ℤ◌, true, false, List, [], ◌∷◌, length, map, slice_get, Option, Some, None}
use Rattle.std.proofs.Common.{Ok, inl, inr, refl, sym, ap, ◌∙◌, arith, subst}
use Rattle.std.specs.Prelude.{int_lt}
use Rattle.std.specs.Int.{int_gap, int_max}
use Rattle.std.specs.List.{AllByRecursion}
use Rattle.std.specs.Option.{ForSome}
use Rattle.std.proofs.lemmas.Bool.{cases_Bool}
use Rattle.std.proofs.lemmas.Int.{ints, clamps, to_z-of_z}
use Rattle.std.proofs.lemmas.List.{length-map}
use Rattle.tilt_base.specs.declared.limits.TheConstants.{T, WIDE}
use Rattle.tilt_bounds.specs.Margins.{MarginsParts, margins_of}
use Rattle.tilt_checkpoint.specs.Checkpoint.{KeptParts, CheckpointParts, cuts_of}
use Rattle.tilt_checkpoint.specs.Cuts.{AreCuts, CutsParts, IsCut, IsLeast}
use Rattle.tilt_checkpoint.specs.Decided.{IsFrame, decided, first_kept, frame_of, frame_with}
use Rattle.tilt_checkpoint.specs.Valid.{IsAccepted, IsCheckpoint, IsOpen, IsSeries}
use Rattle.tilt_checkpoint.specs.declared.frame.Frame.{Frame}
use Rattle.tilt_stream.specs.Snap.{InOrder, Snapshot, AreRows, last_end}
use Rattle.tilt_stream.specs.Snapshots.{cut_behind, snapshots, snapshots_from}
use Rattle.tilt_stream.specs.Stream.{Stream}
use Rattle.tilt_syntax.specs.Query.{IsQuery}
use Rattle.tilt_syntax.specs.Tree.{StatementTree}
use Rattle.tilt_types.proofs.CheckedCore.{checked-core}
use Rattle.tilt_types.specs.Checked.{checked, core_of}
use Rattle.tilt_base.specs.declared.span.Span.{Span}
use Rattle.tilt_core.specs.Core.{CoreParts, domain_of, emitted_number}
use Rattle.tilt_core.specs.Needs.{reach}
use Rattle.tilt_core.specs.Meaning.{meaning}
use Rattle.tilt_session.proofs.Lists.{cuts-again, cuts-each, early-counted, kept_at-again, kept_at-first, last_or-none, length-added, length-kept_again}
use Rattle.tilt_session.proofs.Lists.{length-kept_each, new-counted, rows-taken_up, rows_of}
use Rattle.tilt_session.proofs.OneCut.{decided-most, decided-on, first-on}
use Rattle.tilt_session.proofs.Valid.{StartsIn, all-series, ends-where, is-open, series-again}
use Rattle.tilt_session.specs.Cuts.{IsInRange, IsOnward, decided_by}
use Rattle.tilt_session.specs.Emitted.{closed, open_at, open_start}
use Rattle.tilt_compiler.specs.Compiled.{given}
use Rattle.tilt_session.specs.Handed.{AreAfter, AreCells, all_taken_up, closed_after, kept_at}
use Rattle.tilt_session.specs.Kept.{checkpoint_at, kept_each}
use Rattle.tilt_session.specs.Later.{both, going_on, kept_again, newly, next, resumed_at}
use Rattle.tilt_session.specs.NewRows.{AreFirstRows, AreLate, AreNewRows, IsLate, StartBefore}
use Rattle.tilt_stream.specs.Pieces.{joined_from, kept}
use Rattle.tilt_session.specs.declared.cut.Cut.{Cut}
use Rattle.tilt_session.specs.declared.cut.Cut.TheVariants.{Upto}

pub accepted : (query : List StatementTree) (core : CoreParts) (margins : MarginsParts) → IsQuery query → checked query ≡ Ok core
    → margins_of core ≡ Ok margins → IsAccepted query
accepted query core margins parsed e near =
    let same = checked-core query core e in
    record {
      parsed = parsed;
      well_formed = e ∙ ap (λ (made : CoreParts). Ok made) (sym same);
      margins = margins;
      near = ap margins_of same ∙ near;
    }

-- rows of a first session are new ones after no others
first-late : (rows : List Snapshot) (from : ℤ) → neg_ℤ T ≤ℤ from → InOrder from T rows → AllByRecursion (IsLate (neg_ℤ T) None) rows
first-late [] from low order = tt
first-late (r ∷ rows) from low order =
    let start = order.0 in
    let width = order.1 in
    (record { late = omega (arith, ints); behind = λ end is. absurd (cc is) }, first-late rows r.end (omega (arith, ints)) order.3)

first-kept : (first : ℤ) (cuts : List ℤ) (rows : List (List Snapshot)) → AllByRecursion IsCut cuts → AllByRecursion AreRows rows
    → StartBefore cuts rows → AllByRecursion (λ k. AreCells k.rows) (kept_each first cuts rows)
    → AllByRecursion (IsSeries first) (kept_each first cuts rows)
first-kept first [] rows range order early cells = tt
first-kept first (cut ∷ cuts) [] range order early cells = tt
first-kept first (cut ∷ cuts) (r ∷ rows) range order early cells =
    let low = range.0.0 in
    let high = range.0.1 in
    let none : KeptParts = record { cut = neg_ℤ T; last_end = None; rows = [] } in
    let one = series-again first first (omega (arith, ints)) none r cut range.0 low
    (record { cut = (omega (arith, ints), omega (arith, ints)); in_order = tt; rows = tt; last = tt }) order.0
    (first-late r (neg_ℤ T) (omega (arith, ints)) order.0) early.0 cells.0 in (
      subst (λ (o : Option ℤ). IsSeries first (record { cut = cut; last_end = o; rows = kept first r })) (last_or-none (last_end r)) one,
      first-kept first cuts rows range.1 order.1 early.1 cells.1,
    )

-- the cuts of a first session's checkpoint are those where it ends
pub cuts-left : (query : List StatementTree) (rows : List (List Snapshot)) (upto : CutsParts) → AreFirstRows (core_of query) (Upto upto) rows
    → cuts_of (checkpoint_at query rows upto) ≡ upto
cuts-left query rows upto first =
    let frame = frame_of (core_of query) in
    ap (λ (each : List ℤ). record { least = upto.least; each = each })
    (cuts-each (first_kept frame upto.least) upto.each rows (early-counted upto.each rows first.early))

-- the checkpoint of a first session
pub first-valid : (query : List StatementTree) (rows : List (List Snapshot)) (upto : CutsParts) → IsAccepted query → AreCuts upto
    → IsFrame (frame_of (core_of query))
    → AreFirstRows (core_of query) (Upto upto) rows → AllByRecursion AreRows rows
    → AllByRecursion (λ k. AreCells k.rows) (kept_each (first_kept (frame_of (core_of query)) upto.least) upto.each rows)
    → IsCheckpoint (checkpoint_at query rows upto)
first-valid query rows upto is cuts framed first order cells =
    let core = core_of query in
    let frame = frame_of core in
    let paired = early-counted upto.each rows first.early in
    record {
      query = is;
      cut = cuts.range;
      opened = is-open frame (meaning rows core.defs (emitted_number core)) frame.start (decided frame upto.least) None (omega (arith, ints)) (λ some. some) (λ start is. absurd (cc is));
      counted = length-kept_each (first_kept frame upto.least) upto.each rows paired ∙ first.counted;
      series = first-kept (first_kept frame upto.least) upto.each rows cuts.each order first.early cells;
      least = subst (IsLeast upto.least) (sym (cuts-each (first_kept frame upto.least) upto.each rows paired)) cuts.least;
    }

-- an open snapshot starts in what is decided, and in what is decided later
pub starts-in : (frame : Frame) (mid last : ℤ) (o : Option ℤ) → mid ≤ℤ last → IsOpen frame mid o → StartsIn frame.start last o
starts-in frame mid last None on h = λ start is. absurd (cc is)
starts-in frame mid last (Some begun) on h = λ start is.
    let same : start ≡ begun = cc in
    let low = h.1 in
    let high = h.2 in
    (omega (arith, ints), omega (arith, ints))

-- a session goes on within the output
pub resumed-low : (frame : Frame) (old : ℤ) → frame.start ≤ℤ resumed_at frame old
resumed-low frame old = grind (arith, ints, clamps)

resumed-high : (frame : Frame) (old last : ℤ) → decided frame old ≤ℤ last → frame.start <ℤ last → resumed_at frame old <ℤ last
resumed-high frame old last on some = grind (arith, ints, clamps)

-- the checkpoint of a later session
pub next-valid : (c : CheckpointParts) (new : List (List Snapshot)) (upto : CutsParts) → IsCheckpoint c → AreCuts upto
    → IsOnward (cuts_of c) (Upto upto) → IsFrame (frame_of (core_of c.query))
    → AreNewRows (Upto upto) c.series new → AllByRecursion AreRows new
    → AllByRecursion (λ k. AreCells k.rows) (kept_again (first_kept (frame_of (core_of c.query)) upto.least) upto.each c.series new)
    → IsCheckpoint (next c new upto)
next-valid c new upto is cuts on framed are order cells =
    let core = core_of c.query in
    let frame = frame_of core in
    let on_decided = decided-on frame (cuts_of c) (Upto upto) on in
    let many = new-counted (Upto upto) c.series new are in
    let paired = early-counted upto.each new are.early ∙ many in
    record {
      query = is.query;
      cut = cuts.range;
      opened = is-open frame (meaning (both c new) core.defs (emitted_number core)) (resumed_at frame c.cut) (decided frame upto.least) c.open_start (resumed-low frame c.cut)
          (resumed-high frame c.cut (decided frame upto.least) on_decided)
          (starts-in frame (decided frame c.cut) (decided frame upto.least) c.open_start on_decided is.opened);
      counted = length-kept_again (first_kept frame upto.least) upto.each c.series new paired many ∙ is.counted;
      series = all-series (first_kept frame c.cut) (first_kept frame upto.least) (first-on frame c.cut upto.least on.0) upto.each c.series new
          cuts.each on.1 is.series order are.late are.early cells;
      least = subst (IsLeast upto.least) (sym (cuts-again (first_kept frame upto.least) upto.each c.series new paired many)) cuts.least;
    }

-- the first snapshot of a stretch starts where it does
cut_behind-first : (x : Stream) (start tick : ℤ) (more : ℕ) (s : Snapshot) → slice_get (cut_behind x start tick more) 0 ≡ Some s
    → s.start ≡ start
cut_behind-first x start tick zero s is = let e = ap (λ (o : Option Snapshot). o) is in cc
cut_behind-first x start tick (suc more) s is =
    elim (cases_Bool (x.mark (tick +ℤ pos 1))) [
      | inl marked ↦ (let e = rw marked at is in cc)
      | inr none ↦ cut_behind-first x start (tick +ℤ pos 1) more s (rw none at is)
    ]

snapshots_from-first : (x : Stream) (start : ℤ) (more : ℕ) (s : Snapshot) → slice_get (snapshots_from x start more) 0 ≡ Some s
    → s.start ≡ start
snapshots_from-first x start zero s is = absurd (cc is)
snapshots_from-first x start (suc more) s is = cut_behind-first x start (start +ℤ pos 1) more s is

pub snapshots-start : (x : Stream) (lo hi : ℤ) (s : Snapshot) → slice_get (snapshots x lo hi) 0 ≡ Some s → s.start ≡ lo
snapshots-start x lo hi s is = snapshots_from-first x lo (int_gap lo hi) s is

-- new rows come after those that are kept
rows-after : (old end : ℤ) (last : Option ℤ) (rows : List Snapshot) → AllByRecursion (IsLate old last) rows → last ≡ Some end
    → AllByRecursion (λ row. end ≤ℤ row.start) rows
rows-after old end last [] late is = tt
rows-after old end last (r ∷ rows) late is = (late.0.behind end is, rows-after old end last rows late.1 is)

all-after : (first : ℤ) (series : List KeptParts) (new : List (List Snapshot)) → AllByRecursion (IsSeries first) series
    → AreLate series new → AreAfter series new
all-after first [] [] is late = tt
all-after first [] (n ∷ new) is late = late
all-after first (k ∷ series) [] is late = late
all-after first (k ∷ series) (n ∷ new) is late = (
  λ end ends. rows-after k.cut end k.last_end n late.0 (ends-where first k.cut end (last_end k.rows) k.last_end ends is.0.last),
  all-after first series new is.1 late.1,
)

pub are-after : (first : ℤ) (cut : Cut) (series : List KeptParts) (new : List (List Snapshot)) → AllByRecursion (IsSeries first) series
    → AreNewRows cut series new → AreAfter series new
are-after first cut series new is are = all-after first series new is are.late

-- what a first session leaves is the checkpoint of its rows; numbers that were passed on are the same
module _ (query : List StatementTree) (core : CoreParts) (frame : Frame) (rows known shown : List (List Snapshot)) (ends : List (Option ℤ))
    (list : List Snapshot) (begun : Option ℤ) (series : List KeptParts) (upto : CutsParts) (cuts : List ℤ) (last first to till from at : ℤ)
    (well : checked query ≡ Ok core)
    (frame_is : frame ≡ frame_of core) (ends_are : ends ≡ map last_end rows) (known_are : known ≡ rows) (shown_are : shown ≡ known)
    (cuts_are : cuts ≡ upto.each) (to_is : to ≡ upto.least) (till_is : till ≡ last) (from_is : from ≡ frame.start) (at_is : at ≡ first)
    (last_is : last ≡ decided frame to)
    (first_is : first ≡ first_kept frame to) (list_is : list ≡ given core shown from till) (begun_is : begun ≡ open_start frame till list)
    (series_are : series ≡ kept_at at cuts ends known) where
  core_is : core ≡ core_of query
  core_is = sym (checked-core query core well)

  framed : frame ≡ frame_of (core_of query)
  framed = frame_is ∙ ap frame_of core_is

  lasting : till ≡ decided (frame_of (core_of query)) upto.least
  lasting = till_is ∙ last_is ∙ (λ i. decided (framed i) (to_is i))

  firstly : at ≡ first_kept (frame_of (core_of query)) upto.least
  firstly = at_is ∙ first_is ∙ (λ i. first_kept (framed i) (to_is i))

  first-series : series ≡ kept_each (first_kept (frame_of (core_of query)) upto.least) upto.each rows
  first-series =
      series_are
      ∙ (λ i. kept_at (firstly i) (cuts_are i) (ends_are i) (known_are i))
      ∙ kept_at-first (first_kept (frame_of (core_of query)) upto.least) upto.each rows

  first-begun : begun ≡ open_at (core_of query) rows (Upto upto)
  first-begun =
      let starting : from ≡ (frame_of (core_of query)).start = from_is ∙ ap (λ (f : Frame). f.start) framed in
      let made : list ≡ given (core_of query) rows (frame_of (core_of query)).start (decided (frame_of (core_of query)) upto.least) =
      list_is ∙ (λ i. given (core_is i) ((shown_are ∙ known_are) i) (starting i) (lasting i)) in
      begun_is ∙ (λ i. open_start (framed i) (lasting i) (made i))

  pub first-left : record { query = query; cut = to; open_start = begun; series = series } ≡ checkpoint_at query rows upto
  first-left = λ i. record { query = query; cut = to_is i; open_start = first-begun i; series = first-series i }

  pub first-is : (margins : MarginsParts) → IsQuery query → margins_of core ≡ Ok margins → AreCuts upto → IsFrame frame
      → AreFirstRows core (Upto upto) rows → AllByRecursion AreRows known → AllByRecursion (λ k. AreCells k.rows) series
      → IsCheckpoint (record { query = query; cut = to; open_start = begun; series = series })
  first-is margins parsed near are is early order cells =
      subst IsCheckpoint (sym first-left)
      (first-valid query rows upto (accepted query core margins parsed well near) are (subst IsFrame framed is)
      (subst (λ (made : CoreParts). AreFirstRows made (Upto upto) rows) core_is early) (subst (AllByRecursion AreRows) known_are order)
      (subst (AllByRecursion (λ k. AreCells k.rows)) first-series cells))

-- the tick up to which the output is decided, which was passed on, is the end of the output at most
passed-most : (core : CoreParts) (frame : Frame) (cut : Cut) (last till : ℤ) → frame ≡ frame_of core
    → last ≡ decided_by frame cut → till ≡ last
    → till ≤ℤ (frame_of core).end
passed-most core frame cut last till frame_is last_is till_is =
    let e : till ≡ decided_by (frame_of core) cut = till_is ∙ last_is ∙ ap (λ (f : Frame). decided_by f cut) frame_is in
    subst (λ (t : ℤ). t ≤ℤ (frame_of core).end) (sym e) (decided-most (frame_of core) cut)

-- so a first session runs within the output domain
pub passed-within : (core : CoreParts) (frame : Frame) (cut : Cut) (from last till : ℤ) → frame ≡ frame_of core → from ≡ frame.start
    → last ≡ decided_by frame cut → till ≡ last → ForSome (domain_of core.defs) (λ domain. (domain.start ≤ℤ from) × (till ≤ℤ domain.end))
passed-within core frame cut from last till frame_is from_is last_is till_is =
    λ domain is.
    let n = reach (length core.inputs) core.defs in
    let start : from ≡ domain.start = from_is ∙ ap (λ (f : Frame). f.start) frame_is ∙ ap (λ (over : Option Span). (frame_with over n).start) is in
    let end : (frame_of core).end ≡ domain.end = ap (λ (over : Option Span). (frame_with over n).end) is in
    let most = passed-most core frame cut last till frame_is last_is till_is in
    (omega (arith, ints), omega (arith, ints))

-- there is one list for each input
rows-counted : (c : CheckpointParts) (cut : Cut) (new : List (List Snapshot)) → AreNewRows cut c.series new
    → length (both c new) ≡ length c.series
rows-counted c cut new are =
    let many : length (rows_of c.series) ≡ length c.series = length-map c.series (λ k. k.rows) in
    length-added (rows_of c.series) new (new-counted cut c.series new are ∙ sym many) ∙ many

pub both-counted : (c : CheckpointParts) (cut : Cut) (new : List (List Snapshot)) → IsCheckpoint c → AreNewRows cut c.series new
    → length (both c new) ≡ length (core_of c.query).inputs
both-counted c cut new is are = rows-counted c cut new are ∙ is.counted

-- and one cut for each
pub both-paired : (c : CheckpointParts) (cut : Cut) (new : List (List Snapshot)) (upto : CutsParts) → cut ≡ Upto upto → AreNewRows cut c.series new
    → length upto.each ≡ length (both c new)
both-paired c cut new upto is are =
    let early : StartBefore upto.each new = (subst (λ (d : Cut). AreNewRows d c.series new) is are).early in
    early-counted upto.each new early ∙ new-counted cut c.series new are ∙ sym (rows-counted c cut new are)

-- what a later session prints is what is new, and what it leaves is the next checkpoint; numbers that were passed on are the same
module _ (c : CheckpointParts) (core : CoreParts) (frame : Frame) (cut : Cut) (old last : ℤ) (new known shown : List (List Snapshot)) (ends : List (Option ℤ))
    (series : List KeptParts) (begun : Option ℤ) (core_is : core ≡ core_of c.query) (frame_is : frame ≡ frame_of core) (old_is : old ≡ c.cut)
    (last_is : last ≡ decided_by frame cut) (begun_is : begun ≡ c.open_start) (series_are : series ≡ c.series)
    (ends_are : ends ≡ map (λ k. k.last_end) (all_taken_up series new)) (known_are : known ≡ rows_of (all_taken_up series new)) (shown_are : shown ≡ known) where
  framed-later : frame ≡ frame_of (core_of c.query)
  framed-later = frame_is ∙ ap frame_of core_is

  last-later : last ≡ decided_by (frame_of (core_of c.query)) cut
  last-later = last_is ∙ ap (λ (f : Frame). decided_by f cut) framed-later

  pub shown-later : shown ≡ both c new
  shown-later = shown_are ∙ known_are ∙ ap (λ (ks : List KeptParts). rows_of (all_taken_up ks new)) series_are ∙ rows-taken_up c.series new

  abbrev going : List Snapshot
  going = joined_from begun (given core shown (resumed_at frame old) last)

  going-later : going ≡ going_on c new cut
  going-later = λ i. joined_from (begun_is i) (given (core_is i) (shown-later i) (resumed_at (framed-later i) (old_is i)) (last-later i))

  pub newly-is : (printed : List Snapshot) → printed ≡ closed_after frame old last going → printed ≡ newly c new cut
  newly-is printed is = is ∙ (λ i. closed_after (framed-later i) (old_is i) (last-later i) (going-later i))

  module _ (upto : CutsParts) (to : ℤ) (query : List StatementTree) (opened : Option ℤ) (kept : List KeptParts) (cut_is : cut ≡ Upto upto)
      (to_is : to ≡ upto.least) (query_is : query ≡ c.query) (opened_is : opened ≡ open_start frame last going)
      (kept_are : kept ≡ kept_at (first_kept frame upto.least) upto.each ends known) where
    begun-later : opened ≡ open_start (frame_of (core_of c.query)) (decided (frame_of (core_of c.query)) upto.least) (going_on c new (Upto upto))
    begun-later =
        opened_is
        ∙ (λ i. open_start (framed-later i) (last-later i) (going-later i))
        ∙ (λ i. open_start (frame_of (core_of c.query)) (decided_by (frame_of (core_of c.query)) (cut_is i)) (going_on c new (cut_is i)))

    kept-later : kept ≡ kept_again (first_kept (frame_of (core_of c.query)) upto.least) upto.each c.series new
    kept-later =
        let first = first_kept (frame_of (core_of c.query)) upto.least in
        kept_are
        ∙ (λ i. kept_at (first_kept (framed-later i) upto.least) upto.each (ends_are i) (known_are i))
        ∙ ap (λ (ks : List KeptParts). kept_at first upto.each (map (λ k. k.last_end) (all_taken_up ks new)) (rows_of (all_taken_up ks new))) series_are
        ∙ kept_at-again first upto.each c.series new

    pub later-left : record { query = query; cut = to; open_start = opened; series = kept } ≡ next c new upto
    later-left = λ i. record { query = query_is i; cut = to_is i; open_start = begun-later i; series = kept-later i }

    pub later-is : IsCheckpoint c → IsInRange cut → IsOnward (cuts_of c) cut → IsFrame frame → AreNewRows cut c.series new
        → AllByRecursion AreRows new
        → AllByRecursion (λ k. AreCells k.rows) kept
        → IsCheckpoint (record { query = query; cut = to; open_start = opened; series = kept })
    later-is is range on framed are order cells =
        subst IsCheckpoint (sym later-left)
        (next-valid c new upto is (subst IsInRange cut_is range) (subst (IsOnward (cuts_of c)) cut_is on) (subst IsFrame framed-later framed)
        (subst (λ (d : Cut). AreNewRows d c.series new) cut_is are) order (subst (AllByRecursion (λ k. AreCells k.rows)) kept-later cells))

-- the snapshot that a session goes on from is open; numbers that were passed on are the same
pub open-passed : (c : CheckpointParts) (core : CoreParts) (frame : Frame) (old : ℤ) (begun : Option ℤ) → core ≡ core_of c.query
    → frame ≡ frame_of core → old ≡ c.cut → begun ≡ c.open_start → IsCheckpoint c → IsOpen frame (decided frame old) begun
open-passed c core frame old begun core_is frame_is old_is begun_is is =
    let same : frame_of (core_of c.query) ≡ frame = sym (frame_is ∙ ap frame_of core_is) in
    subst (λ (f : Frame). IsOpen f (decided f old) begun) same
    (subst (λ (t : ℤ). IsOpen (frame_of (core_of c.query)) (decided (frame_of (core_of c.query)) t) begun) (sym old_is)
    (subst (λ (o : Option ℤ). IsOpen (frame_of (core_of c.query)) (decided (frame_of (core_of c.query)) c.cut) o) (sym begun_is) is.opened))

-- nothing is new where all of the output was decided
pub after-none : (frame : Frame) (cut last : ℤ) (list : List Snapshot) → frame.end ≤ℤ decided frame cut
    → closed_after frame cut last list ≡ []
after-none frame cut last list done =
    let test : int_lt (decided frame cut) frame.end ≡ false = grind (arith, ints) in
    rw test refl

pub open-none : (frame : Frame) (cut last : ℤ) (list : List Snapshot) → frame.end ≤ℤ decided frame cut → decided frame cut ≤ℤ last
    → open_start frame last list ≡ None
open-none frame cut last list done on =
    let test : int_lt last frame.end ≡ false = grind (arith, ints) in
    rw test refl

pub after-some : (frame : Frame) (cut last : ℤ) (list : List Snapshot) → decided frame cut <ℤ frame.end
    → closed_after frame cut last list ≡ closed frame last list
after-some frame cut last list before =
    let test : int_lt (decided frame cut) frame.end ≡ true = grind (arith, ints) in
    rw test refl

-- a snapshot that is open begins within the widest times
pub begun-low : (frame : Frame) (done start : ℤ) (o : Option ℤ) → IsFrame frame → IsOpen frame done o → o ≡ Some start → neg_ℤ WIDE ≤ℤ start
begun-low frame done start None is h e = absurd (cc e)
begun-low frame done start (Some begun) is h e =
    let same : begun ≡ start = cc e in
    let low = is.low in
    let behind = h.1 in
    omega (arith, ints)

-- an open snapshot starts where a session goes on, or before that
pub begun-earlier : (frame : Frame) (cut start : ℤ) (o : Option ℤ) → IsOpen frame (decided frame cut) o → o ≡ Some start
    → start ≤ℤ resumed_at frame cut
begun-earlier frame cut start None h is = absurd (cc is)
begun-earlier frame cut start (Some begun) h is =
    let same : start ≡ begun = cc in
    let high = h.2 in
    let after : (decided frame cut -ℤ pos 1) ≤ℤ resumed_at frame cut = grind (arith, ints, clamps) in
    omega (arith, ints)

-- what is decided isn't far below the range of times
pub decided-low : (frame : Frame) (cut : ℤ) → IsFrame frame → IsCut cut
    → (neg_ℤ WIDE ≤ℤ decided frame cut) × (decided frame cut ≤ℤ WIDE)
decided-low frame cut is within =
    let a = is.low in
    let b = is.some_ticks in
    let d = is.high in
    let e = is.ahead_low in
    let f = is.ahead_high in
    let g = within.0 in
    let h = within.1 in
    (grind (arith, ints, clamps), grind (arith, ints, clamps))

pub wide_fits : (t : ℤ) → (neg_ℤ WIDE -ℤ pos 1) ≤ℤ t → t ≤ℤ WIDE → FitsSigned w64 t
wide_fits (pos n) low high = record { sfits = omega (arith, ints) }
wide_fits (negsuc n) low high = record { sfits = omega (arith, ints) }

-- the greater of two numbers that were passed on
pub passed-max : (start mid from : ℤ) → FitsSigned w64 start → FitsSigned w64 mid → (neg_ℤ WIDE ≤ℤ mid) × (mid ≤ℤ WIDE)
    → from ≡ int_max (to_z w64 (of_z w64 start)) (to_z w64 (of_z w64 (to_z w64 (of_z w64 mid) -ℤ pos 1)))
    → from ≡ int_max start (mid -ℤ pos 1)
passed-max start mid from start_fits mid_fits bounds is =
    let low = bounds.0 in
    let high = bounds.1 in
    let same = to_z-of_z w64 mid mid_fits in
    let less : FitsSigned w64 (to_z w64 (of_z w64 mid) -ℤ pos 1) = rw same (wide_fits (mid -ℤ pos 1) (omega (arith, ints)) (omega (arith, ints))) in
    is ∙ (λ i. int_max (to_z-of_z w64 start start_fits i) ((to_z-of_z w64 (to_z w64 (of_z w64 mid) -ℤ pos 1) less ∙ ap (λ (t : ℤ). t -ℤ pos 1) same) i))

-- how a session goes on; numbers that were passed on are the same
module _ (core : CoreParts) (frame : Frame) (rows : List (List Snapshot)) (begun : Option ℤ) (list joined : List Snapshot) (cut last mid from at till : ℤ)
    (mid_is : mid ≡ decided frame cut) (from_is : from ≡ int_max frame.start (mid -ℤ pos 1)) (at_is : at ≡ from) (till_is : till ≡ last)
    (list_is : list ≡ given core rows at till) where
  list-from : list ≡ given core rows (resumed_at frame cut) last
  list-from =
      let e : at ≡ resumed_at frame cut = at_is ∙ from_is ∙ ap (λ (t : ℤ). int_max frame.start (t -ℤ pos 1)) mid_is in
      list_is ∙ (λ i. given core rows (e i) (till_is i))

  pub went-printed : joined ≡ joined_from begun list → mid <ℤ frame.end
      → closed frame till joined ≡ closed_after frame cut last (joined_from begun (given core rows (resumed_at frame cut) last))
  went-printed is before =
      let going = joined_from begun (given core rows (resumed_at frame cut) last) in
      let e : joined ≡ going = is ∙ ap (joined_from begun) list-from in
      (λ i. closed frame (till_is i) (e i)) ∙ sym (after-some frame cut last going (subst (λ (t : ℤ). t <ℤ frame.end) mid_is before))

  pub went-begun : joined ≡ joined_from begun list
      → open_start frame till joined ≡ open_start frame last (joined_from begun (given core rows (resumed_at frame cut) last))
  went-begun is = λ i. open_start frame (till_is i) ((is ∙ ap (joined_from begun) list-from) i)

  pub went-earlier : IsOpen frame (decided frame cut) begun → (start : ℤ) → begun ≡ Some start → (s : Snapshot)
      → slice_get list 0 ≡ Some s → start ≤ℤ s.start
  went-earlier h start is s first =
      let low = begun-earlier frame cut start begun h is in
      let e : s.start ≡ resumed_at frame cut =
      snapshots-start (meaning rows core.defs (emitted_number core)) (resumed_at frame cut) last s (sym (ap (λ (l : List Snapshot). slice_get l 0) list-from) ∙ first) in
      subst (λ (t : ℤ). start ≤ℤ t) (sym e) low
