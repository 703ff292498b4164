-- The checkpoint of a session is valid.
use Rattle.std.proofs.Common.{◌≡◌, ℤ, ◌<ℤ◌, ◌≤ℤ◌, neg_ℤ, true, false, List, [], ◌∷◌, ◌++◌, Option, Some, None, inl, inr, refl, sym, ap, ◌∙◌, arith, subst}
use Rattle.std.specs.Prelude.{int_le, int_lt}
use Rattle.std.specs.List.{AllByRecursion}
use Rattle.std.specs.Option.{ForSome}
use Rattle.std.proofs.lemmas.Bool.{cases_Bool}
use Rattle.std.proofs.lemmas.Int.{ints, by_lt_z}
use Rattle.tilt_base.proofs.Lists.{all-append}
use Rattle.tilt_base.specs.declared.limits.TheConstants.{T}
use Rattle.tilt_stream.proofs.Order.{InOrder-append}
use Rattle.tilt_checkpoint.specs.Checkpoint.{KeptParts, cuts_kept}
use Rattle.tilt_checkpoint.specs.Cuts.{IsCut}
use Rattle.tilt_checkpoint.specs.Valid.{IsKept, IsLastEnd, IsOpen, IsSeries}
use Rattle.tilt_checkpoint.specs.declared.frame.Frame.{Frame}
use Rattle.tilt_stream.proofs.Cut.{snapshots-none}
use Rattle.tilt_stream.specs.Snap.{Snapshot, AreRows, InOrder, last_end, joined_open}
use Rattle.tilt_stream.specs.Snapshots.{snapshots}
use Rattle.tilt_stream.specs.Stream.{Stream}
use Rattle.tilt_session.proofs.Ends.{InOrder-kept, last-bounds, last-kept, no-last, none-kept}
use Rattle.tilt_stream.proofs.Joined.{LastStarts, snapshots-last}
use Rattle.tilt_session.proofs.Lists.{last_end-append}
use Rattle.tilt_session.specs.Emitted.{open_start}
use Rattle.tilt_session.specs.Handed.{AreCells}
use Rattle.tilt_session.specs.Later.{again, kept_again, last_or}
use Rattle.tilt_session.specs.Cuts.{NoneFalls}
use Rattle.tilt_session.specs.NewRows.{AreLate, IsLate, StartBefore}
use Rattle.tilt_stream.specs.Pieces.{joined_from, kept}

-- the rows that are kept reach to the first tick that is kept
are-kept : (first cut : ℤ) (xs : List Snapshot) → AllByRecursion (λ row. row.start <ℤ cut) xs → AreCells (kept first xs)
    → AllByRecursion (IsKept first cut) (kept first xs)
are-kept first cut [] early cells = tt
are-kept first cut (x ∷ xs) early cells =
    elim (cases_Bool (int_le first x.end)) [
      | inl is ↦
          let on : first ≤ℤ x.end = grind (arith, ints) in
          let all : AreCells (x ∷ kept first xs) = rw is at cells in
          rw is (record { reaches = on; before = early.0; cell = all.0 }, are-kept first cut xs early.1 all.1)
      | inr none ↦ rw none (are-kept first cut xs early.1 (rw none at cells))
    ]

-- a last end that is there where the rows have one
pub ends-where : (first cut end : ℤ) (rows last : Option ℤ) → rows ≡ Some end → IsLastEnd first cut rows last → last ≡ Some end
ends-where first cut end None last is h = absurd (cc is)
ends-where first cut end (Some e) last is h = h ∙ is

no-end : (new old : Option ℤ) → last_or new old ≡ None → (new ≡ None) × (old ≡ None)
no-end None old is = (refl, is)
no-end (Some end) old is = absurd (cc is)

-- the last end of old rows and new ones, which is known where the old one is
one-end : (first cut end : ℤ) (new old last : Option ℤ) → last_or new old ≡ Some end → IsLastEnd first cut old last
    → last_or new last ≡ Some end
one-end first cut end None old last is h = ends-where first cut end old last is h
one-end first cut end (Some e) old last is h = is

-- where no row is kept later, and none was
still-last : (first cut later upto : ℤ) (last : Option ℤ) → first ≤ℤ later → cut ≤ℤ upto → IsLastEnd first cut None last
    → IsLastEnd later upto None last
still-last first cut later upto None on late h = tt
still-last first cut later upto (Some end) on late h =
    let before = h.2 in
    let cut_low = h.3 in
    (h.0, h.1, omega (arith, ints), omega (arith, ints))

early-old : (first cut upto : ℤ) (xs : List Snapshot) → cut ≤ℤ upto → AllByRecursion (IsKept first cut) xs
    → AllByRecursion (λ row. row.start <ℤ upto) xs
early-old first cut upto [] late h = tt
early-old first cut upto (x ∷ xs) late h = (let before = h.0.before in omega (arith, ints), early-old first cut upto xs late h.1)

-- new rows come after the last end
pub new-after : (old : ℤ) (last : Option ℤ) (xs : List Snapshot) (end : ℤ) → AreRows xs → AllByRecursion (IsLate old last) xs
    → last ≡ Some end → InOrder end T xs
new-after old last [] end order late is = tt
new-after old last (x ∷ xs) end order late is = (late.0.behind end is, order.1, order.2, order.3)

module _ (first later : ℤ) (on : first ≤ℤ later) where
  module _ (k : KeptParts) (new : List Snapshot) (upto : ℤ) (range : IsCut upto) (onward : k.cut ≤ℤ upto) (is : IsSeries first k)
      (order : AreRows new) (late : AllByRecursion (IsLate k.cut k.last_end) new) (early : AllByRecursion (λ row. row.start <ℤ upto) new) where
    abbrev all : List Snapshot
    all = k.rows ++ new

    all-in_order : AreRows all
    all-in_order =
        InOrder-append (neg_ℤ T) T k.rows new is.in_order order
        (λ end ends. new-after k.cut k.last_end new end order late (ends-where first k.cut end (last_end k.rows) k.last_end ends is.last))

    all-early : AllByRecursion (λ row. row.start <ℤ upto) all
    all-early = all-append (λ row. row.start <ℤ upto) k.rows new (early-old first k.cut upto k.rows onward is.rows) early

    last-by : (o : Option ℤ) → last_end all ≡ o → IsLastEnd later upto (last_end (kept later all)) (last_or (last_end new) k.last_end)
    last-by None none =
        let ends = no-end (last_end new) (last_end k.rows) (sym (last_end-append k.rows new) ∙ none) in
        let before = subst (λ (o : Option ℤ). IsLastEnd first k.cut o k.last_end) ends.1 is.last in
        let nothing : last_end (kept later all) ≡ None = ap (λ (xs : List Snapshot). last_end (kept later xs)) (no-last all none) in
        rw (nothing, ends.0) (still-last first k.cut later upto k.last_end on onward before)
    last-by (Some end) some =
        let e : last_or (last_end new) k.last_end ≡ Some end =
        one-end first k.cut end (last_end new) (last_end k.rows) k.last_end (sym (last_end-append k.rows new) ∙ some) is.last in
        let bounds = last-bounds (neg_ℤ T) T upto all end all-in_order all-early some in
        by_lt_z end later
        (λ before. rw (e, none-kept later (neg_ℤ T) T all end all-in_order some before) (bounds.0, bounds.1, before, bounds.2))
        (λ reaches. rw (e, last-kept later (neg_ℤ T) T all end all-in_order some reaches) refl)

    pub series-again : AreCells (kept later all) → IsSeries later (again later upto k new)
    series-again cells = record {
      cut = range;
      in_order = InOrder-kept later (neg_ℤ T) T all all-in_order;
      rows = are-kept later upto all all-early cells;
      last = last-by (last_end all) refl;
    }

  -- and of each input, each with its own cut
  pub all-series : (cuts : List ℤ) (series : List KeptParts) (new : List (List Snapshot)) → AllByRecursion IsCut cuts
      → NoneFalls (cuts_kept series) cuts → AllByRecursion (IsSeries first) series → AllByRecursion AreRows new
      → AreLate series new → StartBefore cuts new → AllByRecursion (λ k. AreCells k.rows) (kept_again later cuts series new)
      → AllByRecursion (IsSeries later) (kept_again later cuts series new)
  all-series [] series new range onward is order late early cells = tt
  all-series (cut ∷ cuts) [] new range onward is order late early cells = tt
  all-series (cut ∷ cuts) (k ∷ series) [] range onward is order late early cells = tt
  all-series (cut ∷ cuts) (k ∷ series) (n ∷ new) range onward is order late early cells = (
    series-again k n cut range.0 onward.0 is.0 order.0 late.0 early.0 cells.0,
    all-series cuts series new range.1 onward.1 is.1 order.1 late.1 early.1 cells.1,
  )

-- where snapshots go on from an earlier start, the last one starts within
joined-last : (from low last start : ℤ) (list : List Snapshot) → from ≤ℤ low → LastStarts low last list → from ≤ℤ start → start <ℤ last
    → LastStarts from last (joined_open start list)
joined-last from low last start [] under h within before = absurd (let is = h.is in cc)
joined-last from low last start (s ∷ []) under h within before = record { start = start; is = refl; low = within; high = before }
joined-last from low last start (s ∷ next ∷ ss) under h within before =
    let lower = h.low in
    record { start = h.start; is = h.is; low = omega (arith, ints); high = h.high }

-- a start lies in what is decided
abbrev pub StartsIn : ℤ → ℤ → Option ℤ → Type 0
StartsIn from last o = ForSome o (λ start. (from ≤ℤ start) × (start <ℤ last))

from-last : (from low last : ℤ) (o : Option ℤ) (list : List Snapshot) → from ≤ℤ low → LastStarts low last list → StartsIn from last o
    → LastStarts from last (joined_from o list)
from-last from low last None list under h within =
    let lower = h.low in
    record { start = h.start; is = h.is; low = omega (arith, ints); high = h.high }
from-last from low last (Some start) list under h within = let w = within start refl in joined-last from low last start list under h w.0 w.1

joined-none : (o : Option ℤ) → joined_from o [] ≡ []
joined-none None = refl
joined-none (Some start) = refl

-- the snapshot that is open after some snapshots of a stream
pub is-open : (frame : Frame) (x : Stream) (lo last : ℤ) (o : Option ℤ) → frame.start ≤ℤ lo → (frame.start <ℤ last → lo <ℤ last)
    → StartsIn frame.start last o
    → IsOpen frame last (open_start frame last (joined_from o (snapshots x lo last)))
is-open frame x lo last o under goes within =
    by_lt_z last frame.end
    (λ before.
    let test : int_lt last frame.end ≡ true = grind (arith, ints) in
    by_lt_z frame.start last
    (λ some.
    let h = from-last frame.start lo last o (snapshots x lo last) under (snapshots-last x lo last (goes some)) within in
    rw (test, h.is) ((some, before), h.low, h.high))
    (λ none.
    rw (test, snapshots-none x lo last (omega (arith, ints)), joined-none o) (λ amid. let a = amid.0 in absurd (omega (arith, ints)))))
    (λ done.
    let test : int_lt last frame.end ≡ false = grind (arith, ints) in
    rw test (λ amid. let a = amid.1 in absurd (omega (arith, ints))))
