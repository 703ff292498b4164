-- Snapshots of a stretch that take the place of those of another stream, which is the same on both sides of it.
use Rattle.std.proofs.Common.{◌≡◌, ◌⊎◌, ℕ, zero, suc, ◌<◌, ℤ, pos, ◌+ℤ◌, ◌-ℤ◌, ◌<ℤ◌, ◌≤ℤ◌, int_lt, true, false, List, [], ◌∷◌, ◌++◌, length, take, drop}
use Rattle.std.proofs.Common.{Some, slice_get, inl, inr, refl, sym, ap, ◌∙◌, subst, append_assoc, arith}
use Rattle.std.proofs.lemmas.Bool.{cases_Bool}
use Rattle.std.proofs.lemmas.Int.{ints}
use Rattle.std.proofs.lemmas.Option.{slice_get_within}
use Rattle.std.specs.List.{splice}
use Rattle.std.specs.Int.{int_gap}
use Rattle.tilt_base.proofs.Lists.{same_found}
use Rattle.tilt_fix.specs.Replaced.{ended_at, stretched}
use Rattle.tilt_stream.proofs.Cut.{int_gap_is}
use Rattle.tilt_stream.proofs.Filling.{snapshots-Fill, Fill-up}
use Rattle.tilt_stream.proofs.Joined.{snapshots-parted, snapshots-last}
use Rattle.tilt_stream.proofs.Snapped.{snapshots-agree}
use Rattle.tilt_stream.specs.Agreement.{Agree, ChangesOnlyAtMarks}
use Rattle.tilt_stream.specs.Pieces.{without_last, last_start, joined_from}
use Rattle.tilt_stream.specs.Snap.{Snapshot, Fill, ended_below, joined_open}
use Rattle.tilt_stream.specs.Snapshots.{cut_behind, snapshots}
use Rattle.tilt_stream.specs.Stream.{Stream}

-- the first one starts at a tick, has the cell of the next tick, and ends at another tick or later
record Begins (x : Stream) (start tick : ℤ) (list : List Snapshot) : Type 0 where
  pub end : ℤ
  pub rest : List Snapshot
  pub is : list ≡ record { start = start; end = end; value = x.cell (start +ℤ pos 1) } ∷ rest
  pub reaches : tick ≤ℤ end

cut_behind-begins : (x : Stream) (start first tick : ℤ) (more : ℕ) → first ≤ℤ tick → Begins x start first (cut_behind x start tick more)
cut_behind-begins x start first tick zero low = record { end = tick; rest = []; is = refl; reaches = low }
cut_behind-begins x start first tick (suc more) low =
    elim (cases_Bool (x.mark (tick +ℤ pos 1))) [
      | inl is ↦ rw is (record { end = tick; rest = cut_behind x tick (tick +ℤ pos 1) more; is = refl; reaches = low })
      | inr none ↦ rw none (cut_behind-begins x start first (tick +ℤ pos 1) more (omega (arith, ints)))
    ]

snapshots-begin : (x : Stream) (lo hi : ℤ) → lo <ℤ hi → Begins x lo (lo +ℤ pos 1) (snapshots x lo hi)
snapshots-begin x lo hi some =
    let n = int_gap (lo +ℤ pos 1) hi in
    let e1 = int_gap_is lo hi (omega (arith, ints)) in
    let e2 = int_gap_is (lo +ℤ pos 1) hi (omega (arith, ints)) in
    let all : int_gap lo hi ≡ suc n = omega (arith, ints) in
    rw all (cut_behind-begins x lo (lo +ℤ pos 1) (lo +ℤ pos 1) n (omega (arith, ints)))

-- what is in a stretch that is filled starts in it
Fill-starts : (lo hi : ℤ) (before after : List Snapshot) (s : Snapshot) → Fill lo hi (before ++ s ∷ after) → lo ≤ℤ s.start
Fill-starts lo hi [] after s h = omega (arith, ints)
Fill-starts lo hi (b ∷ before) after s h =
    let rest = Fill-starts b.end hi before after s h.2 in
    omega (arith, ints)

Fill-ends : (lo hi : ℤ) (before after : List Snapshot) (s : Snapshot) → Fill lo hi (before ++ s ∷ after) → s.end ≤ℤ hi
Fill-ends lo hi [] after s h = Fill-up s.end hi after h.2
Fill-ends lo hi (b ∷ before) after s h = Fill-ends b.end hi before after s h.2

Fill-none : (lo hi tick : ℤ) (list : List Snapshot) → Fill lo hi list → tick ≤ℤ lo → ended_below tick list ≡ 0
Fill-none lo hi tick [] h low = refl
Fill-none lo hi tick (s ∷ ss) h low =
    let out : int_lt s.end tick ≡ false = grind (arith, ints) in
    rw out (Fill-none s.end hi tick ss h.2 (omega (arith, ints)))

-- those before the one that covers a tick end below it, and no others
counted : (lo hi tick : ℤ) (before after : List Snapshot) (s : Snapshot) → Fill lo hi (before ++ s ∷ after) → s.start <ℤ tick → tick ≤ℤ s.end
    → ended_below tick (before ++ s ∷ after) ≡ length before
counted lo hi tick [] after s h begun reaches =
    let out : int_lt s.end tick ≡ false = grind (arith, ints) in
    rw out (Fill-none s.end hi tick after h.2 reaches)
counted lo hi tick (b ∷ before) after s h begun reaches =
    let starts = Fill-starts b.end hi before after s h.2 in
    let out : int_lt b.end tick ≡ true = grind (arith, ints) in
    rw out (ap suc (counted b.end hi tick before after s h.2 begun reaches))

-- reading, taking and dropping at the place of one that is between others
read_between : (before after : List Snapshot) (s : Snapshot) → slice_get (before ++ s ∷ after) (length before) ≡ Some s
read_between [] after s = refl
read_between (b ∷ before) after s = read_between before after s

take_between : (before after : List Snapshot) (s : Snapshot) → take (length before) (before ++ s ∷ after) ≡ before
take_between [] after s = refl
take_between (b ∷ before) after s = ap (λ (l : List Snapshot). b ∷ l) (take_between before after s)

drop_between : (before after : List Snapshot) (s : Snapshot) → drop (suc (length before)) (before ++ s ∷ after) ≡ after
drop_between [] after s = refl
drop_between (b ∷ before) after s = drop_between before after s

-- a list taken apart at the place of the one that covers a tick
record IsPartedAt (lo hi tick : ℤ) (before after : List Snapshot) (s : Snapshot) (list : List Snapshot) : Type 0 where
  pub found : slice_get list (ended_below tick list) ≡ Some s
  pub before_is : take (ended_below tick list) list ≡ before
  pub after_is : drop (suc (ended_below tick list)) list ≡ after
  pub low : lo ≤ℤ s.start
  pub begun : s.start <ℤ tick
  pub reaches : tick ≤ℤ s.end
  pub high : s.end ≤ℤ hi

parted_at : (lo hi tick : ℤ) (before after : List Snapshot) (s : Snapshot) (list : List Snapshot) → Fill lo hi list → list ≡ before ++ s ∷ after
    → s.start <ℤ tick → tick ≤ℤ s.end → IsPartedAt lo hi tick before after s list
parted_at lo hi tick before after s list fills is begun reaches =
    let h : Fill lo hi (before ++ s ∷ after) = subst (Fill lo hi) is fills in
    let count = counted lo hi tick before after s h begun reaches in
    subst (IsPartedAt lo hi tick before after s) (sym is) (record {
      found = rw count (read_between before after s);
      before_is = rw count (take_between before after s);
      after_is = rw count (drop_between before after s);
      low = Fill-starts lo hi before after s h;
      begun = begun;
      reaches = reaches;
      high = Fill-ends lo hi before after s h;
    })

-- the snapshots of a stream, taken apart at the one that covers a tick: those before it, where it starts, where it ends and those after it
record PartsOf (x : Stream) (lo mid hi : ℤ) : Type 0 where
  pub start : ℤ
  pub end : ℤ
  pub rest : List Snapshot
  pub start_is : last_start (snapshots x lo mid) ≡ Some start
  pub rest_is : snapshots x (mid -ℤ pos 1) hi ≡ record { start = mid -ℤ pos 1; end = end; value = x.cell mid } ∷ rest
  pub all_is : snapshots x lo hi ≡ without_last (snapshots x lo mid) ++ record { start = start; end = end; value = x.cell mid } ∷ rest
  pub begun : start <ℤ mid
  pub reaches : mid ≤ℤ end

parts_of : (x : Stream) (lo mid hi : ℤ) → ChangesOnlyAtMarks x → lo <ℤ mid → mid ≤ℤ hi → PartsOf x lo mid hi
parts_of x lo mid hi h low high =
    let last = snapshots-last x lo mid low in
    let first = snapshots-begin x (mid -ℤ pos 1) hi (omega (arith, ints)) in
    let at : mid -ℤ pos 1 +ℤ pos 1 ≡ mid = omega (arith, ints) in
    let more : snapshots x (mid -ℤ pos 1) hi ≡ record { start = mid -ℤ pos 1; end = first.end; value = x.cell mid } ∷ first.rest =
    first.is ∙ ap (λ (t : ℤ). record { start = mid -ℤ pos 1; end = first.end; value = x.cell t } ∷ first.rest) at in
    let reach = first.reaches in
    record {
      start = last.start;
      end = first.end;
      rest = first.rest;
      start_is = last.is;
      rest_is = more;
      all_is = snapshots-parted x h lo mid hi low high ∙ (λ i. without_last (snapshots x lo mid) ++ joined_from (last.is i) (more i));
      begun = last.high;
      reaches = omega (arith, ints);
    }

-- the one that covers a tick of the stretch is found at its place
pub record IsFound (lo hi tick : ℤ) (list : List Snapshot) : Type 0 where
  pub at : Snapshot
  pub is : slice_get list (ended_below tick list) ≡ Some at
  pub within : ended_below tick list < length list
  pub low : lo ≤ℤ at.start
  pub begun : at.start <ℤ tick
  pub reaches : tick ≤ℤ at.end
  pub high : at.end ≤ℤ hi

parted : (x : Stream) (lo mid hi : ℤ) → lo <ℤ hi → (p : PartsOf x lo mid hi)
    → IsPartedAt lo hi mid (without_last (snapshots x lo mid)) p.rest (record { start = p.start; end = p.end; value = x.cell mid }) (snapshots x lo hi)
parted x lo mid hi some p =
    parted_at lo hi mid (without_last (snapshots x lo mid)) p.rest (record { start = p.start; end = p.end; value = x.cell mid }) (snapshots x lo hi)
    (snapshots-Fill x lo hi some) p.all_is p.begun p.reaches

pub found : (x : Stream) (lo mid hi : ℤ) → ChangesOnlyAtMarks x → lo <ℤ mid → mid ≤ℤ hi → IsFound lo hi mid (snapshots x lo hi)
found x lo mid hi h low high =
    let q = parts_of x lo mid hi h low high in
    let p = parted x lo mid hi (omega (arith, ints)) q in
    let s : Snapshot = record { start = q.start; end = q.end; value = x.cell mid } in
    record {
      at = s;
      is = p.found;
      within = slice_get_within (snapshots x lo hi) (ended_below mid (snapshots x lo hi)) s p.found;
      low = p.low;
      begun = p.begun;
      reaches = p.reaches;
      high = p.high;
    }

-- the end of the last of some snapshots
pub ended_at-push : (end : ℤ) (before : List Snapshot) (s : Snapshot)
    → ended_at end (before ++ s ∷ []) ≡ before ++ record { start = s.start; end = end; value = s.value } ∷ []
ended_at-push end [] s = refl
ended_at-push end (b ∷ []) s = refl
ended_at-push end (b ∷ next ∷ before) s = ap (λ (l : List Snapshot). b ∷ l) (ended_at-push end (next ∷ before) s)

-- a list with another start of its first one, and others after it
opened_before : (start : ℤ) (before after : List Snapshot) (s : Snapshot)
    → joined_open start (before ++ s ∷ after) ≡ joined_open start (before ++ s ∷ []) ++ after
opened_before start [] after s = refl
opened_before start (b ∷ before) after s =
    ap (λ (l : List Snapshot). record { start = start; end = b.end; value = b.value } ∷ l) (sym (append_assoc before (s ∷ []) after))

-- one tick has one snapshot
snapshots-single : (x : Stream) (last tick : ℤ) → last +ℤ pos 1 ≡ tick → snapshots x last tick ≡ record { start = last; end = tick; value = x.cell tick } ∷ []
snapshots-single x last tick is =
    let e = int_gap_is last tick (omega (arith, ints)) in
    let one : int_gap last tick ≡ suc zero = omega (arith, ints) in
    rw one (ap (λ (t : ℤ). record { start = last; end = t; value = x.cell t } ∷ []) is)

same_head : (list xs ys : List Snapshot) (a b : Snapshot) → list ≡ a ∷ xs → list ≡ b ∷ ys → (a ≡ b) × (xs ≡ ys)
same_head list xs ys a b is too = (cc, cc)

module _ (x : Stream) (h : ChangesOnlyAtMarks x) where
  -- the snapshots of a stretch are those of a shorter one, the last of which goes on
  gone_on : (from to hi : ℤ) → from <ℤ to → (high : to ≤ℤ hi) → (q : PartsOf x from to hi)
      → (snapshots x from hi ≡ ended_at q.end (snapshots x from to) ++ q.rest)
      × ((start : ℤ) → joined_open start (snapshots x from hi) ≡ stretched start q.end (snapshots x from to) ++ q.rest)
  gone_on from to hi low high q =
      let r = parts_of x from to to h low (omega (arith, ints)) in
      let none : r.rest ≡ [] = (same_head _ r.rest [] _ _ r.rest_is (snapshots-single x (to -ℤ pos 1) to (omega (arith, ints)))).1 in
      let same : r.start ≡ q.start = same_found _ _ _ r.start_is q.start_is in
      let before = without_last (snapshots x from to) in
      let last : Snapshot = record { start = q.start; end = q.end; value = x.cell to } in
      let short : snapshots x from to ≡ before ++ record { start = q.start; end = r.end; value = x.cell to } ∷ [] =
      r.all_is ∙ (λ i. before ++ record { start = same i; end = r.end; value = x.cell to } ∷ none i) in
      let ended : ended_at q.end (snapshots x from to) ≡ before ++ last ∷ [] =
      ap (ended_at q.end) short ∙ ended_at-push q.end before (record { start = q.start; end = r.end; value = x.cell to }) in (
        q.all_is ∙ sym (ap (λ (l : List Snapshot). l ++ q.rest) ended ∙ append_assoc before (last ∷ []) q.rest),
        λ start. ap (joined_open start) q.all_is ∙ opened_before start before q.rest last
            ∙ sym (ap (λ (l : List Snapshot). joined_open start l ++ q.rest) ended),
      )

-- two streams that are the same up to a tick, or have nothing before it: the same is before the one that covers it
same_before : (x y : Stream) (lo from : ℤ) → (from ≡ lo) ⊎ Agree x y lo (from +ℤ pos 1)
    → (without_last (snapshots x lo (from +ℤ pos 1)) ≡ without_last (snapshots y lo (from +ℤ pos 1)))
    × (last_start (snapshots x lo (from +ℤ pos 1)) ≡ last_start (snapshots y lo (from +ℤ pos 1)))
same_before x y lo from (inl is) =
    let one = snapshots-single x lo (from +ℤ pos 1) (omega (arith, ints)) in
    let two = snapshots-single y lo (from +ℤ pos 1) (omega (arith, ints)) in
    (ap without_last one ∙ sym (ap without_last two), ap last_start one ∙ sym (ap last_start two))
same_before x y lo from (inr agree) =
    let same = snapshots-agree x y lo (from +ℤ pos 1) agree in
    (ap without_last same, ap last_start same)

-- Two streams that are the same from a tick on, or have nothing after it. What covers it ends at the same tick, and the same is after it.
same_after : (x y : Stream) (from lo to hi : ℤ) → (to ≡ hi) ⊎ Agree x y (to -ℤ pos 1) hi → (p : PartsOf x from to hi) (q : PartsOf y lo to hi)
    → (p.end ≡ q.end) × (p.rest ≡ q.rest)
same_after x y from lo to hi (inl is) p q =
    let one = same_head _ _ _ _ _ p.rest_is (snapshots-single x (to -ℤ pos 1) hi (omega (arith, ints))) in
    let two = same_head _ _ _ _ _ q.rest_is (snapshots-single y (to -ℤ pos 1) hi (omega (arith, ints))) in
    (ap (λ (s : Snapshot). s.end) (one.0) ∙ sym (ap (λ (s : Snapshot). s.end) (two.0)), one.1 ∙ sym two.1)
same_after x y from lo to hi (inr agree) p q =
    let both = same_head _ _ _ _ _ p.rest_is (snapshots-agree x y (to -ℤ pos 1) hi agree ∙ q.rest_is) in
    (ap (λ (s : Snapshot). s.end) (both.0), both.1)

-- the same as below, over what is taken apart
module _ (x y : Stream) (lo hi from to : ℤ) (gx : ChangesOnlyAtMarks x) (some : from <ℤ to) (high : to ≤ℤ hi) (all : lo <ℤ hi)
    (x_left : PartsOf x lo (from +ℤ pos 1) hi) (x_right : PartsOf x from to hi) (y_left : PartsOf y lo (from +ℤ pos 1) hi)
    (y_right : PartsOf y lo to hi) (left : (from ≡ lo) ⊎ Agree x y lo (from +ℤ pos 1)) (right : (to ≡ hi) ⊎ Agree x y (to -ℤ pos 1) hi) where
  start_is : (s : Snapshot) → slice_get (snapshots y lo hi) (ended_below (from +ℤ pos 1) (snapshots y lo hi)) ≡ Some s → x_left.start ≡ s.start
  start_is s starts =
      let same = same_found _ _ _ x_left.start_is ((same_before x y lo from left).1 ∙ y_left.start_is) in
      same ∙ ap (λ (t : Snapshot). t.start) (same_found _ _ _ (parted y lo (from +ℤ pos 1) hi all y_left).found starts)

  end_is : (e : Snapshot) → slice_get (snapshots y lo hi) (ended_below to (snapshots y lo hi)) ≡ Some e → x_right.end ≡ e.end
  end_is e ends =
      (same_after x y from lo to hi right x_right y_right).0
      ∙ ap (λ (t : Snapshot). t.end) (same_found _ _ _ (parted y lo to hi all y_right).found ends)

  piece_is : (start end : ℤ) → x_left.start ≡ start → x_right.end ≡ end
      → record { start = x_left.start; end = x_left.end; value = x.cell (from +ℤ pos 1) } ∷ x_left.rest
      ≡ stretched start end (snapshots x from to) ++ drop (suc (ended_below to (snapshots y lo hi))) (snapshots y lo hi)
  piece_is start end starts ends =
      let back : from +ℤ pos 1 -ℤ pos 1 ≡ from = omega (arith, ints) in
      let rest : x_right.rest ≡ drop (suc (ended_below to (snapshots y lo hi))) (snapshots y lo hi) =
      (same_after x y from lo to hi right x_right y_right).1 ∙ sym (parted y lo to hi all y_right).after_is in
      sym (ap (joined_open x_left.start) x_left.rest_is)
      ∙ (λ i. joined_open (starts i) (snapshots x (back i) hi))
      ∙ (gone_on x gx from to hi some high x_right).1 start
      ∙ (λ i. stretched start (ends i) (snapshots x from to) ++ rest i)

  replaced_by_parts : (s e : Snapshot) → slice_get (snapshots y lo hi) (ended_below (from +ℤ pos 1) (snapshots y lo hi)) ≡ Some s
      → slice_get (snapshots y lo hi) (ended_below to (snapshots y lo hi)) ≡ Some e
      → snapshots x lo hi
      ≡ splice (snapshots y lo hi) (ended_below (from +ℤ pos 1) (snapshots y lo hi)) (suc (ended_below to (snapshots y lo hi)))
      (stretched s.start e.end (snapshots x from to))
  replaced_by_parts s e starts ends =
      let before : without_last (snapshots x lo (from +ℤ pos 1)) ≡ take (ended_below (from +ℤ pos 1) (snapshots y lo hi)) (snapshots y lo hi) =
      (same_before x y lo from left).0 ∙ sym (parted y lo (from +ℤ pos 1) hi all y_left).before_is in
      x_left.all_is ∙ (λ i. before i ++ piece_is s.start e.end (start_is s starts) (end_is e ends) i)

-- The snapshots of a stream that differs from another one only on a stretch. They are the snapshots of the other one, with its own of
-- that stretch in place of those that have a tick in common with it. The first one of these begins, and the last one ends, where
-- those did.
pub replaced : (x y : Stream) (lo hi from to : ℤ) (s e : Snapshot) → ChangesOnlyAtMarks x → ChangesOnlyAtMarks y
    → lo ≤ℤ from → from <ℤ to → to ≤ℤ hi
    → (from ≡ lo) ⊎ Agree x y lo (from +ℤ pos 1) → (to ≡ hi) ⊎ Agree x y (to -ℤ pos 1) hi
    → slice_get (snapshots y lo hi) (ended_below (from +ℤ pos 1) (snapshots y lo hi)) ≡ Some s
    → slice_get (snapshots y lo hi) (ended_below to (snapshots y lo hi)) ≡ Some e
    → snapshots x lo hi
    ≡ splice (snapshots y lo hi) (ended_below (from +ℤ pos 1) (snapshots y lo hi)) (suc (ended_below to (snapshots y lo hi)))
    (stretched s.start e.end (snapshots x from to))
replaced x y lo hi from to s e gx gy low some high left right starts ends =
    replaced_by_parts x y lo hi from to gx some high (omega (arith, ints))
    (parts_of x lo (from +ℤ pos 1) hi gx (omega (arith, ints)) (omega (arith, ints)))
    (parts_of x from to hi gx some high)
    (parts_of y lo (from +ℤ pos 1) hi gy (omega (arith, ints)) (omega (arith, ints)))
    (parts_of y lo to hi gy (omega (arith, ints)) high)
    left right s e starts ends
