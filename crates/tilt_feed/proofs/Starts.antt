-- The snapshots up to a tick, and those up to a later one: all but the last are the same, and the last begins in the same way.
use Rattle.std.proofs.Common.{◌≡◌, ◌<◌, ℕ, zero, suc, ℤ, pos, ◌+ℤ◌, ◌-ℤ◌, ◌≤ℤ◌, ◌<ℤ◌, Bool, true, false, List, [], ◌∷◌, ◌++◌, length, Option, Some, None}
use Rattle.std.proofs.Common.{refl, ap, sym, ◌∙◌, inl, inr, append_assoc, append-nil, arith}
use Rattle.std.specs.Int.{int_gap}
use Rattle.std.proofs.lemmas.Bool.{cases_Bool}
use Rattle.std.proofs.lemmas.Int.{ints, by_lt_z}
use Rattle.tilt_feed.specs.Laws.{ListGoesOn, ComesFirst}
use Rattle.tilt_feed.specs.Printed.{Begun, begun_of, closed_of, last_begun}
use Rattle.tilt_stream.proofs.Cut.{int_gap_is, snapshots-first, snapshots-none, IsUnmarked}
use Rattle.tilt_stream.proofs.Joined.{snapshots-last, snapshots-parted, snapshots-some}
use Rattle.tilt_stream.proofs.Pieces.{without_last-append}
use Rattle.tilt_stream.specs.Agreement.{ChangesOnlyAtMarks}
use Rattle.tilt_stream.specs.Pieces.{joined_from, without_last}
use Rattle.tilt_stream.specs.Snap.{Snapshot, joined_open}
use Rattle.tilt_stream.specs.Snapshots.{snapshot_on, cut_behind, snapshots}
use Rattle.tilt_stream.specs.Stream.{Stream}

-- the first one starts at a tick and has a value
record IsHeaded (start : ℤ) (value : Option ℤ) (list : List Snapshot) : Type 0 where
  pub end : ℤ
  pub rest : List Snapshot
  pub is : list ≡ record { start = start; end = end; value = value } ∷ rest

cut_behind-headed : (x : Stream) (start tick : ℤ) (more : ℕ) → IsHeaded start (x.cell (start +ℤ pos 1)) (cut_behind x start tick more)
cut_behind-headed x start tick zero = record { end = tick; rest = []; is = refl }
cut_behind-headed x start tick (suc more) =
    elim (cases_Bool (x.mark (tick +ℤ pos 1))) [
      | inl is ↦ rw is (record { end = tick; rest = cut_behind x tick (tick +ℤ pos 1) more; is = refl })
      | inr none ↦ rw none (cut_behind-headed x start (tick +ℤ pos 1) more)
    ]

snapshots-headed : (x : Stream) (lo hi : ℤ) → lo <ℤ hi → IsHeaded lo (x.cell (lo +ℤ pos 1)) (snapshots x lo hi)
snapshots-headed x lo hi some =
    let n = int_gap (lo +ℤ pos 1) hi in
    let e1 = int_gap_is lo hi (omega (arith, ints)) in
    let e2 = int_gap_is (lo +ℤ pos 1) hi (omega (arith, ints)) in
    let all : int_gap lo hi ≡ suc n = omega (arith, ints) in
    rw all (cut_behind-headed x lo (lo +ℤ pos 1) n)

-- what the last one of a list begins with
last_begun-push : (front : List Snapshot) (last : Snapshot) → last_begun (front ++ last ∷ []) ≡ Some (record { start = last.start; value = last.value })
last_begun-push [] last = refl
last_begun-push (s ∷ []) last = refl
last_begun-push (s ∷ next ∷ front) last = last_begun-push (next ∷ front) last

-- a list goes on from its front, and from what of it is closed too
by_more : (more : Bool) (front back list : List Snapshot) → list ≡ front ++ back → 0 < length back → ListGoesOn front (closed_of more list)
by_more true front back list is some = record { rest = back; is = is }
by_more false front back list is some = record { rest = without_last back; is = ap without_last is ∙ without_last-append front back some }

-- a list goes on from a front, and what has begun comes next
pub record Continues (front : List Snapshot) (begun : Option Begun) (list : List Snapshot) : Type 0 where
  pub rest : List Snapshot
  pub is : list ≡ front ++ rest
  pub next : ComesFirst begun rest

-- a list goes on from a front by a snapshot that starts at a tick and has a value
record GoesOnAt (front list : List Snapshot) (start : ℤ) (value : Option ℤ) : Type 0 where
  pub end : ℤ
  pub rest : List Snapshot
  pub is : list ≡ front ++ record { start = start; end = end; value = value } ∷ rest

module _ (x : Stream) (h : ChangesOnlyAtMarks x) (lo mid : ℤ) (some : lo <ℤ mid) where
  -- the snapshots up to a tick except the last, and where the last one starts
  abbrev front : List Snapshot
  front = without_last (snapshots x lo mid)

  abbrev start : ℤ
  start = (snapshots-last x lo mid some).start

  abbrev last : Snapshot
  last = record { start = start; end = mid; value = x.cell mid }

  at_mid : mid -ℤ pos 1 +ℤ pos 1 ≡ mid
  at_mid = omega (arith, ints)

  no_tick : IsUnmarked x (mid -ℤ pos 1 +ℤ pos 1) mid
  no_tick = record { unmarked = λ tick low high. absurd (omega (arith, ints)) }

  -- the snapshots up to a later tick: those, and after them the ones from the last tick on, of which the first starts where the last one did
  later-is : (hi : ℤ) → mid ≤ℤ hi → snapshots x lo hi ≡ front ++ joined_open start (snapshots x (mid -ℤ pos 1) hi)
  later-is hi on =
      snapshots-parted x h lo mid hi some on
      ∙ ap (λ (o : Option ℤ). front ++ joined_from o (snapshots x (mid -ℤ pos 1) hi)) (snapshots-last x lo mid some).is

  -- those up to the tick itself
  whole-is : snapshots x lo mid ≡ front ++ last ∷ []
  whole-is =
      let one : snapshots x (mid -ℤ pos 1) mid ≡ snapshot_on x (mid -ℤ pos 1) mid ∷ [] =
      snapshots-first x (mid -ℤ pos 1) mid mid (omega (arith, ints)) (omega (arith, ints)) no_tick (λ before. absurd (omega (arith, ints)))
      ∙ ap (λ (l : List Snapshot). snapshot_on x (mid -ℤ pos 1) mid ∷ l) (snapshots-none x mid mid (omega (arith, ints))) in
      later-is mid (omega (arith, ints))
      ∙ ap (λ (l : List Snapshot). front ++ joined_open start l) one
      ∙ ap (λ (t : ℤ). front ++ record { start = start; end = mid; value = x.cell t } ∷ []) at_mid

  -- where a mark follows, the others follow after the last one
  marked-is : (hi : ℤ) → mid <ℤ hi → x.mark (mid +ℤ pos 1) ≡ true → snapshots x lo hi ≡ snapshots x lo mid ++ snapshots x mid hi
  marked-is hi on mark =
      let next = snapshots x mid hi in
      let first : snapshots x (mid -ℤ pos 1) hi ≡ snapshot_on x (mid -ℤ pos 1) mid ∷ next =
      snapshots-first x (mid -ℤ pos 1) mid hi (omega (arith, ints)) (omega (arith, ints)) no_tick (λ before. mark) in
      later-is hi (omega (arith, ints))
      ∙ ap (λ (l : List Snapshot). front ++ joined_open start l) first
      ∙ ap (λ (t : ℤ). front ++ record { start = start; end = mid; value = x.cell t } ∷ next) at_mid
      ∙ sym (append_assoc front (last ∷ []) next)
      ∙ ap (λ (l : List Snapshot). l ++ next) (sym whole-is)

  -- else the last one goes on
  going-on : (hi : ℤ) → mid ≤ℤ hi → GoesOnAt front (snapshots x lo hi) start (x.cell mid)
  going-on hi on =
      let head = snapshots-headed x (mid -ℤ pos 1) hi (omega (arith, ints)) in
      record {
        end = head.end;
        rest = head.rest;
        is = later-is hi on
            ∙ ap (λ (l : List Snapshot). front ++ joined_open start l) head.is
            ∙ ap (λ (t : ℤ). front ++ record { start = start; end = head.end; value = x.cell t } ∷ head.rest) at_mid;
      }

  begins : last_begun (snapshots x lo mid) ≡ Some (record { start = start; value = x.cell mid })
  begins = ap last_begun whole-is ∙ last_begun-push front last

  module _ (hi : ℤ) (on : mid ≤ℤ hi) where
    -- what is printed later goes on from what is printed at a tick, if all or all but the last is printed there
    goes-on_by : (all more : Bool) → (all ≡ true → mid <ℤ hi → x.mark (mid +ℤ pos 1) ≡ true) → (all ≡ true → mid ≡ hi → more ≡ true)
        → ListGoesOn (closed_of all (snapshots x lo mid)) (closed_of more (snapshots x lo hi))
    goes-on_by true more mark stays =
        by_lt_z mid hi
        (λ before. by_more more (snapshots x lo mid) (snapshots x mid hi) (snapshots x lo hi) (marked-is hi before (mark refl before)) (snapshots-some x mid hi before))
        (λ there.
        let same : mid ≡ hi = omega (arith, ints) in
        record {
          rest = [];
          is = ap (λ (m : Bool). closed_of m (snapshots x lo hi)) (stays refl same) ∙ ap (snapshots x lo) (sym same) ∙ sym (append-nil (snapshots x lo mid));
        })
    goes-on_by false more mark stays =
        let g = going-on hi on in
        by_more more front (record { start = start; end = g.end; value = x.cell mid } ∷ g.rest) (snapshots x lo hi) g.is (omega arith)

    -- and what has begun comes next in all of them
    continues_by : (all : Bool) → (all ≡ true → mid <ℤ hi → x.mark (mid +ℤ pos 1) ≡ true) → Continues (closed_of all (snapshots x lo mid)) (begun_of all (snapshots x lo mid)) (snapshots x lo hi)
    continues_by true mark =
        let g = goes-on_by true true mark (λ all there. refl) in
        record { rest = g.rest; is = g.is; next = tt }
    continues_by false mark =
        let g = going-on hi on in
        record { rest = record { start = start; end = g.end; value = x.cell mid } ∷ g.rest; is = g.is; next = rw begins (refl, refl) }

-- the same where no tick may lie between
module _ (x : Stream) (h : ChangesOnlyAtMarks x) (lo mid hi : ℤ) (on : mid ≤ℤ hi) (all : Bool) (mark : all ≡ true → mid <ℤ hi → x.mark (mid +ℤ pos 1) ≡ true) where
  none-closed : (some : Bool) → closed_of some [] ≡ []
  none-closed true = refl
  none-closed false = refl

  none-begun : (some : Bool) → begun_of some [] ≡ None
  none-begun true = refl
  none-begun false = refl

  pub printed-goes_on : (more : Bool) → (all ≡ true → mid ≡ hi → more ≡ true) → ListGoesOn (closed_of all (snapshots x lo mid)) (closed_of more (snapshots x lo hi))
  printed-goes_on more stays =
      by_lt_z lo mid
      (λ some. goes-on_by x h lo mid some hi on all more mark stays)
      (λ none. rw (snapshots-none x lo mid none, none-closed all) (record { rest = closed_of more (snapshots x lo hi); is = refl }))

  pub printed-continues : Continues (closed_of all (snapshots x lo mid)) (begun_of all (snapshots x lo mid)) (snapshots x lo hi)
  printed-continues =
      by_lt_z lo mid
      (λ some. continues_by x h lo mid some hi on all mark)
      (λ none. rw (snapshots-none x lo mid none, none-closed all, none-begun all) (record { rest = snapshots x lo hi; is = refl; next = tt }))
