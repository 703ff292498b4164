-- The stream of a list of snapshots: where they are those of a stream that changes only at marks, it is that stream, restricted to their
-- stretch.
use Rattle.std.proofs.Common.{◌≡◌, ℕ, zero, suc, ℤ, pos, ◌+ℤ◌, ◌-ℤ◌, ◌<ℤ◌, ◌≤ℤ◌, Bool, true, false, ◌&&◌, ◌||◌, List, ◌∷◌, Option, None, if◌then◌else◌, refl, sym, ap, ◌∙◌, arith}
use Rattle.std.proofs.lemmas.Bool.Decides.{Decides-int_eq}
use Rattle.std.proofs.lemmas.Int.{ints, by_lt_z}
use Rattle.std.specs.Int.{int_gap}
use Rattle.std.specs.Ordering.{int_eq}
use Rattle.tilt_stream.proofs.Cut.{IsUnmarked, int_gap_is}
use Rattle.tilt_stream.specs.Agreement.{ChangesOnlyAtMarks}
use Rattle.tilt_stream.specs.Domain.{lies_in, restricted}
use Rattle.tilt_stream.specs.Snap.{Snapshot}
use Rattle.tilt_stream.specs.Snapshots.{snapshot_on, cut_behind, snapshots_from, snapshots}
use Rattle.tilt_stream.specs.Stream.{Stream, SameStream, stream_of, cell_at, mark_at}

-- over ticks without a mark the cell stays
stays_for : (x : Stream) → ChangesOnlyAtMarks x → (first : ℤ) (n : ℕ) → IsUnmarked x first (first +ℤ pos n)
    → x.cell (first +ℤ pos n) ≡ x.cell first
stays_for x h first zero clear =
    let same : first +ℤ pos 0 ≡ first = omega (arith, ints) in
    ap (λ (t : ℤ). x.cell t) same
stays_for x h first (suc n) clear =
    let back : first +ℤ pos (suc n) -ℤ pos 1 ≡ first +ℤ pos n = omega (arith, ints) in
    let last = clear.unmarked (first +ℤ pos (suc n)) (omega (arith, ints)) (omega (arith, ints)) in
    h.unchanged (first +ℤ pos (suc n)) last ∙ ap (λ (t : ℤ). x.cell t) back
    ∙ stays_for x h first n (record { unmarked = λ t low high. clear.unmarked t low (omega (arith, ints)) })

stays : (x : Stream) → ChangesOnlyAtMarks x → (first tick : ℤ) → first ≤ℤ tick → IsUnmarked x first tick → x.cell tick ≡ x.cell first
stays x h first tick low clear =
    let at = int_gap_is first tick low in
    ap (λ (t : ℤ). x.cell t) (sym at) ∙ stays_for x h first (int_gap first tick) (rw at clear)

-- a stretch without marks that grows by a tick without one
unmarked_more : (x : Stream) (first tick : ℤ) → IsUnmarked x first tick → x.mark (tick +ℤ pos 1) ≡ false
    → IsUnmarked x first (tick +ℤ pos 1)
unmarked_more x first tick clear next = record {
  unmarked = λ t low high.
      by_lt_z tick t
      (λ above.
      let is : tick +ℤ pos 1 ≡ t = omega (arith, ints) in
      rw is at next)
      (λ below. clear.unmarked t low below);
}

-- no tick lies in an empty stretch
unmarked_none : (x : Stream) (tick : ℤ) → IsUnmarked x tick tick
unmarked_none x tick = record { unmarked = λ t low high. absurd (omega (arith, ints)) }

module _ (x : Stream) (h : ChangesOnlyAtMarks x) (t : ℤ) where
  -- the cell of a piece is that of its first tick
  cell_of_piece : (start end : ℤ) (rest : Option ℤ) (inside : Bool) → lies_in start end t ≡ inside → IsUnmarked x (start +ℤ pos 1) end
      → (if inside then x.cell (start +ℤ pos 1) else rest) ≡ (if inside then x.cell t else rest)
  cell_of_piece start end rest true is clear =
      let low : (start +ℤ pos 1) ≤ℤ t = grind (arith, ints) in
      let high : t ≤ℤ end = grind (arith, ints) in
      sym (stays x h (start +ℤ pos 1) t low (record { unmarked = λ u above below. clear.unmarked u above (omega (arith, ints)) }))
  cell_of_piece start end rest false is clear = refl

  -- two stretches that follow one another
  joined : (start tick end : ℤ) → start <ℤ tick → tick <ℤ end → (inside : Bool) → lies_in start tick t ≡ inside
      → (if inside then x.cell t else (if lies_in tick end t then x.cell t else None)) ≡ (if lies_in start end t then x.cell t else None)
  joined start tick end low high true is =
      let all : lies_in start end t ≡ true = grind (arith, ints) in
      rw all refl
  joined start tick end low high false is =
      let rest : lies_in tick end t ≡ lies_in start end t = grind (arith, ints) in
      rw rest refl

  -- cut before the next tick where that has a mark
  cells_by_mark : (start tick end : ℤ) (more : ℕ) → start <ℤ tick → tick <ℤ end → IsUnmarked x (start +ℤ pos 1) tick
      → cell_at (cut_behind x tick (tick +ℤ pos 1) more) t ≡ (if lies_in tick end t then x.cell t else None)
      → (IsUnmarked x (start +ℤ pos 1) (tick +ℤ pos 1)
      → cell_at (cut_behind x start (tick +ℤ pos 1) more) t ≡ (if lies_in start end t then x.cell t else None))
      → (marked : Bool) → x.mark (tick +ℤ pos 1) ≡ marked
      → cell_at (if marked then snapshot_on x start tick ∷ cut_behind x tick (tick +ℤ pos 1) more
      else cut_behind x start (tick +ℤ pos 1) more) t
      ≡ (if lies_in start end t then x.cell t else None)
  cells_by_mark start tick end more low high clear cut uncut true is =
      ap (λ (c : Option ℤ). if lies_in start tick t then x.cell (start +ℤ pos 1) else c) cut
      ∙ cell_of_piece start tick _ (lies_in start tick t) refl clear
      ∙ joined start tick end low high (lies_in start tick t) refl
  cells_by_mark start tick end more low high clear cut uncut false is = uncut (unmarked_more x (start +ℤ pos 1) tick clear is)

  cells_behind : (start tick end : ℤ) (more : ℕ) → start <ℤ tick → end ≡ tick +ℤ pos more → IsUnmarked x (start +ℤ pos 1) tick
      → cell_at (cut_behind x start tick more) t ≡ (if lies_in start end t then x.cell t else None)
  cells_behind start tick end zero low at clear =
      let is : tick ≡ end = omega (arith, ints) in
      cell_of_piece start tick None (lies_in start tick t) refl clear ∙ ap (λ (e : ℤ). if lies_in start e t then x.cell t else None) is
  cells_behind start tick end (suc more) low at clear =
      cells_by_mark start tick end more low (omega (arith, ints)) clear
      (cells_behind tick (tick +ℤ pos 1) end more (omega (arith, ints)) (omega (arith, ints)) (unmarked_none x (tick +ℤ pos 1)))
      (λ longer. cells_behind start (tick +ℤ pos 1) end more (omega (arith, ints)) (omega (arith, ints)) longer)
      (x.mark (tick +ℤ pos 1)) refl

-- a mark in the first piece is at its first tick alone
mark_of_piece : (a b inside m : Bool) → (a ≡ false → inside ≡ true → m ≡ false) → (a || b || false) ≡ (a || b || (inside && m))
mark_of_piece true b inside m h = refl
mark_of_piece false true inside m h = refl
mark_of_piece false false true m h = sym (h refl refl)
mark_of_piece false false false m h = refl

-- the mark between two pieces is the stream's own
marks_of_two : (a b c first rest m : Bool) → (b ≡ true → (first ≡ true) × (m ≡ true)) → (a ≡ false → b ≡ false → (rest && m) ≡ (first && m))
    → (a || b || (b || c || (rest && m))) ≡ (a || c || (first && m))
marks_of_two true b c first rest m at others = refl
marks_of_two false true c first rest m at others =
    let is = at refl in
    rw (is.0, is.1) (or_true c)
  where
    or_true : (c : Bool) → true ≡ (c || true)
    or_true true = refl
    or_true false = refl
marks_of_two false false c first rest m at others = ap (λ (r : Bool). c || r) (others refl refl)

-- the same mark of two stretches where the one tick more in the first has none
same_if_in_both : (first rest m : Bool) → (first ≡ true → rest ≡ false → m ≡ false) → (rest ≡ true → first ≡ true)
    → (rest && m) ≡ (first && m)
same_if_in_both true true m none more = refl
same_if_in_both true false m none more = sym (none refl refl)
same_if_in_both false true m none more = absurd (let f = more refl in cc)
same_if_in_both false false m none more = refl

module _ (x : Stream) (t : ℤ) where
  -- the marks of the stream on a stretch, with those at its ends
  abbrev marks_on : ℤ → ℤ → Bool
  marks_on start end = int_eq t (start +ℤ pos 1) || int_eq t (end +ℤ pos 1) || (lies_in start end t && x.mark t)

  marks_by_mark : (start tick end : ℤ) (more : ℕ) → start <ℤ tick → tick <ℤ end → IsUnmarked x (start +ℤ pos 1) tick
      → mark_at (cut_behind x tick (tick +ℤ pos 1) more) t ≡ marks_on tick end
      → (IsUnmarked x (start +ℤ pos 1) (tick +ℤ pos 1) → mark_at (cut_behind x start (tick +ℤ pos 1) more) t ≡ marks_on start end)
      → (marked : Bool) → x.mark (tick +ℤ pos 1) ≡ marked
      → mark_at (if marked then snapshot_on x start tick ∷ cut_behind x tick (tick +ℤ pos 1) more
      else cut_behind x start (tick +ℤ pos 1) more) t
      ≡ marks_on start end
  marks_by_mark start tick end more low high clear cut uncut true is =
      ap (λ (m : Bool). int_eq t (start +ℤ pos 1) || int_eq t (tick +ℤ pos 1) || m) cut
      ∙ marks_of_two (int_eq t (start +ℤ pos 1)) (int_eq t (tick +ℤ pos 1)) (int_eq t (end +ℤ pos 1))
      (lies_in start end t) (lies_in tick end t) (x.mark t)
      (λ at.
      let same : t ≡ tick +ℤ pos 1 = (Decides-int_eq t (tick +ℤ pos 1)).0 at in
      let all : lies_in start end t ≡ true = grind (arith, ints) in
      (all, ap (λ (u : ℤ). x.mark u) same ∙ is))
      (λ not_first not_next.
      same_if_in_both (lies_in start end t) (lies_in tick end t) (x.mark t)
      (λ in_all not_in_rest. clear.unmarked t (grind (arith, ints)) (grind (arith, ints)))
      (λ in_rest. grind (arith, ints)))
  marks_by_mark start tick end more low high clear cut uncut false is = uncut (unmarked_more x (start +ℤ pos 1) tick clear is)

  marks_behind : (start tick end : ℤ) (more : ℕ) → start <ℤ tick → end ≡ tick +ℤ pos more → IsUnmarked x (start +ℤ pos 1) tick
      → mark_at (cut_behind x start tick more) t ≡ marks_on start end
  marks_behind start tick end zero low at clear =
      let is : tick ≡ end = omega (arith, ints) in
      mark_of_piece (int_eq t (start +ℤ pos 1)) (int_eq t (tick +ℤ pos 1)) (lies_in start tick t) (x.mark t)
      (λ not_first inside. clear.unmarked t (grind (arith, ints)) (grind (arith, ints)))
      ∙ ap (marks_on start) is
  marks_behind start tick end (suc more) low at clear =
      marks_by_mark start tick end more low (omega (arith, ints)) clear
      (marks_behind tick (tick +ℤ pos 1) end more (omega (arith, ints)) (omega (arith, ints)) (unmarked_none x (tick +ℤ pos 1)))
      (λ longer. marks_behind start (tick +ℤ pos 1) end more (omega (arith, ints)) (omega (arith, ints)) longer)
      (x.mark (tick +ℤ pos 1)) refl

-- cut from its first tick on
pub cut_from_first : (x : Stream) (lo hi : ℤ) → lo <ℤ hi → snapshots x lo hi ≡ cut_behind x lo (lo +ℤ pos 1) (int_gap (lo +ℤ pos 1) hi)
cut_from_first x lo hi some =
    let all = int_gap_is lo hi (omega (arith, ints)) in
    let rest = int_gap_is (lo +ℤ pos 1) hi (omega (arith, ints)) in
    let is : int_gap lo hi ≡ suc (int_gap (lo +ℤ pos 1) hi) = omega (arith, ints) in
    ap (snapshots_from x lo) is

-- the stream of the snapshots on a stretch is the stream restricted to it
pub snapshots-stream : (x : Stream) (lo hi : ℤ) → lo <ℤ hi → ChangesOnlyAtMarks x
    → SameStream (stream_of (snapshots x lo hi)) (restricted lo hi x)
snapshots-stream x lo hi some h =
    let first = cut_from_first x lo hi some in
    let at : hi ≡ (lo +ℤ pos 1) +ℤ pos (int_gap (lo +ℤ pos 1) hi) = sym (int_gap_is (lo +ℤ pos 1) hi (omega (arith, ints))) in
    record {
      cells = λ t.
          ap (λ (list : List Snapshot). cell_at list t) first
          ∙ cells_behind x h t lo (lo +ℤ pos 1) hi (int_gap (lo +ℤ pos 1) hi) (omega (arith, ints)) at (unmarked_none x (lo +ℤ pos 1));
      marks = λ t.
          ap (λ (list : List Snapshot). mark_at list t) first
          ∙ marks_behind x t lo (lo +ℤ pos 1) hi (int_gap (lo +ℤ pos 1) hi) (omega (arith, ints)) at (unmarked_none x (lo +ℤ pos 1));
    }
