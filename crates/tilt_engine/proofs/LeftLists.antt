-- What is left of lists whose first snapshots have gone: what is read of it is what is read of the lists.
use Rattle.std.proofs.Common.{◌≡◌, ◌⊎◌, inl, inr, ◌<◌, ℕ, suc, ℤ, pos, ◌+ℤ◌, ◌<ℤ◌, ◌≤ℤ◌, Bool, true, false, int_lt, if◌then◌else◌, List, [], ◌∷◌, ◌++◌, length, map, get_or}
use Rattle.std.proofs.Common.{Option, None, refl, sym, ap, subst, ◌∙◌, arith}
use Rattle.std.specs.Int.{int_gap}
use Rattle.std.specs.List.{AllByRecursion}
use Rattle.std.specs.Ordering.{int_eq}
use Rattle.std.proofs.lemmas.Int.{ints, by_lt_z}
use Rattle.tilt_base.specs.Grid.{ceil}
use Rattle.tilt_base.specs.Reduce.{numbers, reduce}
use Rattle.tilt_base.specs.declared.reducer.Reducer.{Reducer}
use Rattle.tilt_code.proofs.Constancy.{instr_cell-same}
use Rattle.tilt_code.specs.Body.{body_of, instr_cell, last_or, leaf_marked, leaf_of, mapped, with_registers}
use Rattle.tilt_code.specs.Code.{Block, LoopParts}
use Rattle.tilt_code.specs.Turn.{turn, turn_end}
use Rattle.tilt_code.specs.declared.instr.Instr.{Instr}
use Rattle.tilt_code.specs.declared.instr.Instr.TheVariants.{Const, Null, Argument, Port, Win, One, Two, If}
use Rattle.tilt_engine.proofs.GoingOn.{Fill-InOrder, rest-cell}
use Rattle.tilt_engine.specs.Gone.{EndsBelow, IsGoneFor}
use Rattle.tilt_feed.specs.Horizon.{Horizon}
use Rattle.tilt_feed.specs.Resting.{RestsOn}
use Rattle.tilt_stream.proofs.Filling.{Fill-up}
use Rattle.tilt_stream.proofs.Locality.{met-agrees}
use Rattle.tilt_stream.proofs.SameMarks.{next_mark-same}
use Rattle.tilt_stream.proofs.Streams.{cell_at-before, mark_at-before, mark_at-start}
use Rattle.tilt_stream.specs.Pointwise.{nothing}
use Rattle.tilt_stream.specs.Snap.{Fill, Snapshot, ended_below}
use Rattle.tilt_stream.specs.Stream.{Stream, cell_at, mark_at, stream_of}
use Rattle.tilt_stream.specs.Window.{windowed_by}
use Rattle.tilt_turn.proofs.Numbered.{read-stream}
use Rattle.tilt_turn.proofs.Stepwise.{all-both}
use Rattle.tilt_turn.specs.Ready.{IsReadable, IsReady}

-- if all that has gone of a list ends below a tick, what is left has the cells of the whole list from that tick on
cell-left : (tick at : ℤ) (g rest : List Snapshot) → tick ≤ℤ at → AllByRecursion (EndsBelow tick) g → cell_at (g ++ rest) at ≡ cell_at rest at
cell-left tick at [] rest up gone = refl
cell-left tick at (s ∷ g) rest up gone =
    let below = gone.0.1 in
    rest-cell s (g ++ rest) at (omega (arith, ints)) ∙ cell-left tick at g rest up gone.1

-- and its marks above that tick
mark-left : (tick at : ℤ) (g rest : List Snapshot) → tick <ℤ at → AllByRecursion (EndsBelow tick) g → mark_at (g ++ rest) at ≡ mark_at rest at
mark-left tick at [] rest up gone = refl
mark-left tick at (s ∷ g) rest up gone =
    let rises = gone.0.0 in
    let below = gone.0.1 in
    let start : int_eq at (s.start +ℤ pos 1) ≡ false = grind (arith, ints) in
    let end : int_eq at (s.end +ℤ pos 1) ≡ false = grind (arith, ints) in
    rw (start, end) (mark-left tick at g rest up gone.1)

-- two streams that have the same cells from a tick on, and the same marks above it
record IsSameFrom (tick : ℤ) (x y : Stream) : Type 0 where
  cells : (at : ℤ) → tick ≤ℤ at → x.cell at ≡ y.cell at
  marks : (at : ℤ) → tick <ℤ at → x.mark at ≡ y.mark at

-- what is left of a list and the whole list are two such streams
list-left : (tick : ℤ) (g rest : List Snapshot) → AllByRecursion (EndsBelow tick) g → IsSameFrom tick (stream_of rest) (stream_of (g ++ rest))
list-left tick g rest gone = record {
  cells = λ at up. sym (cell-left tick at g rest up gone);
  marks = λ at up. sym (mark-left tick at g rest up gone);
}

nothing-from : (tick : ℤ) → IsSameFrom tick nothing nothing
nothing-from tick = record { cells = λ at up. refl; marks = λ at up. refl }

-- a window reads no cell below its first tick, and marks only from there on
window-from : (f : Option ℤ → Option ℤ) (reducer : Reducer) (from to point : ℤ) (x y : Stream) → from <ℤ to → IsSameFrom (point +ℤ from +ℤ pos 1) x y
    → IsSameFrom point (windowed_by f reducer from to x) (windowed_by f reducer from to y)
window-from f reducer from to point x y some same = record {
  cells = λ at up.
      ap (λ (cells : List (Option ℤ)). reduce reducer (numbers (map f cells)))
      (met-agrees x y (at +ℤ from) (at +ℤ to) (at +ℤ from) (at +ℤ to) (record {
        cells = λ tick low high. same.cells tick (omega (arith, ints));
        marks = λ tick low high. same.marks tick (omega (arith, ints));
      }) (omega (arith, ints)) (omega (arith, ints)));
  marks = λ at up. rw (same.marks (at +ℤ to) (omega (arith, ints)), same.marks (at +ℤ from +ℤ pos 1) (omega (arith, ints))) refl;
}

module _ (xs ys : List Stream) (maps : List Block) (point : ℤ) where
  -- a leaf that is the same over two lists of buffers from a grid point on
  abbrev IsSameLeaf : Instr → Type 0
  IsSameLeaf i = IsSameFrom point (leaf_of xs maps i) (leaf_of ys maps i)

  -- if all leaves of a block are, so are its registers
  registers-same : (at : ℤ) → point ≤ℤ at → (cells : List (Option ℤ)) (block : Block) → AllByRecursion IsSameLeaf block
      → with_registers (λ i. (leaf_of xs maps i).cell at) cells block ≡ with_registers (λ i. (leaf_of ys maps i).cell at) cells block
  registers-same at up cells [] same = refl
  registers-same at up cells (i ∷ block) same =
      let leaf : Instr → Option ℤ = λ i. (leaf_of xs maps i).cell at in
      let other : Instr → Option ℤ = λ i. (leaf_of ys maps i).cell at in
      ap (λ (cell : Option ℤ). with_registers leaf (cells ++ cell ∷ []) block) (instr_cell-same leaf other cells i (same.0.cells at up))
      ∙ registers-same at up (cells ++ instr_cell other cells i ∷ []) block same.1

  -- and the marks of its leaves
  leaves-same : (at : ℤ) → point <ℤ at → (block : Block) → AllByRecursion IsSameLeaf block
      → leaf_marked xs maps at block ≡ leaf_marked ys maps at block
  leaves-same at up [] same = refl
  leaves-same at up (i ∷ block) same = rw (same.0.marks at up, leaves-same at up block same.1) refl

-- so the body of a loop is the same from there on
body-from : (xs ys : List Stream) (l : LoopParts) (point : ℤ) → AllByRecursion (IsSameLeaf xs ys l.maps point) l.body
    → IsSameFrom point (body_of xs l) (body_of ys l)
body-from xs ys l point same = record {
  cells = λ at up. ap (λ (cells : List (Option ℤ)). last_or None cells) (registers-same xs ys l.maps point at up [] l.body same);
  marks = λ at up. leaves-same xs ys l.maps point at up l.body same;
}

module _ (gone wholes lefts : List (List Snapshot)) (buffers : ℕ)
    (are : (number : ℕ) → number < buffers → get_or wholes number [] ≡ get_or gone number [] ++ get_or lefts number []) where
  -- the buffer with a number
  buffer-left : (tick : ℤ) (buffer : ℕ) → buffer < buffers → AllByRecursion (EndsBelow tick) (get_or gone buffer [])
      → IsSameFrom tick (get_or (map stream_of lefts) buffer nothing) (get_or (map stream_of wholes) buffer nothing)
  buffer-left tick buffer within ends =
      rw (read-stream lefts buffer, read-stream wholes buffer, are buffer within) (list-left tick (get_or gone buffer []) (get_or lefts buffer []) ends)

  -- a leaf is the same over what is left, from a grid point on, if all that has gone ends below what it reads first there
  leaf-left : (maps : List Block) (point : ℤ) (i : Instr) → IsReadable buffers (length maps) i → IsGoneFor gone point i
      → IsSameFrom point (leaf_of (map stream_of lefts) maps i) (leaf_of (map stream_of wholes) maps i)
  leaf-left maps point (Port buffer offset) readable ends =
      let same = buffer-left (point +ℤ offset) buffer readable.0 ends in
      record {
        cells = λ at up. same.cells (at +ℤ offset) (omega (arith, ints));
        marks = λ at up. same.marks (at +ℤ offset) (omega (arith, ints));
      }
  leaf-left maps point (Win reducer buffer from to number) readable ends =
      window-from (mapped maps number) reducer from to point (get_or (map stream_of lefts) buffer nothing) (get_or (map stream_of wholes) buffer nothing)
      readable.1.some_ticks (buffer-left (point +ℤ from +ℤ pos 1) buffer readable.0 ends)
  leaf-left maps point (Const number) readable ends = nothing-from point
  leaf-left maps point Null readable ends = nothing-from point
  leaf-left maps point Argument readable ends = nothing-from point
  leaf-left maps point (One op a) readable ends = nothing-from point
  leaf-left maps point (Two op a b) readable ends = nothing-from point
  leaf-left maps point (If c a b) readable ends = nothing-from point

-- a turn over what is left of lists is the turn over the whole lists. The premise is that all that has gone ends below what the loop reads
-- first at its grid point
pub turn-left : (gone wholes lefts : List (List Snapshot)) (l : LoopParts) (start : ℤ) (buffers : ℕ) → IsReady buffers l
    → ((number : ℕ) → number < buffers → get_or wholes number [] ≡ get_or gone number [] ++ get_or lefts number [])
    → AllByRecursion (IsGoneFor gone (ceil l.grid (start +ℤ pos 1))) l.body
    → turn (body_of (map stream_of lefts) l) l.grid l.hi start ≡ turn (body_of (map stream_of wholes) l) l.grid l.hi start
turn-left gone wholes lefts l start buffers ready are ends =
    let point = ceil l.grid (start +ℤ pos 1) in
    let xs = map stream_of lefts in
    let ys = map stream_of wholes in
    let leaves = all-both (IsReadable buffers (length l.maps)) (IsGoneFor gone point) (IsSameLeaf xs ys l.maps point) l.body
    (λ i readable below. leaf-left gone wholes lefts buffers are l.maps point i readable below) ready.leaves ends in
    let same = body-from xs ys l point leaves in
    let value = same.cells point (omega (arith, ints)) in
    let marks = next_mark-same (body_of xs l) (body_of ys l) point (int_gap point (l.hi +ℤ l.grid.period)) (λ at above none. same.marks at above) in
    let end = ap (turn_end l.grid l.hi) marks in
    λ i. record { start = start; end = end i; value = value i }

-- what is left of a list that fills a stretch fills it from where the first snapshots end
pub Fill-rest : (lo hi : ℤ) (g a : List Snapshot) → Fill lo hi (g ++ a) → (mid : ℤ) × Fill lo mid g × Fill mid hi a
Fill-rest lo hi [] a fills = (lo, refl, fills)
Fill-rest lo hi (s ∷ g) a fills =
    let rest = Fill-rest s.end hi g a fills.2 in
    (rest.0, (fills.0, fills.1, rest.1), rest.2)

-- and so does what is left of another list that starts with the same snapshots
Fill-other : (lo mid hi : ℤ) (g b : List Snapshot) → Fill lo mid g → Fill lo hi (g ++ b) → Fill mid hi b
Fill-other lo mid hi [] b gone fills = subst (λ (start : ℤ). Fill start hi b) gone fills
Fill-other lo mid hi (s ∷ g) b gone fills = Fill-other s.end mid hi g b gone.2 fills.2

-- all that fills a stretch ends below the tick after it
Fill-ends : (lo mid : ℤ) (g : List Snapshot) → Fill lo mid g → AllByRecursion (EndsBelow (mid +ℤ pos 1)) g
Fill-ends lo mid [] gone = tt
Fill-ends lo mid (s ∷ g) gone =
    let start = gone.0 in
    let rises = gone.1 in
    let above = Fill-up s.end mid g gone.2 in
    ((omega (arith, ints), omega (arith, ints)), Fill-ends s.end mid g gone.2)

-- lists that fill the same stretch have the same marks up to its first tick
first-marks : (lo hi tick : ℤ) (a b : List Snapshot) → Fill lo hi a → Fill lo hi b → tick ≤ℤ (lo +ℤ pos 1) → mark_at a tick ≡ mark_at b tick
first-marks lo hi tick [] [] fills others low = refl
first-marks lo hi tick [] (r ∷ rs) fills others low = let rises = others.1 in absurd (omega (arith, ints, Fill-up r.end hi rs others.2))
first-marks lo hi tick (s ∷ ss) [] fills others low = let rises = fills.1 in absurd (omega (arith, ints, Fill-up s.end hi ss fills.2))
first-marks lo hi tick (s ∷ ss) (r ∷ rs) fills others low =
    by_lt_z lo tick
    (λ first.
    let at = fills.0 in
    let there = others.0 in
    let start : tick ≡ s.start +ℤ pos 1 = omega (arith, ints) in
    let other : tick ≡ r.start +ℤ pos 1 = omega (arith, ints) in
    ap (mark_at (s ∷ ss)) start ∙ mark_at-start [] s ss ∙ sym (ap (mark_at (r ∷ rs)) other ∙ mark_at-start [] r rs))
    (λ before.
    mark_at-before lo hi (s ∷ ss) tick (Fill-InOrder lo hi (s ∷ ss) fills) before
    ∙ sym (mark_at-before lo hi (r ∷ rs) tick (Fill-InOrder lo hi (r ∷ rs) others) before))

-- if two lists start with the same snapshots and as many of both end below a tick, as many do of what is left of them
ended-left : (tick : ℤ) (g a b : List Snapshot) → ended_below tick (g ++ a) ≡ ended_below tick (g ++ b) → ended_below tick a ≡ ended_below tick b
ended-left tick [] a b same = same
ended-left tick (s ∷ g) a b same = ended-left tick g a b (by (int_lt s.end tick) (ended_below tick (g ++ a)) (ended_below tick (g ++ b)) same)
  where
    by : (ends : Bool) (m n : ℕ) → (if ends then suc m else m) ≡ (if ends then suc n else n) → m ≡ n
    by true m n is = omega arith
    by false m n is = is

module _ (lo hi : ℤ) (g a b : List Snapshot) (fills : Fill lo hi (g ++ a)) (others : Fill lo hi (g ++ b)) where
  -- if both fill the same stretch and have the same cell at a tick, so has what is left of them
  cells-left : (tick : ℤ) → cell_at (g ++ a) tick ≡ cell_at (g ++ b) tick → cell_at a tick ≡ cell_at b tick
  cells-left tick same =
      let rest = Fill-rest lo hi g a fills in
      let mid = rest.0 in
      let ends = Fill-ends lo mid g rest.1 in
      by_lt_z mid tick
      (λ above. sym (cell-left (mid +ℤ pos 1) tick g a (omega (arith, ints)) ends) ∙ same ∙ cell-left (mid +ℤ pos 1) tick g b (omega (arith, ints)) ends)
      (λ below.
      cell_at-before mid hi a tick (Fill-InOrder mid hi a rest.2) below
      ∙ sym (cell_at-before mid hi b tick (Fill-InOrder mid hi b (Fill-other lo mid hi g b rest.1 others)) below))

  -- at each tick, what is left of them has the same mark, or each has that of its whole list
  marks-left : (tick : ℤ) → (mark_at a tick ≡ mark_at b tick) ⊎ ((mark_at (g ++ a) tick ≡ mark_at a tick) × (mark_at (g ++ b) tick ≡ mark_at b tick))
  marks-left tick =
      let rest = Fill-rest lo hi g a fills in
      let mid = rest.0 in
      let ends = Fill-ends lo mid g rest.1 in
      by_lt_z (mid +ℤ pos 1) tick
      (λ above. inr (mark-left (mid +ℤ pos 1) tick g a above ends, mark-left (mid +ℤ pos 1) tick g b above ends))
      (λ below. inl (first-marks mid hi tick a b rest.2 (Fill-other lo mid hi g b rest.1 others) below))

  -- so the same marks stay the same
  marks-same : (tick : ℤ) → mark_at (g ++ a) tick ≡ mark_at (g ++ b) tick → mark_at a tick ≡ mark_at b tick
  marks-same tick same = elim (marks-left tick) [ inl is ↦ is | inr whole ↦ sym whole.0 ∙ same ∙ whole.1 ]

  -- and a mark that stays does so in what is left
  marks-kept : (tick : ℤ) → (mark_at (g ++ a) tick ≡ true → mark_at (g ++ b) tick ≡ true) → mark_at a tick ≡ true → mark_at b tick ≡ true
  marks-kept tick kept is = elim (marks-left tick) [ inl same ↦ sym same ∙ is | inr whole ↦ sym whole.1 ∙ kept (whole.0 ∙ is) ]

-- if a list goes on as another one that starts with the same snapshots, what is left of it goes on as what is left of the other
pub rest-goes_on : (h : Horizon) (lo hi : ℤ) (g a b : List Snapshot) → Fill lo hi (g ++ a) → Fill lo hi (g ++ b) → RestsOn h (g ++ a) (g ++ b)
    → RestsOn h a b
rest-goes_on h lo hi g a b fills others goes = record {
  ended = λ tick known. ended-left tick g a b (goes.ended tick known);
  cells = λ tick known. cells-left lo hi g a b fills others tick (goes.cells tick known);
  marks = λ tick known. marks-same lo hi g a b fills others tick (goes.marks tick known);
  kept = λ tick wide. marks-kept lo hi g a b fills others tick (goes.kept tick wide);
}
