-- A state and a turn over other lists, which tell the same as far as the loop reads them.
use Rattle.std.proofs.Common.{◌≡◌, ◌⊎◌, inl, inr, Vec, Global, ℕ, zero, suc, ℤ, pos, neg_ℤ, ◌+ℤ◌, ◌-ℤ◌, ◌≤ℤ◌, List, [], ◌∷◌, ◌++◌, map, get_or, length, Option, None, refl, ap, subst, ◌∙◌, sym, arith}
use Rattle.std.specs.Int.{int_gap}
use Rattle.std.specs.List.{AllByRecursion}
use Rattle.std.proofs.lemmas.Int.{ints, by_lt_z}
use Rattle.tilt_base.specs.Grid.{ceil}
use Rattle.tilt_base.specs.Reduce.{numbers, reduce}
use Rattle.tilt_base.specs.declared.limits.TheConstants.{WIDE}
use Rattle.tilt_code.proofs.Constancy.{instr_cell-same}
use Rattle.tilt_code.specs.Body.{body_of, instr_cell, last_or, leaf_marked, leaf_of, mapped, with_registers}
use Rattle.tilt_code.specs.Code.{Block, LoopParts}
use Rattle.tilt_code.specs.Turn.{turn, turn_end}
use Rattle.tilt_code.specs.declared.instr.Instr.{Instr}
use Rattle.tilt_code.specs.declared.instr.Instr.TheVariants.{Const, Null, Argument, Port, Win, One, Two, If}
use Rattle.tilt_stream.proofs.Cut.{int_gap_is, int_gap_none}
use Rattle.tilt_stream.proofs.Locality.{met-agrees}
use Rattle.tilt_stream.specs.Agreement.{IsSameUpTo}
use Rattle.tilt_stream.specs.Snap.{Snapshot, ended_below}
use Rattle.tilt_stream.specs.Stream.{Stream, cell_at, mark_at, stream_of}
use Rattle.tilt_stream.specs.Window.{met}
use Rattle.tilt_stream.specs.declared.cursor.Cursor.{Cursor}
use Rattle.tilt_stream.specs.declared.seen.Seen.{Seen}
use Rattle.tilt_turn.proofs.NextElsewhere.{names-next, same-back, same-earlier}
use Rattle.tilt_turn.proofs.Numbered.{read-stream}
use Rattle.tilt_turn.proofs.Origins.{origin-holds}
use Rattle.tilt_turn.proofs.Placing.{SeenBy}
use Rattle.tilt_stream.proofs.SameMarks.{SameNext, either-same, next_mark-same, port-same, window-same}
use Rattle.tilt_turn.proofs.Stepwise.{all-mapped, all-weaker}
use Rattle.tilt_turn.specs.Again.{leaf_again, placed_again}
use Rattle.tilt_turn.specs.Held.{AreAllRead, Holds, IsFit, IsLeafAt, IsPlaceOf, IsPlacedBy, IsPortAt, IsWindowAt, Knows, MayMove, known_next, origin, places_of}
use Rattle.tilt_stream.specs.Marked.{marked, marked_behind}
use Rattle.tilt_turn.specs.Ready.{IsReadable, IsReady}
use Rattle.tilt_turn.specs.Same.{IsAlikeFor, IsAlikeUpTo, IsSameFor}
use Rattle.tilt_turn.specs.Sight.{Sees}
use Rattle.tilt_turn.specs.declared.leaf.Leaf.{Leaf}
use Rattle.tilt_turn.specs.declared.leaf.Leaf.TheVariants as leaf
use Rattle.tilt_turn.specs.declared.moving.Moving.{Moving}
use Rattle.tilt_turn.specs.declared.moving.NextMark.{NextMark}
use Rattle.tilt_turn.specs.declared.moving.NextMark.TheVariants.{Unknown}
use Rattle.tilt_turn.specs.declared.placed.Placed.{Placed}
use Rattle.tilt_turn.specs.declared.port.PortLeaf.{PortLeaf}
use Rattle.tilt_turn.specs.declared.span.WindowLeaf.{WindowLeaf}
use Rattle.tilt_turn.specs.declared.state.LoopState.{LoopState}

-- a cursor that may move over one may move over the other
cursor-same : (a b : List Snapshot) (last tick : ℤ) (c : Cursor) → ((at : ℤ) → at ≤ℤ last → ended_below at a ≡ ended_below at b)
    → tick ≤ℤ last → MayMove a tick c → MayMove b tick c
cursor-same a b last tick c same within may =
    let onwards = may.onwards in
    let fits = may.fits in
    let ended = same c.tick (omega (arith, ints)) in
    record { fits = rw ended at fits; onwards = may.onwards }

behind-same : (x y : Stream) (tick : ℤ) (n : ℕ) → ((at : ℤ) → at ≤ℤ (tick +ℤ pos n) → x.mark at ≡ y.mark at)
    → marked_behind x tick n ≡ marked_behind y tick n
behind-same x y tick zero same = refl
behind-same x y tick (suc n) same =
    rw (same (tick +ℤ pos 1) (omega (arith, ints)), behind-same x y (tick +ℤ pos 1) n (λ at low. same at (omega (arith, ints)))) refl

marked-same : (x y : Stream) (lo hi : ℤ) → ((at : ℤ) → at ≤ℤ hi → x.mark at ≡ y.mark at) → marked x lo hi ≡ marked y lo hi
marked-same x y lo hi same =
    by_lt_z lo hi
    (λ some.
    let gap = int_gap_is lo hi (omega (arith, ints)) in
    behind-same x y lo (int_gap lo hi) (λ at low. same at (omega (arith, ints))))
    (λ none. rw (int_gap_none lo hi none) refl)

met-same : (x y : Stream) (lo hi : ℤ) → ((at : ℤ) → at ≤ℤ hi → x.cell at ≡ y.cell at) → ((at : ℤ) → at ≤ℤ hi → x.mark at ≡ y.mark at)
    → met x lo hi ≡ met y lo hi
met-same x y lo hi cells marks =
    met-agrees x y lo hi lo hi (record { cells = λ at above below. cells at below; marks = λ at above below. marks at below })
    (omega (arith, ints)) (omega (arith, ints))

-- and a window that holds what one list says holds what the other says
holds-same : (a b : List Snapshot) (last first : ℤ) (f : Option ℤ → Option ℤ) (w : Moving)
    → ((at : ℤ) → at ≤ℤ last → cell_at a at ≡ cell_at b at) → ((at : ℤ) → at ≤ℤ last → mark_at a at ≡ mark_at b at)
    → w.back.tick ≤ℤ last → Holds a f first w → Holds b f first w
holds-same a b last first f w cells marks within held =
    let near : (at : ℤ) → at ≤ℤ w.back.tick → mark_at a at ≡ mark_at b at = λ at below. marks at (omega (arith, ints)) in
    record {
      cells = held.cells ∙ ap (map f) (met-same (stream_of a) (stream_of b) (first -ℤ pos 1) w.back.tick
          (λ at below. cells at (omega (arith, ints))) near);
      marks = held.marks ∙ marked-same (stream_of a) (stream_of b) first w.back.tick near;
    }

-- lists that tell the same up to a tick are alike up to it
same-alike : (a b : List Snapshot) (last : ℤ) → IsSameUpTo last a b → IsAlikeUpTo last a b
same-alike a b last s = record { ended = s.ended; cells = s.cells; marks = s.marks }

-- and one that knows the place of its last tick, and its next mark, knows it of the other
knows-same : (a b : List Snapshot) (last : ℤ) (w : Moving) → IsSameUpTo last a b → w.back.tick ≤ℤ last → Knows a w → Knows b w
knows-same a b last w s within knows = record {
  place = knows.place ∙ s.ended w.back.tick within;
  next = names-next (stream_of a) (stream_of b) w.back.tick (known_next w.next) (same-earlier a b last w.back.tick within s).next knows.next;
  low = knows.low;
  high = knows.high;
}

-- so it knows as much of the other as it has to know before it moves on
known-same : (a b : List Snapshot) (last : ℤ) (w : Moving) → IsSameUpTo last a b → w.back.tick ≤ℤ last → (w.next ≡ Unknown) ⊎ Knows a w
    → (w.next ≡ Unknown) ⊎ Knows b w
known-same a b last w s within (inl unknown) = inl unknown
known-same a b last w s within (inr knows) = inr (knows-same a b last w s within knows)

-- a port that may be read over the one may be read over the other
port-there : (a b : List (List Snapshot)) (at point : ℤ) (p : PortLeaf) → at ≤ℤ point
    → IsAlikeUpTo (point +ℤ p.offset) (get_or a p.buffer []) (get_or b p.buffer []) → IsPortAt a at p → IsPortAt b at p
port-there a b at point p onwards s is = (
  is.0,
  cursor-same (get_or a p.buffer []) (get_or b p.buffer []) (point +ℤ p.offset) (at +ℤ p.offset) p.cursor s.ended (omega (arith, ints)) is.1,
)

-- so may a window with this next mark, if it is unknown or also that of the other
window-there : (a b : List (List Snapshot)) (maps : List Block) (at point : ℤ) (w : WindowLeaf) (next : NextMark) → at ≤ℤ point
    → IsAlikeUpTo (point +ℤ w.to) (get_or a w.buffer []) (get_or b w.buffer [])
    → (w.window.back.tick ≤ℤ (point +ℤ w.to) → (w.window.next ≡ Unknown) ⊎ Knows (get_or a w.buffer []) w.window
    → (next ≡ Unknown) ⊎ Knows (get_or b w.buffer []) (record w.window { next = next }))
    → IsWindowAt a maps at w → IsWindowAt b maps at (record w { window = record w.window { next = next } })
window-there a b maps at point w next onwards s knows is =
    let stands = is.cursor.onwards in
    let list = get_or a w.buffer [] in
    let other = get_or b w.buffer [] in
    let last = point +ℤ w.to in
    let within : w.window.back.tick ≤ℤ last = omega (arith, ints) in
    let held = holds-same list other last (at +ℤ w.from +ℤ pos 1) (mapped maps w.map) w.window s.cells s.marks within is.begins.held in
    record {
      readable = is.readable;
      cursor = cursor-same list other last (at +ℤ w.to) w.window.back s.ended (omega (arith, ints)) is.cursor;
      begins = record {
        held = record { cells = held.cells; marks = held.marks };
        known = λ some.
            let may = is.begins.known some in
            record { place = may.place ∙ s.ended w.window.back.tick within; known = knows within may.known };
      };
    }

-- a leaf that may be read over the one may be read over the other
leaf-there : (a b : List (List Snapshot)) (maps : List Block) (at point : ℤ) (own : Leaf) → at ≤ℤ point
    → IsSameFor a b point (origin own) → IsLeafAt a maps at own → IsLeafAt b maps at own
leaf-there a b maps at point (leaf.Port p) onwards s is =
    port-there a b at point p onwards (same-alike (get_or a p.buffer []) (get_or b p.buffer []) (point +ℤ p.offset) s) is
leaf-there a b maps at point (leaf.Window w) onwards s is =
    let list = get_or a w.buffer [] in
    let other = get_or b w.buffer [] in
    let last = point +ℤ w.to in
    window-there a b maps at point w w.window.next onwards (same-alike list other last s) (λ within known. known-same list other last w.window s within known) is

-- and over lists that are only alike, if it is looked at again
leaf-again : (a b : List (List Snapshot)) (maps : List Block) (at point : ℤ) (own : Leaf) → at ≤ℤ point
    → IsAlikeFor a b point (origin own) → IsLeafAt a maps at own → IsLeafAt b maps at (leaf_again own)
leaf-again a b maps at point (leaf.Port p) onwards s is = port-there a b at point p onwards s is
leaf-again a b maps at point (leaf.Window w) onwards s is = window-there a b maps at point w Unknown onwards s (λ within known. inl refl) is

again-origin : (own : Leaf) → origin (leaf_again own) ≡ origin own
again-origin (leaf.Port p) = refl
again-origin (leaf.Window w) = refl

-- the cell of a leaf at the grid point
leaf_cell-same : (a b : List (List Snapshot)) (maps : List Block) (point : ℤ) (i : Instr) → IsSameFor a b point i
    → (leaf_of (map stream_of a) maps i).cell point ≡ (leaf_of (map stream_of b) maps i).cell point
leaf_cell-same a b maps point (Const number) s = refl
leaf_cell-same a b maps point Null s = refl
leaf_cell-same a b maps point Argument s = refl
leaf_cell-same a b maps point (Port buffer offset) s =
    ap (λ (x : Stream). x.cell (point +ℤ offset)) (read-stream a buffer) ∙ s.cells (point +ℤ offset) (omega (arith, ints))
    ∙ sym (ap (λ (x : Stream). x.cell (point +ℤ offset)) (read-stream b buffer))
leaf_cell-same a b maps point (Win reducer buffer from to number) s =
    let given : List (Option ℤ) → Option ℤ = λ cells. reduce reducer (numbers (map (mapped maps number) cells)) in
    ap (λ (x : Stream). given (met x (point +ℤ from) (point +ℤ to))) (read-stream a buffer)
    ∙ ap given (met-same (stream_of (get_or a buffer [])) (stream_of (get_or b buffer [])) (point +ℤ from) (point +ℤ to) s.cells s.marks)
    ∙ sym (ap (λ (x : Stream). given (met x (point +ℤ from) (point +ℤ to))) (read-stream b buffer))
leaf_cell-same a b maps point (One op r) s = refl
leaf_cell-same a b maps point (Two op r q) s = refl
leaf_cell-same a b maps point (If c r q) s = refl

-- the next mark of a leaf above the grid point
leaf_next-same : (a b : List (List Snapshot)) (maps : List Block) (point : ℤ) (buffers known : ℕ) (i : Instr) → IsReadable buffers known i
    → IsSameFor a b point i → SameNext (leaf_of (map stream_of a) maps i).mark (leaf_of (map stream_of b) maps i).mark point
leaf_next-same a b maps point buffers known (Const number) readable s = λ at above none. refl
leaf_next-same a b maps point buffers known Null readable s = λ at above none. refl
leaf_next-same a b maps point buffers known Argument readable s = λ at above none. refl
leaf_next-same a b maps point buffers known (Port buffer offset) readable s =
    rw (read-stream a buffer, read-stream b buffer) (port-same (get_or a buffer []) (get_or b buffer []) offset point s)
leaf_next-same a b maps point buffers known (Win reducer buffer from to number) readable s =
    rw (read-stream a buffer, read-stream b buffer)
    (window-same (mapped maps number) reducer from to (get_or a buffer []) (get_or b buffer []) point readable.1.some_ticks s)
leaf_next-same a b maps point buffers known (One op r) readable s = λ at above none. refl
leaf_next-same a b maps point buffers known (Two op r q) readable s = λ at above none. refl
leaf_next-same a b maps point buffers known (If c r q) readable s = λ at above none. refl

-- so the same is seen of it there
seen-same : (a b : List (List Snapshot)) (maps : List Block) (point : ℤ) (buffers known : ℕ) (i : Instr) (seen : Seen) → IsReadable buffers known i
    → IsSameFor a b point i → Sees (leaf_of (map stream_of a) maps i) point seen → Sees (leaf_of (map stream_of b) maps i) point seen
seen-same a b maps point buffers known i seen readable s sees = record {
  cell = sees.cell ∙ leaf_cell-same a b maps point i s;
  next = names-next (leaf_of (map stream_of a) maps i) (leaf_of (map stream_of b) maps i) point seen.next
      (leaf_next-same a b maps point buffers known i readable s) sees.next;
  bounds = sees.bounds;
}

-- and at an earlier grid point
seen-there : (a b : List (List Snapshot)) (maps : List Block) (at before point : ℤ) (own : Leaf) (seen : Seen) → before ≤ℤ point
    → IsSameFor a b point (origin own) → IsLeafAt a maps at own
    → Sees (leaf_of (map stream_of a) maps (origin own)) before seen → Sees (leaf_of (map stream_of b) maps (origin own)) before seen
seen-there a b maps at before point (leaf.Port p) seen onwards s is sees =
    seen-same a b maps before (suc p.buffer) (length maps) (Port p.buffer p.offset) seen (omega arith, is.0)
    (same-earlier (get_or a p.buffer []) (get_or b p.buffer []) (point +ℤ p.offset) (before +ℤ p.offset) (omega (arith, ints)) s) sees
seen-there a b maps at before point (leaf.Window w) seen onwards s is sees =
    seen-same a b maps before (suc w.buffer) (length maps) (origin (leaf.Window w)) seen (omega arith, is.readable)
    (same-earlier (get_or a w.buffer []) (get_or b w.buffer []) (point +ℤ w.to) (before +ℤ w.to) (omega (arith, ints)) s) sees

-- so a leaf of a body is as well placed over the other
placed-there : (a b : List (List Snapshot)) (maps : List Block) (body : Block) (cells : List (Option ℤ)) (before point : ℤ) (own : Placed)
    → before ≤ℤ point → IsSameFor a b point (origin own.leaf) → IsPlacedBy a maps body cells before own → IsPlacedBy b maps body cells before own
placed-there a b maps body cells before point own onwards s is =
    let at = is.leaf.0 in
    let within = is.leaf.1 in
    let later : at ≤ℤ point = omega (arith, ints) in
    record {
      leaf = (at, within, leaf-there a b maps at point own.leaf later s is.leaf.2);
      places = is.places;
      known = λ stays.
          all-weaker (SeenBy a maps body before (origin own.leaf) own.next cells) (SeenBy b maps body before (origin own.leaf) own.next cells)
          (places_of own)
          (λ place sees. seen-there a b maps at before point own.leaf _ onwards s is.leaf.2 sees) (is.known stays);
    }

-- a state that is fit over lists is fit over others that tell the same up to where the loop reads at a later grid point
pub fit-elsewhere : (a b : List (List Snapshot)) (l : LoopParts) (before point : ℤ) (state : LoopState)
    → AllByRecursion (IsSameFor a b point) l.body → before ≤ℤ point → IsFit a l before state → IsFit b l before state
fit-elsewhere a b l before point state same onwards fit = record {
  all = fit.all;
  registers = fit.registers;
  computed = fit.computed;
  leaves = all-weaker (IsPlacedBy a l.maps l.body state.registers.items before) (IsPlacedBy b l.maps l.body state.registers.items before)
      state.leaves.items
      (λ own at. placed-there a b l.maps l.body state.registers.items before point own onwards
      (origin-holds (IsSameFor a b point) l.body own same at.places) at) fit.leaves;
}

-- and a leaf of a body that is looked at again is as well placed over lists that are only alike
placed-again : (a b : List (List Snapshot)) (maps : List Block) (body : Block) (cells : List (Option ℤ)) (point : ℤ) (own : Placed)
    → neg_ℤ WIDE ≤ℤ point → IsAlikeFor a b point (origin own.leaf) → IsPlacedBy a maps body cells point own
    → IsPlacedBy b maps body cells point (placed_again own)
placed-again a b maps body cells point own low s is = record {
  leaf = (is.leaf.0, is.leaf.1, leaf-again a b maps is.leaf.0 point own.leaf is.leaf.1 s is.leaf.2);
  places = subst (λ (i : Instr). AllByRecursion (IsPlaceOf body i) (places_of own)) (sym (again-origin own.leaf)) is.places;
  known = λ stays. absurd (omega (arith, ints));
}

again-places : (leaves : List Placed) → map places_of (map placed_again leaves) ≡ map places_of leaves
again-places [] = refl
again-places (own ∷ rest) = ap (λ (all : List (List ℕ)). places_of own ∷ all) (again-places rest)

-- so a state whose leaves are all looked at again is fit over them
pub fit-again : (a b : List (List Snapshot)) (l : LoopParts) (point : ℤ) (state : LoopState) (leaves : Vec Placed Global)
    → neg_ℤ WIDE ≤ℤ point → AllByRecursion (IsAlikeFor a b point) l.body → leaves.items ≡ map placed_again state.leaves.items
    → IsFit a l point state → IsFit b l point (record state { leaves = leaves })
fit-again a b l point state leaves low alike is fit =
    let placed = IsPlacedBy a l.maps l.body state.registers.items point in
    let elsewhere = IsPlacedBy b l.maps l.body state.registers.items point in
    record {
      all = subst (AreAllRead l.body) (sym (ap (map places_of) is ∙ again-places state.leaves.items)) fit.all;
      leaves = subst (AllByRecursion elsewhere) (sym is)
          (all-mapped placed_again placed elsewhere state.leaves.items
          (λ own at. placed-again a b l.maps l.body state.registers.items point own low
          (origin-holds (IsAlikeFor a b point) l.body own alike at.places) at) fit.leaves);
      computed = fit.computed;
      registers = fit.registers;
    }

-- the same the other way round
for-back : (a b : List (List Snapshot)) (point : ℤ) (i : Instr) → IsSameFor a b point i → IsSameFor b a point i
for-back a b point (Port buffer offset) s = same-back (get_or a buffer []) (get_or b buffer []) (point +ℤ offset) s
for-back a b point (Win reducer buffer from to number) s = same-back (get_or a buffer []) (get_or b buffer []) (point +ℤ to) s
for-back a b point (Const number) s = tt
for-back a b point Null s = tt
for-back a b point Argument s = tt
for-back a b point (One op r) s = tt
for-back a b point (Two op r q) s = tt
for-back a b point (If c r q) s = tt

pub fit-back : (a b : List (List Snapshot)) (l : LoopParts) (before point : ℤ) (state : LoopState)
    → AllByRecursion (IsSameFor a b point) l.body → before ≤ℤ point → IsFit b l before state → IsFit a l before state
fit-back a b l before point state same onwards fit =
    fit-elsewhere b a l before point state (all-weaker (IsSameFor a b point) (IsSameFor b a point) l.body (for-back a b point) same) onwards fit

registers-same : (f g : Instr → Option ℤ) (cells : List (Option ℤ)) (block : Block) → AllByRecursion (λ (i : Instr). f i ≡ g i) block
    → with_registers f cells block ≡ with_registers g cells block
registers-same f g cells [] same = refl
registers-same f g cells (i ∷ block) same =
    ap (λ (cell : Option ℤ). with_registers f (cells ++ cell ∷ []) block) (instr_cell-same f g cells i same.0)
    ∙ registers-same f g (cells ++ instr_cell g cells i ∷ []) block same.1

-- the cell of the body at the grid point
cell-same : (a b : List (List Snapshot)) (l : LoopParts) (point : ℤ) → AllByRecursion (IsSameFor a b point) l.body
    → (body_of (map stream_of a) l).cell point ≡ (body_of (map stream_of b) l).cell point
cell-same a b l point same =
    let f : Instr → Option ℤ = λ i. (leaf_of (map stream_of a) l.maps i).cell point in
    let g : Instr → Option ℤ = λ i. (leaf_of (map stream_of b) l.maps i).cell point in
    ap (last_or None) (registers-same f g [] l.body
    (all-weaker (IsSameFor a b point) (λ (i : Instr). f i ≡ g i) l.body (λ i s. leaf_cell-same a b l.maps point i s) same))

-- and the next mark of all its leaves
next-same : (a b : List (List Snapshot)) (maps : List Block) (point : ℤ) (buffers known : ℕ) (block : Block)
    → AllByRecursion (IsReadable buffers known) block → AllByRecursion (IsSameFor a b point) block
    → SameNext (λ at. leaf_marked (map stream_of a) maps at block) (λ at. leaf_marked (map stream_of b) maps at block) point
next-same a b maps point buffers known [] readable same = λ at above none. refl
next-same a b maps point buffers known (i ∷ block) readable same =
    either-same (leaf_of (map stream_of a) maps i).mark (λ at. leaf_marked (map stream_of a) maps at block)
    (leaf_of (map stream_of b) maps i).mark (λ at. leaf_marked (map stream_of b) maps at block) point
    (leaf_next-same a b maps point buffers known i readable.0 same.0)
    (next-same a b maps point buffers known block readable.1 same.1)

-- a turn over lists is the turn over others that tell the same up to where the loop reads at its grid point
pub turn-elsewhere : (a b : List (List Snapshot)) (l : LoopParts) (start : ℤ) (buffers : ℕ) → IsReady buffers l
    → AllByRecursion (IsSameFor a b (ceil l.grid (start +ℤ pos 1))) l.body
    → turn (body_of (map stream_of a) l) l.grid l.hi start ≡ turn (body_of (map stream_of b) l) l.grid l.hi start
turn-elsewhere a b l start buffers ready same =
    let point = ceil l.grid (start +ℤ pos 1) in
    let value = cell-same a b l point same in
    let marks = next_mark-same (body_of (map stream_of a) l) (body_of (map stream_of b) l) point (int_gap point (l.hi +ℤ l.grid.period))
    (next-same a b l.maps point buffers (length l.maps) l.body ready.leaves same) in
    let end = ap (turn_end l.grid l.hi) marks in
    λ i. record { start = start; end = end i; value = value i }
