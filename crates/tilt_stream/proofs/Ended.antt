-- How many snapshots end below a tick, and what the next one says of that tick and of the marks above it.
use Rattle.std.proofs.Common.{subst, ◌≡◌, ◌≤◌, ◌<◌, ℕ, zero, suc, ℤ, pos, ◌+ℤ◌, ◌<ℤ◌, ◌≤ℤ◌, Bool, true, false, if◌then◌else◌, int_lt, int_le, List, [], ◌∷◌, length, nat_lt, get_or, slice_get}
use Rattle.std.proofs.Common.{Option, Some, None, refl, arith, ap, sym, ◌∙◌}
use Rattle.std.specs.List.Sorted.{IsPartitionPoint, IsPartitionedBy}
use Rattle.std.specs.Ordering.{int_eq}
use Rattle.std.proofs.lemmas.Int.{ints}
use Rattle.std.proofs.lemmas.Option.{slice_get_read, slice_get_past}
use Rattle.tilt_stream.proofs.Rising.{parted}
use Rattle.tilt_stream.proofs.Streams.{cell_at-before, mark_at-before, mark_at-within, mark_at-start, mark_at-end}
use Rattle.tilt_stream.specs.Marks.{IsNextMark, HasNoMarkAbove, NamesNextMark}
use Rattle.tilt_stream.specs.Snap.{Snapshot, InOrder, ended_below}
use Rattle.tilt_stream.specs.Stream.{Stream, cell_at, covers, mark_at, stream_of}

-- those that end below a tick are before the others
pub ended-parted : (from limit : ℤ) (list : List Snapshot) (tick : ℤ) → InOrder from limit list → IsPartitionedBy (λ (s : Snapshot). int_lt s.end tick) list
ended-parted from limit list tick h = parted (λ s. s.end) (λ s width. (omega (arith, ints), omega (arith, ints))) from limit list tick h

-- a search that parts them finds how many they are
pub ended-counted : (list : List Snapshot) (tick : ℤ) (i : ℕ) → i ≤ length list
    → IsPartitionPoint (λ (s : Snapshot). int_lt s.end tick ≡ true) (λ (s : Snapshot). int_lt s.end tick ≡ false) list i
    → i ≡ ended_below tick list
ended-counted [] tick i within point = omega arith
ended-counted (s ∷ ss) tick zero within point =
    let out = point.1 0 s (omega arith) (omega arith) in
    rw out (ended-counted ss tick zero (omega arith) ((λ k d l h. absurd (omega arith)), (λ k d l h. point.1 (suc k) d (omega arith) (omega arith))))
ended-counted (s ∷ ss) tick (suc i) within point =
    let in_ = point.0 0 s (omega arith) (omega arith) in
    rw in_ (ap suc (ended-counted ss tick i (omega arith) ((λ k d l h. point.0 (suc k) d (omega arith) (omega arith)), (λ k d l h. point.1 (suc k) d (omega arith) (omega arith)))))

-- the cell that the next one gives a tick
abbrev pub cell_by : Option Snapshot → ℤ → Option ℤ
cell_by None tick = None
cell_by (Some s) tick = if int_lt s.start tick then s.value else None

-- none ends below a tick at or below the lower bound of all
pub none_ended : (from limit : ℤ) (list : List Snapshot) (tick : ℤ) → InOrder from limit list → tick ≤ℤ from → ended_below tick list ≡ 0
none_ended from limit [] tick h low = refl
none_ended from limit (s ∷ ss) tick h low =
    let a = h.0 in
    let b = h.1 in
    let out : int_lt s.end tick ≡ false = grind (arith, ints) in
    rw out (none_ended s.end limit ss tick h.3 (omega (arith, ints)))

-- at a list that begins with this one: it ends below the tick, or it is the next one, and the tick lies on it or before it
cell-next : (from limit : ℤ) (s : Snapshot) (ss : List Snapshot) (tick : ℤ) → InOrder from limit (s ∷ ss)
    → cell_by (slice_get ss (ended_below tick ss)) tick ≡ cell_at ss tick → (ended begun : Bool) → int_lt s.end tick ≡ ended
    → int_lt s.start tick ≡ begun → cell_by (slice_get (s ∷ ss) (ended_below tick (s ∷ ss))) tick ≡ cell_at (s ∷ ss) tick
cell-next from limit s ss tick h rest true begun is from_is =
    let outside : covers s tick ≡ false = grind (arith, ints) in
    rw (is, outside) rest
cell-next from limit s ss tick h rest false true is from_is =
    let none = none_ended s.end limit ss tick h.3 (grind (arith, ints)) in
    let inside : covers s tick ≡ true = grind (arith, ints) in
    rw (is, none, inside, from_is) refl
cell-next from limit s ss tick h rest false false is from_is =
    let none = none_ended s.end limit ss tick h.3 (grind (arith, ints)) in
    let outside : covers s tick ≡ false = grind (arith, ints) in
    rw (is, none, outside, from_is) (sym (cell_at-before s.end limit ss tick h.3 (grind (arith, ints))))

-- the cell at a tick is that of the first one that doesn't end below it, where that one covers it
pub ended-cell : (from limit : ℤ) (list : List Snapshot) (tick : ℤ) → InOrder from limit list → cell_by (slice_get list (ended_below tick list)) tick ≡ cell_at list tick
ended-cell from limit [] tick h = refl
ended-cell from limit (s ∷ ss) tick h =
    cell-next from limit s ss tick h (ended-cell s.end limit ss tick h.3) (int_lt s.end tick) (int_lt s.start tick) refl refl

-- the same, by cases
pub cell-found : (from limit : ℤ) (list : List Snapshot) (tick : ℤ) (s : Snapshot) → InOrder from limit list
    → slice_get list (ended_below tick list) ≡ Some s → s.start <ℤ tick → s.value ≡ cell_at list tick
cell-found from limit list tick s h is begun =
    let test : int_lt s.start tick ≡ true = grind (arith, ints) in
    rw (is, test) at (ended-cell from limit list tick h)

pub cell-before : (from limit : ℤ) (list : List Snapshot) (tick : ℤ) (s : Snapshot) → InOrder from limit list
    → slice_get list (ended_below tick list) ≡ Some s → tick ≤ℤ s.start → None ≡ cell_at list tick
cell-before from limit list tick s h is before =
    let test : int_lt s.start tick ≡ false = grind (arith, ints) in
    rw (is, test) at (ended-cell from limit list tick h)

pub cell-behind : (from limit : ℤ) (list : List Snapshot) (tick : ℤ) → InOrder from limit list → slice_get list (ended_below tick list) ≡ None → None ≡ cell_at list tick
cell-behind from limit list tick h is = rw is at (ended-cell from limit list tick h)

-- the mark above a tick that the next one gives: at its first tick if it starts there or later, and else after its last
abbrev pub mark_by : Option Snapshot → ℤ → Option ℤ
mark_by None tick = None
mark_by (Some s) tick = Some ((if int_le tick s.start then s.start else s.end) +ℤ pos 1)

-- the next mark stays as it is where the marks above the tick do
pub names-same : (x y : Stream) (tick : ℤ) → ((other : ℤ) → tick <ℤ other → x.mark other ≡ y.mark other) → (answer : Option ℤ) → NamesNextMark y tick answer → NamesNextMark x tick answer
names-same x y tick same None names = λ other above. same other above ∙ names other above
names-same x y tick same (Some next) names = record {
  above = names.above;
  marked = same next names.above ∙ names.marked;
  least = λ other above below. same other above ∙ names.least other above below;
}

-- above a tick after which the first one has ended, the marks are those of the rest
mark-passed : (from limit : ℤ) (s : Snapshot) (ss : List Snapshot) (tick other : ℤ) → InOrder from limit (s ∷ ss) → s.end <ℤ tick → tick <ℤ other → mark_at (s ∷ ss) other ≡ mark_at ss other
mark-passed from limit s ss tick other h ended above =
    let width = h.1 in
    let start : int_eq other (s.start +ℤ pos 1) ≡ false = grind (arith, ints) in
    let end : int_eq other (s.end +ℤ pos 1) ≡ false = grind (arith, ints) in
    rw (start, end) refl

-- the next mark of a list whose first one hasn't ended: where it begins, or after its last tick
mark-first : (from limit : ℤ) (s : Snapshot) (ss : List Snapshot) (tick : ℤ) → InOrder from limit (s ∷ ss) → tick ≤ℤ s.end
    → (before : Bool) → int_le tick s.start ≡ before → NamesNextMark (stream_of (s ∷ ss)) tick (mark_by (Some s) tick)
mark-first from limit s ss tick h ongoing true is =
    let low : tick ≤ℤ s.start = grind (arith, ints) in
    rw is (record {
      above = omega (arith, ints);
      marked = mark_at-start [] s ss;
      least = λ other above below. mark_at-before s.start limit (s ∷ ss) other (omega (arith, ints), h.1, h.2, h.3) (omega (arith, ints));
    })
mark-first from limit s ss tick h ongoing false is =
    let high : s.start <ℤ tick = grind (arith, ints) in
    rw is (record {
      above = omega (arith, ints);
      marked = mark_at-end [] s ss;
      least = λ other above below. mark_at-within from limit [] s ss other h (omega (arith, ints)) (omega (arith, ints));
    })

mark-next : (from limit : ℤ) (s : Snapshot) (ss : List Snapshot) (tick : ℤ) → InOrder from limit (s ∷ ss)
    → NamesNextMark (stream_of ss) tick (mark_by (slice_get ss (ended_below tick ss)) tick) → (ended : Bool) → int_lt s.end tick ≡ ended
    → NamesNextMark (stream_of (s ∷ ss)) tick (mark_by (slice_get (s ∷ ss) (ended_below tick (s ∷ ss))) tick)
mark-next from limit s ss tick h rest true is =
    let below : s.end <ℤ tick = grind (arith, ints) in
    rw is (names-same (stream_of (s ∷ ss)) (stream_of ss) tick (λ other above. mark-passed from limit s ss tick other h below above) _ rest)
mark-next from limit s ss tick h rest false is =
    let ongoing : tick ≤ℤ s.end = grind (arith, ints) in
    let none = none_ended s.end limit ss tick h.3 ongoing in
    rw (is, none) (mark-first from limit s ss tick h ongoing (int_le tick s.start) refl)

-- the next mark above a tick is given by the first one that doesn't end below it
pub ended-mark : (from limit : ℤ) (list : List Snapshot) (tick : ℤ) → InOrder from limit list → NamesNextMark (stream_of list) tick (mark_by (slice_get list (ended_below tick list)) tick)
ended-mark from limit [] tick h = λ other above. refl
ended-mark from limit (s ∷ ss) tick h =
    mark-next from limit s ss tick h (ended-mark s.end limit ss tick h.3) (int_lt s.end tick) refl

-- one of them lies within the bounds of all
pub InOrder-at : (from limit : ℤ) (list : List Snapshot) (i : ℕ) (s : Snapshot) → InOrder from limit list → i < length list
    → s ≡ get_or list i s → (from ≤ℤ s.start) × (s.start <ℤ s.end) × (s.end ≤ℤ limit)
InOrder-at from limit [] i s h within is = absurd (omega arith)
InOrder-at from limit (x ∷ xs) zero s h within is = subst (λ (y : Snapshot). (from ≤ℤ y.start) × (y.start <ℤ y.end) × (y.end ≤ℤ limit)) (sym is) (h.0, h.1, h.2)
InOrder-at from limit (x ∷ xs) (suc i) s h within is =
    let rest = InOrder-at x.end limit xs i s h.3 (omega arith) is in
    let a = rest.0 in
    let b = h.0 in
    let c = h.1 in
    (omega (arith, ints), rest.1, rest.2)

-- so a search that parts them finds the first one that doesn't end below the tick
pub first-found : (list : List Snapshot) (tick : ℤ) (i : ℕ) (s : Snapshot) → i ≡ ended_below tick list → i < length list → s ≡ get_or list i s → Some s ≡ slice_get list (ended_below tick list)
first-found list tick i s is within found = rw (← is) (sym (slice_get_read list (length list) i s refl within found))

pub none-found : (list : List Snapshot) (tick : ℤ) (i : ℕ) → i ≡ ended_below tick list → false ≡ nat_lt i (length list) → None ≡ slice_get list (ended_below tick list)
none-found list tick i is past = rw (← is) (sym (slice_get_past list i (grind arith)))

-- the next mark by cases
pub mark-found : (from limit : ℤ) (list : List Snapshot) (tick : ℤ) (s : Snapshot) → InOrder from limit list
    → slice_get list (ended_below tick list) ≡ Some s → s.start <ℤ tick → IsNextMark (stream_of list) tick (s.end +ℤ pos 1)
mark-found from limit list tick s h is begun =
    let test : int_le tick s.start ≡ false = grind (arith, ints) in
    rw (is, test) at (ended-mark from limit list tick h)

pub mark-before : (from limit : ℤ) (list : List Snapshot) (tick : ℤ) (s : Snapshot) → InOrder from limit list
    → slice_get list (ended_below tick list) ≡ Some s → tick ≤ℤ s.start → IsNextMark (stream_of list) tick (s.start +ℤ pos 1)
mark-before from limit list tick s h is before =
    let test : int_le tick s.start ≡ true = grind (arith, ints) in
    rw (is, test) at (ended-mark from limit list tick h)

pub mark-behind : (from limit : ℤ) (list : List Snapshot) (tick : ℤ) → InOrder from limit list → slice_get list (ended_below tick list) ≡ None → HasNoMarkAbove (stream_of list) tick
mark-behind from limit list tick h is = rw is at (ended-mark from limit list tick h)
