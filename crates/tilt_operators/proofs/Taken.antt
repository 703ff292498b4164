-- What a window meets of the stream of a list is the snapshots of the list that start before its end and end after its beginning.
use Rattle.std.proofs.Common.{◌≡◌, ℕ, zero, suc, ℤ, pos, ◌+ℤ◌, ◌-ℤ◌, ◌≤ℤ◌, ◌<ℤ◌, Bool, true, false, ◌&&◌, ◌||◌, if◌then◌else◌, int_lt, List, [], ◌∷◌, map, filter, Option, Some, None}
use Rattle.std.proofs.Common.{refl, sym, ap, ◌∙◌, arith}
use Rattle.std.specs.Int.{int_gap}
use Rattle.std.specs.Ordering.{int_eq}
use Rattle.std.proofs.lemmas.Int.{ints, by_lt_z}
use Rattle.tilt_base.specs.Reduce.{numbers}
use Rattle.tilt_stream.proofs.Cut.{int_gap_is}
use Rattle.tilt_stream.proofs.Locality.{met-agrees}
use Rattle.tilt_stream.proofs.MarkedTicks.{met-marked, marked-next, marked-none}
use Rattle.tilt_stream.proofs.Streams.{cell_at-before, mark_at-before, mark_at-within, mark_at-start, mark_at-end}
use Rattle.tilt_stream.specs.Agreement.{Agree}
use Rattle.tilt_stream.specs.Marked.{marked}
use Rattle.tilt_stream.specs.Marks.{IsNextMark}
use Rattle.tilt_stream.specs.Snap.{Snapshot, InOrder}
use Rattle.tilt_stream.specs.Stream.{Stream, stream_of, covers}
use Rattle.tilt_stream.specs.Window.{met_behind, met}

-- a snapshot has a tick in `(lo, hi]`, where it has any
abbrev pub takes : ℤ → ℤ → Snapshot → Bool
takes lo hi s = int_lt s.start hi && int_lt lo s.end

-- the values of those that have one
abbrev pub values : ℤ → ℤ → List Snapshot → List ℤ
values lo hi list = numbers (map (λ (s : Snapshot). s.value) (filter (takes lo hi) list))

-- none starts before the end
pub values-before : (from limit lo hi : ℤ) (list : List Snapshot) → InOrder from limit list → hi ≤ℤ from → values lo hi list ≡ []
values-before from limit lo hi [] h before = refl
values-before from limit lo hi (s ∷ list) h before =
    let a = h.0 in
    let b = h.1 in
    let out : takes lo hi s ≡ false = grind (arith, ints) in
    rw out (values-before s.end limit lo hi list h.3 (omega (arith, ints)))

-- none ends after the beginning
pub values-after : (from limit lo hi : ℤ) (list : List Snapshot) → InOrder from limit list → limit ≤ℤ lo → values lo hi list ≡ []
values-after from limit lo hi [] h after = refl
values-after from limit lo hi (s ∷ list) h after =
    let a = h.2 in
    let out : takes lo hi s ≡ false = grind (arith, ints) in
    rw out (values-after s.end limit lo hi list h.3 after)

-- where all end after the beginning, another one before them takes the same
values-from : (from limit lo other hi : ℤ) (list : List Snapshot) → InOrder from limit list → lo ≤ℤ from → other ≤ℤ from
    → filter (takes lo hi) list ≡ filter (takes other hi) list
values-from from limit lo other hi [] h low up = refl
values-from from limit lo other hi (s ∷ list) h low up =
    let a = h.0 in
    let b = h.1 in
    let same : takes lo hi s ≡ takes other hi s = grind (arith, ints) in
    rw (same, values-from s.end limit lo other hi list h.3 (omega (arith, ints)) (omega (arith, ints))) refl

-- over ticks that are all null there are no numbers
none-by : (cell : Option ℤ) (cells : List (Option ℤ)) (here : Bool) → cell ≡ None → numbers cells ≡ []
    → numbers (if here then cell ∷ cells else cells) ≡ []
none-by cell cells true null rest = rw null rest
none-by cell cells false null rest = rest

none-behind : (x : Stream) (begins : Bool) (tick hi : ℤ) (n : ℕ) → ((t : ℤ) → t ≤ℤ hi → x.cell t ≡ None) → (tick +ℤ pos n) ≤ℤ hi
    → numbers (met_behind x begins tick n) ≡ []
none-behind x begins tick hi zero null within = refl
none-behind x begins tick hi (suc n) null within =
    none-by (x.cell (tick +ℤ pos 1)) (met_behind x false (tick +ℤ pos 1) n) (begins || x.mark (tick +ℤ pos 1))
    (null (tick +ℤ pos 1) (omega (arith, ints))) (none-behind x false (tick +ℤ pos 1) hi n null (omega (arith, ints)))

met-none : (x : Stream) (lo hi : ℤ) → lo <ℤ hi → ((t : ℤ) → t ≤ℤ hi → x.cell t ≡ None) → numbers (met x lo hi) ≡ []
met-none x lo hi some null =
    let gap = int_gap_is lo hi (omega (arith, ints)) in
    none-behind x true lo hi (int_gap lo hi) null (omega (arith, ints))

numbers-cons : (cell : Option ℤ) (xs ys : List (Option ℤ)) → numbers xs ≡ numbers ys → numbers (cell ∷ xs) ≡ numbers (cell ∷ ys)
numbers-cons None xs ys same = same
numbers-cons (Some n) xs ys same = ap (λ (ns : List ℤ). n ∷ ns) same

-- a first snapshot and those after it
module _ (from limit : ℤ) (s : Snapshot) (list : List Snapshot) (h : InOrder from limit (s ∷ list)) (hi : ℤ) where
  abbrev x : Stream
  x = stream_of (s ∷ list)

  begun : InOrder s.start limit (s ∷ list)
  begun = (omega (arith, ints), h.1, h.2, h.3)

  -- after it the stream is that of the others
  passed : (lo : ℤ) → s.end ≤ℤ lo → Agree x (stream_of list) lo hi
  passed lo after = record {
    cells = λ tick above below.
        let outside : covers s tick ≡ false = grind (arith, ints) in
        rw outside refl;
    marks = λ tick above below.
        let width = h.1 in
        let start : int_eq tick (s.start +ℤ pos 1) ≡ false = grind (arith, ints) in
        let end : int_eq tick (s.end +ℤ pos 1) ≡ false = grind (arith, ints) in
        rw (start, end) refl;
  }

  met-passed : (lo : ℤ) → s.end ≤ℤ lo → met x lo hi ≡ met (stream_of list) lo hi
  met-passed lo after = met-agrees x (stream_of list) lo hi lo hi (passed lo after) (omega (arith, ints)) (omega (arith, ints))

  -- what is met from a tick on
  met-from : (lo : ℤ) → lo <ℤ hi → met x lo hi ≡ x.cell (lo +ℤ pos 1) ∷ map x.cell (marked x (lo +ℤ pos 1) hi)
  met-from lo some =
      let back : lo +ℤ pos 1 -ℤ pos 1 ≡ lo = omega (arith, ints) in
      ap (λ (t : ℤ). met x t hi) (sym back) ∙ met-marked x (lo +ℤ pos 1) hi (omega (arith, ints))

  -- after a tick of it, the marks are those of the others
  rest-from : (p : ℤ) → s.start <ℤ p → p ≤ℤ s.end → p ≤ℤ hi
      → ((lo : ℤ) → lo ≡ s.end → lo <ℤ hi → numbers (met (stream_of list) lo hi) ≡ values lo hi list)
      → numbers (map x.cell (marked x p hi)) ≡ values s.end hi list
  rest-from p low up within rest =
      by_lt_z s.end hi
      (λ more.
      let next : IsNextMark x p (s.end +ℤ pos 1) = record {
        above = omega (arith, ints);
        marked = mark_at-end [] s list;
        least = λ other above below. mark_at-within from limit [] s list other h (omega (arith, ints)) (omega (arith, ints));
      } in
      ap (λ (ticks : List ℤ). numbers (map x.cell ticks)) (marked-next x p hi (s.end +ℤ pos 1) next (omega (arith, ints)))
      ∙ ap numbers (sym (met-from s.end more) ∙ met-passed s.end (omega (arith, ints)))
      ∙ rest s.end refl more)
      (λ none.
      ap (λ (ticks : List ℤ). numbers (map x.cell ticks)) (marked-none x p hi within
      (λ other above below. mark_at-within from limit [] s list other h (omega (arith, ints)) (omega (arith, ints))))
      ∙ sym (values-before s.end limit s.end hi list h.3 none))

  -- from a tick of it on
  within-first : (p lo : ℤ) → s.start <ℤ p → p ≤ℤ s.end → p ≤ℤ hi → lo <ℤ s.end
      → ((lo : ℤ) → lo ≡ s.end → lo <ℤ hi → numbers (met (stream_of list) lo hi) ≡ values lo hi list)
      → numbers (x.cell p ∷ map x.cell (marked x p hi)) ≡ values lo hi (s ∷ list)
  within-first p lo low up within meets rest =
      let covered : covers s p ≡ true = grind (arith, ints) in
      let taken : takes lo hi s ≡ true = grind (arith, ints) in
      let same = values-from s.end limit s.end lo hi list h.3 (omega (arith, ints)) (omega (arith, ints)) in
      let others : numbers (map x.cell (marked x p hi)) ≡ values lo hi list =
      rest-from p low up within rest ∙ ap (λ (ss : List Snapshot). numbers (map (λ (s : Snapshot). s.value) ss)) same in
      rw (covered, taken) (numbers-cons s.value (map x.cell (marked x p hi)) (map (λ (s : Snapshot). s.value) (filter (takes lo hi) list)) others)

  -- a window that begins before it, or in it
  meets-first : (lo : ℤ) → lo <ℤ hi → s.start <ℤ hi → lo <ℤ s.end
      → ((lo : ℤ) → lo ≡ s.end → lo <ℤ hi → numbers (met (stream_of list) lo hi) ≡ values lo hi list)
      → numbers (met x lo hi) ≡ values lo hi (s ∷ list)
  meets-first lo some begins meets rest =
      let width = h.1 in
      by_lt_z lo s.start
      (λ before.
      let next : IsNextMark x (lo +ℤ pos 1) (s.start +ℤ pos 1) = record {
        above = omega (arith, ints);
        marked = mark_at-start [] s list;
        least = λ other above below. mark_at-before s.start limit (s ∷ list) other begun (omega (arith, ints));
      } in
      let null : x.cell (lo +ℤ pos 1) ≡ None = cell_at-before s.start limit (s ∷ list) (lo +ℤ pos 1) begun (omega (arith, ints)) in
      ap numbers (met-from lo some)
      ∙ ap (λ (cell : Option ℤ). numbers (cell ∷ map x.cell (marked x (lo +ℤ pos 1) hi))) null
      ∙ ap (λ (ticks : List ℤ). numbers (map x.cell ticks)) (marked-next x (lo +ℤ pos 1) hi (s.start +ℤ pos 1) next (omega (arith, ints)))
      ∙ within-first (s.start +ℤ pos 1) lo (omega (arith, ints)) (omega (arith, ints)) (omega (arith, ints)) meets rest)
      (λ in_it.
      ap numbers (met-from lo some)
      ∙ within-first (lo +ℤ pos 1) lo (omega (arith, ints)) (omega (arith, ints)) (omega (arith, ints)) meets rest)

-- the numbers among the cells that a window meets are the values that it takes
pub met-values : (from limit lo hi : ℤ) (list : List Snapshot) → InOrder from limit list → lo <ℤ hi
    → numbers (met (stream_of list) lo hi) ≡ values lo hi list
met-values from limit lo hi [] h some = met-none (stream_of []) lo hi some (λ t within. refl)
met-values from limit lo hi (s ∷ list) h some =
    by_lt_z lo s.end
    (λ left.
    by_lt_z s.start hi
    (λ begins. meets-first from limit s list h hi lo some begins left
    (λ end is more. met-values s.end limit end hi list h.3 more))
    (λ later.
    let order = begun from limit s list h hi in
    met-none (stream_of (s ∷ list)) lo hi some (λ t within. cell_at-before s.start limit (s ∷ list) t order (omega (arith, ints)))
    ∙ sym (values-before s.start limit lo hi (s ∷ list) order later)))
    (λ passed.
    let width = h.1 in
    let out : takes lo hi s ≡ false = grind (arith, ints) in
    ap numbers (met-passed from limit s list h hi lo passed)
    ∙ rw out (met-values s.end limit lo hi list h.3 some))
