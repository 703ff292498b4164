-- The marks of some ticks, and the cells that the ticks meet.
use Rattle.std.proofs.Common.{◌≡◌, ◌+◌, ◌≤◌, ◌<◌, ℕ, zero, suc, ℤ, pos, ◌+ℤ◌, ◌-ℤ◌, ◌<ℤ◌, ◌≤ℤ◌, Bool, true, false, ◌||◌, List, [], ◌∷◌, ◌++◌, map, length, Option, if◌then◌else◌, refl, sym, ap, ◌∙◌}
use Rattle.std.proofs.Common.{arith}
use Rattle.std.specs.Int.{int_gap}
use Rattle.std.proofs.lemmas.Int.{ints, by_lt_z}
use Rattle.std.proofs.lemmas.List.{length-map}
use Rattle.tilt_stream.proofs.Cut.{int_gap_is, int_gap_none}
use Rattle.tilt_stream.specs.Agreement.{ChangesOnlyAtMarks}
use Rattle.tilt_stream.specs.Marks.{IsNextMark}
use Rattle.tilt_stream.specs.Stream.{Stream}
use Rattle.tilt_stream.specs.Window.{met_behind, met}
use Rattle.tilt_stream.specs.Marked.{marked_behind, marked}

-- where none of the ticks has a mark
behind-none : (x : Stream) (tick : ℤ) (n : ℕ) → ((other : ℤ) → tick <ℤ other → other ≤ℤ (tick +ℤ pos n) → x.mark other ≡ false)
    → marked_behind x tick n ≡ []
behind-none x tick zero none = refl
behind-none x tick (suc n) none =
    let here = none (tick +ℤ pos 1) (omega (arith, ints)) (omega (arith, ints)) in
    rw here (behind-none x (tick +ℤ pos 1) n (λ other low high. none other (omega (arith, ints)) (omega (arith, ints))))

-- where the next mark is one of the ticks, it is the first
behind-next : (x : Stream) (tick next : ℤ) (n k : ℕ) → IsNextMark x tick next → next +ℤ pos k ≡ tick +ℤ pos n
    → marked_behind x tick n ≡ next ∷ marked_behind x next k
behind-next x tick next zero k found at = let above = found.above in absurd (omega (arith, ints))
behind-next x tick next (suc n) k found at =
    by_lt_z (tick +ℤ pos 1) next
    (λ above.
    let clear = found.least (tick +ℤ pos 1) (omega (arith, ints)) above in
    rw clear (behind-next x (tick +ℤ pos 1) next n k
    (record { above = above; marked = found.marked; least = λ other low below. found.least other (omega (arith, ints)) below })
    (omega (arith, ints))))
    (λ below.
    let low = found.above in
    let is : tick +ℤ pos 1 ≡ next = omega (arith, ints) in
    let count : n ≡ k = omega (arith, ints) in
    rw (is, found.marked, count) refl)

-- the first of them is the next mark
pub record IsFirstMark (x : Stream) (tick : ℤ) (n : ℕ) (first : ℤ) (rest : List ℤ) : Type 0 where
  pub next : IsNextMark x tick first
  pub left : ℕ
  pub at : first +ℤ pos left ≡ tick +ℤ pos n
  pub others : rest ≡ marked_behind x first left

cons-first : (a b : ℤ) (front back : List ℤ) → a ∷ front ≡ b ∷ back → a ≡ b
cons-first a b front back is = cc

cons-rest : (a b : ℤ) (front back : List ℤ) → a ∷ front ≡ b ∷ back → front ≡ back
cons-rest a b front back is = cc

first-by : (x : Stream) (tick : ℤ) (n : ℕ) (first : ℤ) (rest : List ℤ)
    → (marked_behind x (tick +ℤ pos 1) n ≡ first ∷ rest → IsFirstMark x (tick +ℤ pos 1) n first rest) → (here : Bool)
    → x.mark (tick +ℤ pos 1) ≡ here
    → (if here then (tick +ℤ pos 1) ∷ marked_behind x (tick +ℤ pos 1) n else marked_behind x (tick +ℤ pos 1) n) ≡ first ∷ rest
    → IsFirstMark x tick (suc n) first rest
first-by x tick n first rest behind true here is =
    let same = cons-first (tick +ℤ pos 1) first (marked_behind x (tick +ℤ pos 1) n) rest is in
    let others = cons-rest (tick +ℤ pos 1) first (marked_behind x (tick +ℤ pos 1) n) rest is in
    record {
      next = record {
        above = omega (arith, ints);
        marked = ap x.mark (sym same) ∙ here;
        least = λ other low below. absurd (omega (arith, ints));
      };
      left = n;
      at = omega (arith, ints);
      others = sym others ∙ ap (λ (t : ℤ). marked_behind x t n) same;
    }
first-by x tick n first rest behind false clear is =
    let found = behind is in
    let above = found.next.above in
    let at = found.at in
    record {
      next = record {
        above = omega (arith, ints);
        marked = found.next.marked;
        least = λ other low below.
            by_lt_z (tick +ℤ pos 1) other
            (λ later. found.next.least other later below)
            (λ first. let is : other ≡ tick +ℤ pos 1 = omega (arith, ints) in ap x.mark is ∙ clear);
      };
      left = found.left;
      at = omega (arith, ints);
      others = found.others;
    }

behind-first : (x : Stream) (tick : ℤ) (n : ℕ) (first : ℤ) (rest : List ℤ) → marked_behind x tick n ≡ first ∷ rest
    → IsFirstMark x tick n first rest
behind-first x tick zero first rest is = absurd (cc is)
behind-first x tick (suc n) first rest is =
    first-by x tick n first rest (behind-first x (tick +ℤ pos 1) n first rest) (x.mark (tick +ℤ pos 1)) refl is

-- where there are none, no tick has a mark
empty-by : (x : Stream) (tick : ℤ) (n : ℕ) (other : ℤ) → tick <ℤ other
    → (marked_behind x (tick +ℤ pos 1) n ≡ [] → (tick +ℤ pos 1) <ℤ other → x.mark other ≡ false) → (here : Bool)
    → x.mark (tick +ℤ pos 1) ≡ here
    → (if here then (tick +ℤ pos 1) ∷ marked_behind x (tick +ℤ pos 1) n else marked_behind x (tick +ℤ pos 1) n) ≡ []
    → x.mark other ≡ false
empty-by x tick n other low behind true here is = absurd (cc is)
empty-by x tick n other low behind false clear is =
    by_lt_z (tick +ℤ pos 1) other
    (λ later. behind is later)
    (λ first. let same : other ≡ tick +ℤ pos 1 = omega (arith, ints) in ap x.mark same ∙ clear)

behind-empty : (x : Stream) (tick : ℤ) (n : ℕ) → marked_behind x tick n ≡ [] → (other : ℤ) → tick <ℤ other
    → other ≤ℤ (tick +ℤ pos n) → x.mark other ≡ false
behind-empty x tick zero is other low high = absurd (omega (arith, ints))
behind-empty x tick (suc n) is other low high =
    empty-by x tick n other low (λ rest later. behind-empty x (tick +ℤ pos 1) n rest other later (omega (arith, ints))) (x.mark (tick +ℤ pos 1)) refl is

-- those of some ticks and of the ticks after them
append-if : (here : Bool) (tick : ℤ) (xs ys all : List ℤ) → all ≡ xs ++ ys
    → (if here then tick ∷ all else all) ≡ (if here then tick ∷ xs else xs) ++ ys
append-if true tick xs ys all is = ap (λ (ts : List ℤ). tick ∷ ts) is
append-if false tick xs ys all is = is

behind-append : (x : Stream) (tick mid : ℤ) (n k : ℕ) → mid ≡ tick +ℤ pos n
    → marked_behind x tick (n + k) ≡ marked_behind x tick n ++ marked_behind x mid k
behind-append x tick mid zero k at =
    let is : mid ≡ tick = omega (arith, ints) in
    let count : zero + k ≡ k = omega arith in
    rw (is, count) refl
behind-append x tick mid (suc n) k at =
    let count : suc n + k ≡ suc (n + k) = omega arith in
    rw count (append-if (x.mark (tick +ℤ pos 1)) (tick +ℤ pos 1) (marked_behind x (tick +ℤ pos 1) n) (marked_behind x mid k) _
    (behind-append x (tick +ℤ pos 1) mid n k (omega (arith, ints))))

-- the cells at those ticks are those that are met there
cells-if : (here : Bool) (x : Stream) (tick : ℤ) (ticks : List ℤ) (cells : List (Option ℤ)) → map x.cell ticks ≡ cells
    → map x.cell (if here then tick ∷ ticks else ticks) ≡ (if here then x.cell tick ∷ cells else cells)
cells-if true x tick ticks cells is = ap (λ (cs : List (Option ℤ)). x.cell tick ∷ cs) is
cells-if false x tick ticks cells is = is

behind-cells : (x : Stream) (tick : ℤ) (n : ℕ) → map x.cell (marked_behind x tick n) ≡ met_behind x false tick n
behind-cells x tick zero = refl
behind-cells x tick (suc n) =
    cells-if (x.mark (tick +ℤ pos 1)) x (tick +ℤ pos 1) (marked_behind x (tick +ℤ pos 1) n) (met_behind x false (tick +ℤ pos 1) n)
    (behind-cells x (tick +ℤ pos 1) n)

-- no marks
pub marked-none : (x : Stream) (lo hi : ℤ) → lo ≤ℤ hi → ((other : ℤ) → lo <ℤ other → other ≤ℤ hi → x.mark other ≡ false)
    → marked x lo hi ≡ []
marked-none x lo hi some none =
    let gap = int_gap_is lo hi some in
    behind-none x lo (int_gap lo hi) (λ other low high. none other low (omega (arith, ints)))

-- the next mark is the first
pub marked-next : (x : Stream) (lo hi next : ℤ) → IsNextMark x lo next → next ≤ℤ hi → marked x lo hi ≡ next ∷ marked x next hi
marked-next x lo hi next found high =
    let above = found.above in
    let gap = int_gap_is lo hi (omega (arith, ints)) in
    let rest = int_gap_is next hi high in
    behind-next x lo next (int_gap lo hi) (int_gap next hi) found (omega (arith, ints))

-- and the first is the next
pub record IsFirstOf (x : Stream) (lo hi first : ℤ) (rest : List ℤ) : Type 0 where
  pub next : IsNextMark x lo first
  pub within : first ≤ℤ hi
  pub others : rest ≡ marked x first hi

pub marked-first : (x : Stream) (lo hi first : ℤ) (rest : List ℤ) → lo ≤ℤ hi → marked x lo hi ≡ first ∷ rest → IsFirstOf x lo hi first rest
marked-first x lo hi first rest some is =
    let found = behind-first x lo (int_gap lo hi) first rest is in
    let gap = int_gap_is lo hi some in
    let at = found.at in
    let high : first ≤ℤ hi = omega (arith, ints) in
    let behind = int_gap_is first hi high in
    let count : found.left ≡ int_gap first hi = omega (arith, ints) in
    record { next = found.next; within = high; others = found.others ∙ ap (marked_behind x first) count }

pub marked-empty : (x : Stream) (lo hi : ℤ) → lo ≤ℤ hi → marked x lo hi ≡ [] → (other : ℤ) → lo <ℤ other → other ≤ℤ hi
    → x.mark other ≡ false
marked-empty x lo hi some is other low high =
    let gap = int_gap_is lo hi some in
    behind-empty x lo (int_gap lo hi) is other low (omega (arith, ints))

pub marked-append : (x : Stream) (lo mid hi : ℤ) → lo ≤ℤ mid → mid ≤ℤ hi → marked x lo hi ≡ marked x lo mid ++ marked x mid hi
marked-append x lo mid hi low high =
    let all = int_gap_is lo hi (omega (arith, ints)) in
    let front = int_gap_is lo mid low in
    let back = int_gap_is mid hi high in
    let count : int_gap lo hi ≡ int_gap lo mid + int_gap mid hi = omega (arith, ints) in
    ap (marked_behind x lo) count ∙ behind-append x lo mid (int_gap lo mid) (int_gap mid hi) (omega (arith, ints))

-- what is met: the first cell, and those at the marks after it
pub met-marked : (x : Stream) (first last : ℤ) → first ≤ℤ last
    → met x (first -ℤ pos 1) last ≡ x.cell first ∷ map x.cell (marked x first last)
met-marked x first last some =
    let all = int_gap_is (first -ℤ pos 1) last (omega (arith, ints)) in
    let behind = int_gap_is first last some in
    let count : int_gap (first -ℤ pos 1) last ≡ suc (int_gap first last) = omega (arith, ints) in
    let here : first -ℤ pos 1 +ℤ pos 1 ≡ first = omega (arith, ints) in
    ap (met_behind x true (first -ℤ pos 1)) count
    ∙ ap (λ (t : ℤ). x.cell t ∷ met_behind x false t (int_gap first last)) here
    ∙ ap (λ (cells : List (Option ℤ)). x.cell first ∷ cells) (sym (behind-cells x first (int_gap first last)))

pub marked-no_ticks : (x : Stream) (lo hi : ℤ) → hi ≤ℤ lo → marked x lo hi ≡ []
marked-no_ticks x lo hi none = rw (int_gap_none lo hi none) refl

-- where no mark follows, the cell stays
kept-behind : (x : Stream) (tick : ℤ) (n : ℕ) → ChangesOnlyAtMarks x → ((other : ℤ) → tick <ℤ other → other ≤ℤ (tick +ℤ pos n) → x.mark other ≡ false)
    → x.cell (tick +ℤ pos n) ≡ x.cell tick
kept-behind x tick zero h none = let same : tick +ℤ pos 0 ≡ tick = omega (arith, ints) in ap x.cell same
kept-behind x tick (suc n) h none =
    let back : tick +ℤ pos (suc n) -ℤ pos 1 ≡ tick +ℤ pos n = omega (arith, ints) in
    h.unchanged (tick +ℤ pos (suc n)) (none (tick +ℤ pos (suc n)) (omega (arith, ints)) (omega (arith, ints)))
    ∙ ap x.cell back
    ∙ kept-behind x tick n h (λ other low high. none other low (omega (arith, ints)))

pub cell-kept : (x : Stream) (lo hi : ℤ) → ChangesOnlyAtMarks x → lo ≤ℤ hi → ((other : ℤ) → lo <ℤ other → other ≤ℤ hi → x.mark other ≡ false)
    → x.cell hi ≡ x.cell lo
cell-kept x lo hi h some none =
    let gap = int_gap_is lo hi some in
    ap x.cell (sym gap) ∙ kept-behind x lo (int_gap lo hi) h (λ other low high. none other low (omega (arith, ints)))

-- the cells that are met are no more than the ticks
length-by : (cell : Option ℤ) (cells : List (Option ℤ)) (n : ℕ) → length cells ≤ n → (some : Bool)
    → length (if some then cell ∷ cells else cells) ≤ suc n
length-by cell cells n few true = omega arith
length-by cell cells n few false = omega arith

length-met_behind : (x : Stream) (begins : Bool) (tick : ℤ) (n : ℕ) → length (met_behind x begins tick n) ≤ n
length-met_behind x begins tick zero = omega arith
length-met_behind x begins tick (suc n) =
    length-by (x.cell (tick +ℤ pos 1)) (met_behind x false (tick +ℤ pos 1) n) n
    (length-met_behind x false (tick +ℤ pos 1) n) (begins || x.mark (tick +ℤ pos 1))

-- few where the ticks are few
pub few-met : (f : Option ℤ → Option ℤ) (x : Stream) (first last : ℤ) (cells : List (Option ℤ)) → first ≤ℤ last
    → last ≤ℤ (first +ℤ pos 4000000000000) → cells ≡ map f (met x (first -ℤ pos 1) last) → length cells < 4611686018427387904
few-met f x first last cells some few is =
    let all = ap length is in
    let mapped = length-map (met x (first -ℤ pos 1) last) f in
    let ticks = length-met_behind x true (first -ℤ pos 1) (int_gap (first -ℤ pos 1) last) in
    let gap = int_gap_is (first -ℤ pos 1) last (omega (arith, ints)) in
    omega (arith, ints)
