-- The turns of a loop are the snapshots of its stream.
use Rattle.std.proofs.Common.{◌≡◌, ℕ, zero, suc, ℤ, pos, ◌+ℤ◌, ◌-ℤ◌, ◌<ℤ◌, ◌≤ℤ◌, Bool, true, false, ◌&&◌, List, [], ◌∷◌}
use Rattle.std.proofs.Common.{Option, Some, None, if◌then◌else◌, int_lt, unsigned_abs, refl, sym, ap, ◌∙◌, arith}
use Rattle.std.proofs.lemmas.Int.{ints, clamps, by_lt_z}
use Rattle.std.specs.Int.{int_gap, int_min}
use Rattle.std.specs.Ordering.{int_eq}
use Rattle.std.proofs.lemmas.Bool.{or_right, or_left}
use Rattle.tilt_base.proofs.Booleans.{third_true}
use Rattle.tilt_base.proofs.Comparisons.{unsigned_abs_is}
use Rattle.tilt_base.proofs.GridPoints.{ceil-IsCeil, floor-IsFloor, ceil-low, ceil-high, floor-low, floor-high, ceil-point, is_point-Decides}
use Rattle.tilt_base.specs.Grid.{GridPoints, IsGrid, IsPoint, is_point, ceil, floor}
use Rattle.tilt_code.specs.Body.{body_of}
use Rattle.tilt_code.specs.Code.{LoopParts}
use Rattle.tilt_code.specs.Meaning.{IsTimed, loop_of}
use Rattle.tilt_code.specs.Turn.{turn_end, turn, turns_from, turns_until, turns}
use Rattle.tilt_stream.specs.Marks.{IsNextMark, next_mark}
use Rattle.tilt_stream.proofs.Cut.{IsUnmarked, int_gap_is, int_gap_none, snapshots-first, snapshots-none}
use Rattle.tilt_stream.specs.Domain.{some_mark, on_grid, lies_in, restricted}
use Rattle.tilt_stream.specs.Snap.{Snapshot}
use Rattle.tilt_stream.specs.Snapshots.{snapshot_on, snapshots}
use Rattle.tilt_stream.specs.Stream.{Stream}

-- what a search for the next mark shows, of the ticks up to a limit
abbrev Searched : Stream → ℤ → ℤ → Option ℤ → Type 0
Searched x tick limit None = IsUnmarked x tick limit
Searched x tick limit (Some next) = IsNextMark x tick next

-- a tick without a mark is passed
passed : (x : Stream) (tick limit : ℤ) (answer : Option ℤ) → x.mark (tick +ℤ pos 1) ≡ false
    → Searched x (tick +ℤ pos 1) limit answer
    → Searched x tick limit answer
passed x tick limit None clear rest = record {
  unmarked = λ t low high.
      by_lt_z (tick +ℤ pos 1) t
      (λ above. rest.unmarked t above high)
      (λ below.
      let is : tick +ℤ pos 1 ≡ t = omega (arith, ints) in
      rw is at clear);
}
passed x tick limit (Some next) clear rest =
    let above = rest.above in
    record {
      above = omega (arith, ints);
      marked = rest.marked;
      least = λ t low high.
          by_lt_z (tick +ℤ pos 1) t
          (λ more. rest.least t more high)
          (λ below.
          let is : tick +ℤ pos 1 ≡ t = omega (arith, ints) in
          rw is at clear);
    }

searched_by : (x : Stream) (tick limit : ℤ) (n : ℕ) → Searched x (tick +ℤ pos 1) limit (next_mark x (tick +ℤ pos 1) n)
    → (marked : Bool) → x.mark (tick +ℤ pos 1) ≡ marked
    → Searched x tick limit (if marked then Some (tick +ℤ pos 1) else next_mark x (tick +ℤ pos 1) n)
searched_by x tick limit n rest true is = record {
  above = omega (arith, ints);
  marked = is;
  least = λ t low below. absurd (omega (arith, ints));
}
searched_by x tick limit n rest false is = passed x tick limit (next_mark x (tick +ℤ pos 1) n) is rest

next_mark-Searched : (x : Stream) (tick limit : ℤ) (n : ℕ) → limit ≡ tick +ℤ pos n → Searched x tick limit (next_mark x tick n)
next_mark-Searched x tick limit zero at = record { unmarked = λ t low high. absurd (omega (arith, ints)) }
next_mark-Searched x tick limit (suc n) at =
    searched_by x tick limit n (next_mark-Searched x (tick +ℤ pos 1) limit n (omega (arith, ints))) (x.mark (tick +ℤ pos 1)) refl

-- none of these ticks has a mark, or one of them has
some_mark-clear : (x : Stream) (tick : ℤ) (n : ℕ) → IsUnmarked x tick (tick +ℤ pos n) → some_mark x tick n ≡ false
some_mark-clear x tick zero clear = refl
some_mark-clear x tick (suc n) clear =
    let first = clear.unmarked (tick +ℤ pos 1) (omega (arith, ints)) (omega (arith, ints)) in
    let rest : IsUnmarked x (tick +ℤ pos 1) (tick +ℤ pos 1 +ℤ pos n) =
    record { unmarked = λ t low high. clear.unmarked t (omega (arith, ints)) (omega (arith, ints)) } in
    rw first (some_mark-clear x (tick +ℤ pos 1) n rest)

some_mark-found : (x : Stream) (tick next : ℤ) (n : ℕ) → tick <ℤ next → next ≤ℤ (tick +ℤ pos n) → x.mark next ≡ true
    → some_mark x tick n ≡ true
some_mark-found x tick next zero low high marked = absurd (omega (arith, ints))
some_mark-found x tick next (suc n) low high marked =
    by_lt_z (tick +ℤ pos 1) next
    (λ above. or_right (x.mark (tick +ℤ pos 1)) _ (some_mark-found x (tick +ℤ pos 1) next n above (omega (arith, ints)) marked))
    (λ below.
    let is : next ≡ tick +ℤ pos 1 = omega (arith, ints) in
    or_left (x.mark (tick +ℤ pos 1)) _ (ap (λ (t : ℤ). x.mark t) (sym is) ∙ marked))

-- the larger of two grid points is at least a period above the smaller one
apart : (grid : GridPoints) (point next : ℤ) → pos 1 ≤ℤ grid.period → is_point grid point ≡ true → IsPoint grid next → point <ℤ next
    → (point +ℤ grid.period) ≤ℤ next
apart grid point next h at other above =
    let e = (ceil-point grid point h at).1 in
    let least = (ceil-IsCeil grid (point +ℤ pos 1) h).least next other (omega (arith, ints)) in
    omega (arith, ints)

-- a turn's search for the next mark goes up to a period above `hi`
turn-Searched : (body : Stream) (grid : GridPoints) → IsGrid grid → (hi start : ℤ) → start <ℤ hi
    → Searched body (ceil grid (start +ℤ pos 1)) (hi +ℤ grid.period)
    (next_mark body (ceil grid (start +ℤ pos 1)) (int_gap (ceil grid (start +ℤ pos 1)) (hi +ℤ grid.period)))
turn-Searched body grid valid hi start some =
    let point = ceil grid (start +ℤ pos 1) in
    let limit = hi +ℤ grid.period in
    let near = ceil-high grid (start +ℤ pos 1) valid.period_low in
    next_mark-Searched body point limit (int_gap point limit) (sym (int_gap_is point limit (omega (arith, ints))))

none_and : (a b : Bool) → (a ≡ true → b ≡ false) → (a && b) ≡ false
none_and true b h = h refl
none_and false b h = refl

module _ (body : Stream) (grid : GridPoints) (valid : IsGrid grid) (lo hi : ℤ) where
  -- the loop's stream
  abbrev whole : Stream
  whole = restricted lo hi (on_grid grid body)

  whole-unmarked : (tick : ℤ) → (lo +ℤ pos 1) <ℤ tick → tick ≤ℤ hi
      → (is_point grid (tick -ℤ pos 1) ≡ true → some_mark body (tick -ℤ pos 1) (unsigned_abs grid.period) ≡ false) → whole.mark tick ≡ false
  whole-unmarked tick low high none =
      let first : int_eq tick (lo +ℤ pos 1) ≡ false = grind (arith, ints) in
      let last : int_eq tick (hi +ℤ pos 1) ≡ false = grind (arith, ints) in
      rw (first, last) (none_and (lies_in lo hi tick) _ (λ inside. none_and (is_point grid (tick -ℤ pos 1)) _ none))

  whole-marked : (point tick : ℤ) → tick ≡ point +ℤ pos 1 → lo <ℤ tick → tick ≤ℤ hi → is_point grid point ≡ true
      → some_mark body point (unsigned_abs grid.period) ≡ true → whole.mark tick ≡ true
  whole-marked point tick is low high at some =
      let inside : lies_in lo hi tick ≡ true = grind (arith, ints) in
      let back : tick -ℤ pos 1 ≡ point = omega (arith, ints) in
      let mark : (lies_in lo hi tick && (is_point grid (tick -ℤ pos 1) && some_mark body (tick -ℤ pos 1) (unsigned_abs grid.period)))
      ≡ true =
      rw (inside, back, at, some) refl in
      third_true (int_eq tick (lo +ℤ pos 1)) (int_eq tick (hi +ℤ pos 1)) _ mark

  -- where a snapshot of the loop ends: after its start, at `hi` at the latest, with no mark after its first tick, and before one unless
  -- it ends at `hi`
  record EndsWell (start end : ℤ) : Type 0 where
    end_low : start <ℤ end
    end_high : end ≤ℤ hi
    clear : IsUnmarked whole (start +ℤ pos 1) end
    before_mark : end <ℤ hi → whole.mark (end +ℤ pos 1) ≡ true

  -- no grid point has a mark after it up to a tick, if the body has none up to a period after that
  whole-clear : (start end limit : ℤ) → lo ≤ℤ start → end ≤ℤ hi → IsUnmarked body (ceil grid (start +ℤ pos 1)) limit
      → ((point : ℤ) → is_point grid point ≡ true → point <ℤ end → (point +ℤ grid.period) ≤ℤ limit) → IsUnmarked whole (start +ℤ pos 1) end
  whole-clear start end limit low high clear reach = record {
    unmarked = λ tick above below.
        whole-unmarked tick (omega (arith, ints)) (omega (arith, ints)) (λ at.
        let point = (is_point-Decides grid (tick -ℤ pos 1) valid.period_low).0 at in
        let least = (ceil-IsCeil grid (start +ℤ pos 1) valid.period_low).least (tick -ℤ pos 1) point (omega (arith, ints)) in
        let far = reach (tick -ℤ pos 1) at (omega (arith, ints)) in
        let width = unsigned_abs_is grid.period valid.period_low in
        some_mark-clear body (tick -ℤ pos 1) (unsigned_abs grid.period)
        (record { unmarked = λ t more less. clear.unmarked t (omega (arith, ints)) (omega (arith, ints)) }));
  }

  ends_at_hi : (start limit : ℤ) → lo ≤ℤ start → start <ℤ hi → (hi +ℤ grid.period) ≤ℤ (limit +ℤ pos 1)
      → IsUnmarked body (ceil grid (start +ℤ pos 1)) limit → EndsWell start hi
  ends_at_hi start limit low some far clear = record {
    end_low = some;
    end_high = omega (arith, ints);
    clear = whole-clear start hi limit low (omega (arith, ints)) clear (λ point at below. omega (arith, ints));
    before_mark = λ none. absurd (omega (arith, ints));
  }

  ends_by_mark : (start next : ℤ) → lo ≤ℤ start → start <ℤ hi → IsNextMark body (ceil grid (start +ℤ pos 1)) next
      → EndsWell start (int_min hi (floor grid (next -ℤ pos 1)))
  ends_by_mark start next low some found =
      let above = found.above in
      let first = ceil-low grid (start +ℤ pos 1) valid.period_low in
      let from = ceil-IsCeil grid (start +ℤ pos 1) valid.period_low in
      let to = floor-IsFloor grid (next -ℤ pos 1) valid.period_low in
      let not_below = to.greatest (ceil grid (start +ℤ pos 1)) from.on_grid (omega (arith, ints)) in
      let below = floor-high grid (next -ℤ pos 1) valid.period_low in
      let near = floor-low grid (next -ℤ pos 1) valid.period_low in
      let width = unsigned_abs_is grid.period valid.period_low in
      record {
        end_low = omega (arith, ints, clamps);
        end_high = omega (arith, ints, clamps);
        clear = whole-clear start (int_min hi (floor grid (next -ℤ pos 1))) (next -ℤ pos 1) low (omega (arith, ints, clamps))
            (record { unmarked = λ t more less. found.least t more (omega (arith, ints)) })
            (λ point at before.
            let far = apart grid point (floor grid (next -ℤ pos 1)) valid.period_low at to.on_grid (omega (arith, ints, clamps)) in
            omega (arith, ints));
        before_mark = λ inside.
            let is : int_min hi (floor grid (next -ℤ pos 1)) ≡ floor grid (next -ℤ pos 1) = omega (arith, ints, clamps) in
            let at = (is_point-Decides grid (floor grid (next -ℤ pos 1)) valid.period_low).1 to.on_grid in
            let some = some_mark-found body (floor grid (next -ℤ pos 1)) next (unsigned_abs grid.period)
            (omega (arith, ints)) (omega (arith, ints)) found.marked in
            whole-marked (floor grid (next -ℤ pos 1)) (int_min hi (floor grid (next -ℤ pos 1)) +ℤ pos 1) (ap (λ (t : ℤ). t +ℤ pos 1) is)
            (omega (arith, ints, clamps)) (omega (arith, ints, clamps)) at some;
      }

  ends_well_by : (start limit : ℤ) → lo ≤ℤ start → start <ℤ hi → (hi +ℤ grid.period) ≤ℤ (limit +ℤ pos 1) → (answer : Option ℤ)
      → Searched body (ceil grid (start +ℤ pos 1)) limit answer
      → EndsWell start (turn_end grid hi answer)
  ends_well_by start limit low some far None searched = ends_at_hi start limit low some far searched
  ends_well_by start limit low some far (Some next) searched = ends_by_mark start next low some searched

  ends_well : (start : ℤ) → lo ≤ℤ start → start <ℤ hi → EndsWell start (turn body grid hi start).end
  ends_well start low some =
      ends_well_by start (hi +ℤ grid.period) low some (omega (arith, ints)) _ (turn-Searched body grid valid hi start some)

  -- the turn is the loop's snapshot from its start to its end
  turn-is : (start : ℤ) → lo ≤ℤ start → start <ℤ hi → turn body grid hi start ≡ snapshot_on whole start (turn body grid hi start).end
  turn-is start low some =
      let inside : lies_in lo hi (start +ℤ pos 1) ≡ true = grind (arith, ints) in
      rw inside refl

  turns-by : (start : ℤ) (n : ℕ) → lo ≤ℤ start
      → (start <ℤ hi → turns_from body grid hi (turn body grid hi start).end n ≡ snapshots whole (turn body grid hi start).end hi)
      → (some : Bool) → int_lt start hi ≡ some
      → (if some then turn body grid hi start ∷ turns_from body grid hi (turn body grid hi start).end n else []) ≡ snapshots whole start hi
  turns-by start n low rest true is =
      let below : start <ℤ hi = grind (arith, ints) in
      let well = ends_well start low below in
      ap (λ (s : Snapshot). s ∷ turns_from body grid hi (turn body grid hi start).end n) (turn-is start low below)
      ∙ ap (λ (ss : List Snapshot). snapshot_on whole start (turn body grid hi start).end ∷ ss) (rest below)
      ∙ sym (snapshots-first whole start (turn body grid hi start).end hi well.end_low well.end_high well.clear well.before_mark)
  turns-by start n low rest false is =
      let none : hi ≤ℤ start = grind (arith, ints) in
      sym (snapshots-none whole start hi none)

  turns_from-are : (start : ℤ) (n : ℕ) → lo ≤ℤ start → hi ≤ℤ (start +ℤ pos n) → turns_from body grid hi start n ≡ snapshots whole start hi
  turns_from-are start zero low enough = sym (snapshots-none whole start hi (omega (arith, ints)))
  turns_from-are start (suc n) low enough =
      turns-by start n low
      (λ some.
      let well = ends_well start low some in
      let above = well.end_low in
      turns_from-are (turn body grid hi start).end n (omega (arith, ints)) (omega (arith, ints)))
      (int_lt start hi) refl

module _ (body : Stream) (grid : GridPoints) (valid : IsGrid grid) (hi start : ℤ) (some : start <ℤ hi) where
  -- where a turn ends
  pub turn-ends : (start <ℤ (turn body grid hi start).end) × ((turn body grid hi start).end ≤ℤ hi)
  turn-ends =
      let well = ends_well body grid valid start hi start (omega (arith, ints)) some in
      (well.end_low, well.end_high)

  -- all turns from a start: the first one, and those from its end
  pub turns_until-first : turns_until body grid hi start ≡ turn body grid hi start ∷ turns_until body grid hi (turn body grid hi start).end
  turns_until-first =
      let end = (turn body grid hi start).end in
      let low = turn-ends.0 in
      let high = turn-ends.1 in
      let all = int_gap_is start hi (omega (arith, ints)) in
      let behind = int_gap_is (start +ℤ pos 1) hi (omega (arith, ints)) in
      let rest = int_gap_is end hi high in
      let inside : int_lt start hi ≡ true = grind (arith, ints) in
      let count : int_gap start hi ≡ suc (int_gap (start +ℤ pos 1) hi) = omega (arith, ints) in
      let one : turns_from body grid hi start (suc (int_gap (start +ℤ pos 1) hi))
      ≡ turn body grid hi start ∷ turns_from body grid hi end (int_gap (start +ℤ pos 1) hi) = rw inside refl in
      ap (turns_from body grid hi start) count ∙ one
      ∙ ap (λ (ss : List Snapshot). turn body grid hi start ∷ ss)
      (turns_from-are body grid valid start hi end (int_gap (start +ℤ pos 1) hi) (omega (arith, ints)) (omega (arith, ints))
      ∙ sym (turns_from-are body grid valid start hi end (int_gap end hi) (omega (arith, ints)) (omega (arith, ints))))

  -- if the body has a next mark, the turn ends by it, however far it lies
  end_by : (next : ℤ) → IsNextMark body (ceil grid (start +ℤ pos 1)) next → (answer : Option ℤ)
      → Searched body (ceil grid (start +ℤ pos 1)) (hi +ℤ grid.period) answer
      → turn_end grid hi answer ≡ int_min hi (floor grid (next -ℤ pos 1))
  end_by next found None searched =
      let above = found.above in
      let far : (hi +ℤ grid.period) <ℤ next =
      by_lt_z (hi +ℤ grid.period) next
      (λ low. low)
      (λ high. absurd (let m = found.marked in let n = searched.unmarked next above high in cc)) in
      let near = floor-low grid (next -ℤ pos 1) valid.period_low in
      omega (arith, ints, clamps)
  end_by next found (Some other) searched =
      let above = found.above in
      let also = searched.above in
      let same : other ≡ next =
      by_lt_z other next
      (λ low. absurd (let m = searched.marked in let n = found.least other also low in cc))
      (λ high.
      by_lt_z next other
      (λ low. absurd (let m = found.marked in let n = searched.least next above low in cc))
      (λ low. omega (arith, ints))) in
      ap (λ (t : ℤ). int_min hi (floor grid (t -ℤ pos 1))) same

  end_without : ((tick : ℤ) → ceil grid (start +ℤ pos 1) <ℤ tick → body.mark tick ≡ false) → (answer : Option ℤ)
      → Searched body (ceil grid (start +ℤ pos 1)) (hi +ℤ grid.period) answer
      → turn_end grid hi answer ≡ hi
  end_without none None searched = refl
  end_without none (Some other) searched =
      absurd (let m = searched.marked in let n = none other searched.above in cc)

  pub turn-end_by_mark : (next : ℤ) → IsNextMark body (ceil grid (start +ℤ pos 1)) next
      → (turn body grid hi start).end ≡ int_min hi (floor grid (next -ℤ pos 1))
  turn-end_by_mark next found = end_by next found _ (turn-Searched body grid valid hi start some)

  pub turn-end_without_mark : ((tick : ℤ) → ceil grid (start +ℤ pos 1) <ℤ tick → body.mark tick ≡ false)
      → (turn body grid hi start).end ≡ hi
  turn-end_without_mark none = end_without none _ (turn-Searched body grid valid hi start some)

-- no turn begins at the end of the stretch, or after it
pub turns_until-none : (body : Stream) (grid : GridPoints) (hi start : ℤ) → hi ≤ℤ start → turns_until body grid hi start ≡ []
turns_until-none body grid hi start none = ap (turns_from body grid hi start) (int_gap_none start hi none)

-- the turns of a loop are the snapshots of its stream on its stretch
pub turns-are : (xs : List Stream) (l : LoopParts) → IsTimed l → turns xs l ≡ snapshots (loop_of xs l) l.lo l.hi
turns-are xs l timed =
    let stretch = timed.stretch in
    let at = int_gap_is l.lo l.hi (omega (arith, ints)) in
    turns_from-are (body_of xs l) l.grid timed.grid l.lo l.hi l.lo (int_gap l.lo l.hi) (omega (arith, ints)) (omega (arith, ints))
