-- On a stretch of ticks, the rows that have a tick of it agree with all rows.
use Rattle.std.proofs.Common.{◌≡◌, ℕ, zero, suc, ◌+◌, ℤ, pos, ◌+ℤ◌, ◌-ℤ◌, ◌<ℤ◌, ◌≤ℤ◌, Bool, false, int_lt, List, [], ◌∷◌, length, map, Option, Some, None, inl, inr, refl, sym, ap, ◌∙◌, ◌++◌}
use Rattle.std.proofs.Common.{filter, arith, subst, take, drop, ◌<◌, set, append_assoc, get_or}
use Rattle.std.specs.List.{AllByRecursion, splice}
use Rattle.std.specs.Ordering.{int_eq}
use Rattle.std.proofs.lemmas.Bool.{cases_Bool}
use Rattle.std.proofs.lemmas.Int.{ints}
use Rattle.std.proofs.lemmas.List.{length-take, length_push, set_split}
use Rattle.tilt_bounds.specs.Laws.{AgreeAsAsked}
use Rattle.tilt_bounds.specs.Margins.{need_at}
use Rattle.tilt_core.specs.Meaning.{source_of}
use Rattle.tilt_core.specs.Needs.{Need}
use Rattle.tilt_fix.specs.Window.{early, late, window, window_for, windows}
use Rattle.tilt_stream.proofs.Order.{InOrder-rest}
use Rattle.tilt_stream.specs.Agreement.{Agree}
use Rattle.tilt_stream.specs.Snap.{Snapshot, InOrder, AreRows}
use Rattle.tilt_stream.specs.Stream.{Stream, stream_of, covers, cell_at, mark_at}

-- some of the rows are in order too
pub InOrder-filter : (test : Snapshot → Bool) (from limit : ℤ) (rows : List Snapshot) → InOrder from limit rows → InOrder from limit (filter test rows)
InOrder-filter test from limit [] order = tt
InOrder-filter test from limit (row ∷ rows) order =
    elim (cases_Bool (test row)) [
      | inl is ↦ rw is (order.0, order.1, order.2, InOrder-filter test row.end limit rows order.3)
      | inr none ↦ rw none (InOrder-filter test from limit rows (InOrder-rest from limit row rows order))
    ]

module _ (lo hi : ℤ) where
  -- a row that isn't late says nothing after the tick
  late-cell : (rows : List Snapshot) (tick : ℤ) → lo <ℤ tick → cell_at (late lo rows) tick ≡ cell_at rows tick
  late-cell [] tick above = refl
  late-cell (row ∷ rows) tick above =
      elim (cases_Bool (int_lt lo row.end)) [
        | inl is ↦ rw is (rw (late-cell rows tick above) refl)
        | inr none ↦
            let out : covers row tick ≡ false = grind (arith, ints) in
            rw (none, out) (late-cell rows tick above)
      ]

  late-mark : (from limit : ℤ) (rows : List Snapshot) (tick : ℤ) → InOrder from limit rows → (lo +ℤ pos 1) <ℤ tick
      → mark_at (late lo rows) tick ≡ mark_at rows tick
  late-mark from limit [] tick order above = refl
  late-mark from limit (row ∷ rows) tick order above =
      elim (cases_Bool (int_lt lo row.end)) [
        | inl is ↦ rw is (rw (late-mark row.end limit rows tick order.3 above) refl)
        | inr none ↦
            let width = order.1 in
            let start : int_eq tick (row.start +ℤ pos 1) ≡ false = grind (arith, ints) in
            let end : int_eq tick (row.end +ℤ pos 1) ≡ false = grind (arith, ints) in
            rw (none, start, end) (late-mark row.end limit rows tick order.3 above)
      ]

  -- nor does one that isn't early say anything up to it
  early-cell : (rows : List Snapshot) (tick : ℤ) → tick ≤ℤ hi → cell_at (early hi rows) tick ≡ cell_at rows tick
  early-cell [] tick within = refl
  early-cell (row ∷ rows) tick within =
      elim (cases_Bool (int_lt row.start hi)) [
        | inl is ↦ rw is (rw (early-cell rows tick within) refl)
        | inr none ↦
            let out : covers row tick ≡ false = grind (arith, ints) in
            rw (none, out) (early-cell rows tick within)
      ]

  early-mark : (from limit : ℤ) (rows : List Snapshot) (tick : ℤ) → InOrder from limit rows → tick ≤ℤ hi
      → mark_at (early hi rows) tick ≡ mark_at rows tick
  early-mark from limit [] tick order within = refl
  early-mark from limit (row ∷ rows) tick order within =
      elim (cases_Bool (int_lt row.start hi)) [
        | inl is ↦ rw is (rw (early-mark row.end limit rows tick order.3 within) refl)
        | inr none ↦
            let width = order.1 in
            let start : int_eq tick (row.start +ℤ pos 1) ≡ false = grind (arith, ints) in
            let end : int_eq tick (row.end +ℤ pos 1) ≡ false = grind (arith, ints) in
            rw (none, start, end) (early-mark row.end limit rows tick order.3 within)
      ]

  pub window-agrees : (from limit : ℤ) (rows : List Snapshot) → InOrder from limit rows → Agree (stream_of (window lo hi rows)) (stream_of rows) lo hi
  window-agrees from limit rows order = record {
    cells = λ tick above within. early-cell (late lo rows) tick within ∙ late-cell rows tick above;
    marks = λ tick above within.
        early-mark from limit (late lo rows) tick (InOrder-filter (λ row. int_lt lo row.end) from limit rows order) within
        ∙ late-mark from limit rows tick order above;
  }

pub window_for-agrees : (n : Option Need) (lo hi from limit : ℤ) (rows : List Snapshot) → InOrder from limit rows
    → AgreeAsAsked n lo hi (stream_of (window_for n lo hi rows)) (stream_of rows)
window_for-agrees None lo hi from limit rows order = tt
window_for-agrees (Some n) lo hi from limit rows order = window-agrees (lo -ℤ n.back) (hi +ℤ n.ahead) from limit rows order

-- a stream agrees with itself on what it is asked for
pub same-asked : (n : Option Need) (lo hi : ℤ) (x : Stream) → AgreeAsAsked n lo hi x x
same-asked None lo hi x = tt
same-asked (Some n) lo hi x = record { cells = λ tick above within. refl; marks = λ tick above within. refl }

-- the windows of all inputs agree with all rows on what each is asked for
pub windows-agree : (needs : List (Option Need)) (lo hi : ℤ) (first : ℕ) (rows : List (List Snapshot)) (i : ℕ) → AllByRecursion AreRows rows
    → AgreeAsAsked (need_at needs (first + i)) lo hi (source_of (map stream_of (windows needs lo hi first rows)) i) (source_of (map stream_of rows) i)
windows-agree needs lo hi first [] i order = same-asked (need_at needs (first + i)) lo hi (source_of [] i)
windows-agree needs lo hi first (r ∷ rows) zero order =
    let at : first ≡ first + 0 = omega arith in
    subst (λ (k : ℕ). AgreeAsAsked (need_at needs k) lo hi (stream_of (window_for (need_at needs first) lo hi r)) (stream_of r)) at
    (window_for-agrees (need_at needs first) lo hi _ _ r order.0)
windows-agree needs lo hi first (r ∷ rows) (suc i) order =
    let at : suc first + i ≡ first + suc i = omega arith in
    subst (λ (k : ℕ). AgreeAsAsked (need_at needs k) lo hi (source_of (map stream_of (windows needs lo hi (suc first) rows)) i) (source_of (map stream_of rows) i)) at
    (windows-agree needs lo hi (suc first) rows i order.1)

pub length-windows : (needs : List (Option Need)) (lo hi : ℤ) (first : ℕ) (rows : List (List Snapshot)) → length (windows needs lo hi first rows) ≡ length rows
length-windows needs lo hi first [] = refl
length-windows needs lo hi first (r ∷ rows) = ap suc (length-windows needs lo hi (suc first) rows)

-- windows of some inputs and of further ones
pub windows-append : (needs : List (Option Need)) (lo hi : ℤ) (first : ℕ) (rows more : List (List Snapshot))
    → windows needs lo hi first (rows ++ more) ≡ windows needs lo hi first rows ++ windows needs lo hi (first + length rows) more
windows-append needs lo hi first [] more = let at : first ≡ first + 0 = omega arith in ap (λ (k : ℕ). windows needs lo hi k more) at
windows-append needs lo hi first (r ∷ rows) more =
    let at : suc first + length rows ≡ first + suc (length rows) = omega arith in
    ap (λ (l : List (List Snapshot)). window_for (need_at needs first) lo hi r ∷ l)
    (windows-append needs lo hi (suc first) rows more ∙ ap (λ (k : ℕ). windows needs lo hi (suc first) rows ++ windows needs lo hi k more) at)

-- windows of the inputs before one, of that one after a change, and of those after it
pub windows-changed : (needs : List (Option Need)) (lo hi : ℤ) (rows : List (List Snapshot)) (input : ℕ) (new : List Snapshot)
    (before all : List (List Snapshot)) → input < length rows
    → before ≡ windows needs lo hi 0 (take input rows) ++ window_for (need_at needs input) lo hi new ∷ []
    → all ≡ before ++ windows needs lo hi (length before) (drop (input + 1) rows)
    → all ≡ windows needs lo hi 0 (set rows input new)
windows-changed needs lo hi rows input new before all within before_is all_is =
    let front = windows needs lo hi 0 (take input rows) in
    let one = window_for (need_at needs input) lo hi new in
    let taken : length (take input rows) ≡ input = length-take input rows ∙ omega arith in
    let front_many : length front ≡ input = length-windows needs lo hi 0 (take input rows) ∙ taken in
    let many : length before ≡ suc input = ap length before_is ∙ length_push front one ∙ omega arith in
    let first : 0 + length (take input rows) ≡ input = omega arith in
    let next : suc input ≡ input + 1 = omega arith in
    all_is
    ∙ (λ i. before_is i ++ windows needs lo hi (many i) (drop (input + 1) rows))
    ∙ append_assoc front (one ∷ []) (windows needs lo hi (suc input) (drop (input + 1) rows))
    ∙ sym (ap (windows needs lo hi 0) (set_split rows input new within ∙ ap (λ (k : ℕ). take input rows ++ new ∷ drop k rows) next)
    ∙ windows-append needs lo hi 0 (take input rows) (new ∷ drop (input + 1) rows)
    ∙ ap (λ (k : ℕ). front ++ windows needs lo hi k (new ∷ drop (input + 1) rows)) first)

-- what holds of each list where one of them is changed
pub all-set : (P : List Snapshot → Type 0) (rows : List (List Snapshot)) (input : ℕ) (new : List Snapshot) → AllByRecursion P (take input rows)
    → P new → AllByRecursion P (drop (input + 1) rows) → AllByRecursion P (set rows input new)
all-set P [] input new before one after = tt
all-set P (r ∷ rows) zero new before one after = (one, after)
all-set P (r ∷ rows) (suc input) new before one after =
    let at : suc input + 1 ≡ suc (input + 1) = omega arith in
    (before.0, all-set P rows input new before.1 one (subst (λ (k : ℕ). AllByRecursion P (drop k (r ∷ rows))) at after))

-- rows before a change, what it writes and the rows after it
pub parts-joined : (rows all before put put_is after changed : List Snapshot) (place next : ℕ) → changed ≡ splice rows place next put_is → all ≡ rows
    → before ≡ take place all → put ≡ put_is → after ≡ drop next all → before ++ put ++ after ≡ changed
parts-joined rows all before put put_is after changed place next changed_is all_is before_is put_is_is after_is =
    rw (before_is, put_is_is, after_is, all_is, changed_is) (append_assoc (take place rows) put_is (drop next rows))

-- the list at a place, whatever is read where there is none
pub read-any : (rows : List (List Snapshot)) (i : ℕ) (x d : List Snapshot) → i < length rows → x ≡ get_or rows i x → x ≡ get_or rows i d
read-any [] i x d within is = absurd (omega arith)
read-any (r ∷ rows) zero x d within is = is
read-any (r ∷ rows) (suc i) x d within is = read-any rows i x d (omega arith) is
