-- The rows of a whole run, taken apart: they are in order, each session gets rows that it may be handed, and nothing is lost.
use Rattle.std.proofs.Common.{◌≡◌, ℕ, zero, suc, take, drop, ℤ, ◌≤ℤ◌, ◌<ℤ◌, Bool, true, false, if◌then◌else◌, int_lt, List, [], ◌∷◌, ◌++◌, length, map, Option, None, Some, neg_ℤ, refl, arith, ap, ◌∙◌}
use Rattle.std.proofs.lemmas.Int.{ints, clamps}
use Rattle.std.specs.Int.{int_max}
use Rattle.std.specs.List.{AllByRecursion}
use Rattle.std.specs.Option.{ForSome, unwrap_or}
use Rattle.std.specs.Prelude.{replicate, ⊤}
use Rattle.tilt_base.specs.declared.limits.TheConstants.{T}
use Rattle.tilt_session.specs.Kept.{kept_each}
use Rattle.tilt_session.specs.NewRows.{AreEarly, AreLate, AreNewRows, IsLate, StartBefore, added}
use Rattle.tilt_session.specs.Parts.{is_early, early, behind, end_by, part_of, rows_before}
use Rattle.tilt_stream.proofs.Order.{InOrder-rest, unwrap_last_end}
use Rattle.tilt_stream.specs.Snap.{Snapshot, InOrder, AreRows, last_end}

-- the first rows are in order
pub early-order : (cut : Option ℤ) (from limit : ℤ) (rows : List Snapshot) → InOrder from limit rows → InOrder from limit (early cut rows)
early-order cut from limit [] h = tt
early-order cut from limit (r ∷ rs) h = by (is_early cut r) (early-order cut r.end limit rs h.3)
  where
    by : (b : Bool) → InOrder r.end limit (early cut rs) → InOrder from limit (if b then r ∷ early cut rs else [])
    by true rest = (h.0, h.1, h.2, rest)
    by false rest = tt

-- and start before the cut
early-starts : (tick : ℤ) (rows : List Snapshot) → AllByRecursion (λ (row : Snapshot). row.start <ℤ tick) (early (Some tick) rows)
early-starts tick [] = tt
early-starts tick (r ∷ rs) = by (int_lt r.start tick) refl (early-starts tick rs)
  where
    by : (b : Bool) → int_lt r.start tick ≡ b → AllByRecursion (λ (row : Snapshot). row.start <ℤ tick) (early (Some tick) rs)
        → AllByRecursion (λ (row : Snapshot). row.start <ℤ tick) (if b then r ∷ early (Some tick) rs else [])
    by true is rest = (grind (arith, ints), rest)
    by false is rest = tt

end-behind : (r : Snapshot) (rs : List Snapshot) (from : ℤ) → unwrap_or (last_end (r ∷ rs)) from ≡ unwrap_or (last_end rs) r.end
end-behind r [] from = refl
end-behind r (next ∷ rs) from = unwrap_last_end next rs from r.end

-- the rows after others are in order from their end on, and from the cut on
pub behind-order : (cut from limit : ℤ) (rows : List Snapshot) → InOrder from limit rows
    → InOrder (int_max (unwrap_or (last_end (early (Some cut) rows)) from) cut) limit (behind cut rows)
behind-order cut from limit [] h = tt
behind-order cut from limit (r ∷ rs) h = by (int_lt r.start cut) refl (behind-order cut r.end limit rs h.3)
  where
    by : (b : Bool) → int_lt r.start cut ≡ b → InOrder (int_max (unwrap_or (last_end (early (Some cut) rs)) r.end) cut) limit (behind cut rs)
        → InOrder (int_max (unwrap_or (last_end (if b then r ∷ early (Some cut) rs else [])) from) cut) limit (if b then behind cut rs else r ∷ rs)
    by true is rest = rw (end-behind r (early (Some cut) rs) from) rest
    by false is rest = (grind (arith, ints, clamps), h.1, h.2, h.3)

-- so many of the first rows are rows, and so are those after them
pub take-order : (n : ℕ) (from limit : ℤ) (rows : List Snapshot) → InOrder from limit rows → InOrder from limit (take n rows)
take-order zero from limit rows h = tt
take-order (suc n) from limit [] h = tt
take-order (suc n) from limit (r ∷ rs) h = (h.0, h.1, h.2, take-order n r.end limit rs h.3)

pub drop-rows : (n : ℕ) (rows : List Snapshot) → AreRows rows → AreRows (drop n rows)
drop-rows zero rows h = h
drop-rows (suc n) [] h = tt
drop-rows (suc n) (r ∷ rs) h = drop-rows n rs (InOrder-rest (neg_ℤ T) T r rs h)

-- rows in order from the old cut on, and from the last end on, may be handed to the next session
new-rows : (old : ℤ) (last : Option ℤ) (cut : Option ℤ) (from limit : ℤ) (rows : List Snapshot) → InOrder from limit rows → old ≤ℤ from
    → ForSome last (λ end. end ≤ℤ from) → AllByRecursion (IsLate old last) (early cut rows)
new-rows old last cut from limit [] h late after = tt
new-rows old last cut from limit (r ∷ rs) h late after =
    let a = h.0 in
    let b = h.1 in
    let up : from ≤ℤ r.end = omega (arith, ints) in
    by (is_early cut r) (new-rows old last cut r.end limit rs h.3 (omega (arith, ints)) (λ end same. let e = after end same in omega (arith, ints)))
  where
    by : (b : Bool) → AllByRecursion (IsLate old last) (early cut rs) → AllByRecursion (IsLate old last) (if b then r ∷ early cut rs else [])
    by true rest =
        let a = h.0 in (
          record {
            late = omega (arith, ints);
            behind = λ end same. let e = after end same in omega (arith, ints);
          },
          rest,
        )
    by false rest = tt

-- where some rows were handed on, the last end is at or below where the others begin
last_below : (last : Option ℤ) (from cut : ℤ) → ForSome last (λ end. end ≤ℤ int_max (unwrap_or last from) cut)
last_below None from cut = λ end same. absurd (cc same)
last_below (Some e) from cut = λ end same. let s : e ≡ end = cc same in grind (arith, ints, clamps)

-- the rows of an input that the next session is handed
part-new : (old : ℤ) (cut : Option ℤ) (from limit : ℤ) (rows : List Snapshot) → InOrder from limit rows
    → AllByRecursion (IsLate old (last_end (early (Some old) rows))) (part_of (Some old) cut rows)
part-new old cut from limit rows h =
    let last = last_end (early (Some old) rows) in
    new-rows old last cut (int_max (unwrap_or last from) old) limit (behind old rows) (behind-order old from limit rows h) (grind (arith, ints, clamps)) (last_below last from old)

-- a cut isn't before another, where there is one
abbrev pub NotBefore : ℤ → Option ℤ → Type 0
NotBefore old (Some new) = old ≤ℤ new
NotBefore old None = ⊤

-- nothing is lost between two sessions
part-added : (old : ℤ) (cut : Option ℤ) → NotBefore old cut → (rows : List Snapshot) → early (Some old) rows ++ part_of (Some old) cut rows ≡ early cut rows
part-added old cut onward [] = refl
part-added old cut onward (r ∷ rs) = by (int_lt r.start old) refl (part-added old cut onward rs)
  where
    still : (cut : Option ℤ) → NotBefore old cut → int_lt r.start old ≡ true → is_early cut r ≡ true
    still (Some tick) low is = grind (arith, ints)
    still None low is = refl

    by : (b : Bool) → int_lt r.start old ≡ b → early (Some old) rs ++ part_of (Some old) cut rs ≡ early cut rs
        → (if b then r ∷ early (Some old) rs else []) ++ early cut (if b then behind old rs else r ∷ rs) ≡ early cut (r ∷ rs)
    by true is rest = rw (still cut onward is) (ap (λ (l : List Snapshot). r ∷ l) rest)
    by false is rest = refl

-- after all cuts nothing is left
pub early-end : (rows : List Snapshot) → early None rows ≡ rows
early-end [] = refl
early-end (r ∷ rs) = ap (λ (l : List Snapshot). r ∷ l) (early-end rs)

-- The same of the rows of all inputs.

pub all-order : (cut : Option ℤ) (rows : List (List Snapshot)) → AllByRecursion AreRows rows → AllByRecursion AreRows (map (early cut) rows)
all-order cut [] h = tt
all-order cut (r ∷ rs) h = (early-order cut _ T r h.0, all-order cut rs h.1)

pub all-start : (tick : ℤ) (rows : List (List Snapshot)) → StartBefore (replicate (length rows) tick) (rows_before tick rows)
all-start tick [] = tt
all-start tick (r ∷ rs) = (early-starts tick r, all-start tick rs)

all-late : (old first : ℤ) (cut : Option ℤ) (rows : List (List Snapshot)) → AllByRecursion AreRows rows
    → AreLate (kept_each first (replicate (length rows) old) (rows_before old rows)) (map (part_of (Some old) cut) rows)
all-late old first cut [] h = tt
all-late old first cut (r ∷ rs) h = (part-new old cut _ T r h.0, all-late old first cut rs h.1)

parts-start : (old tick : ℤ) (rows : List (List Snapshot)) → StartBefore (replicate (length rows) tick) (map (part_of (Some old) (Some tick)) rows)
parts-start old tick [] = tt
parts-start old tick (r ∷ rs) = (early-starts tick (behind old r), parts-start old tick rs)

all-early : (old : ℤ) (cut : Option ℤ) (rows : List (List Snapshot)) → AreEarly (end_by rows cut) (map (part_of (Some old) cut) rows)
all-early old (Some tick) rows = parts-start old tick rows
all-early old None rows = tt

pub all-new : (old first : ℤ) (cut : Option ℤ) (rows : List (List Snapshot)) → AllByRecursion AreRows rows
    → AreNewRows (end_by rows cut) (kept_each first (replicate (length rows) old) (rows_before old rows)) (map (part_of (Some old) cut) rows)
all-new old first cut rows h = record { late = all-late old first cut rows h; early = all-early old cut rows }

pub all-added : (old : ℤ) (cut : Option ℤ) → NotBefore old cut → (rows : List (List Snapshot))
    → added (rows_before old rows) (map (part_of (Some old) cut) rows) ≡ map (early cut) rows
all-added old cut onward [] = refl
all-added old cut onward (r ∷ rs) =
    ap (λ (l : List Snapshot). l ∷ added (rows_before old rs) (map (part_of (Some old) cut) rs)) (part-added old cut onward r)
    ∙ ap (λ (ls : List (List Snapshot)). early cut r ∷ ls) (all-added old cut onward rs)

pub all-end : (rows : List (List Snapshot)) → map (early None) rows ≡ rows
all-end [] = refl
all-end (r ∷ rs) = ap (λ (l : List Snapshot). l ∷ map (early None) rs) (early-end r) ∙ ap (λ (ls : List (List Snapshot)). r ∷ ls) (all-end rs)

-- a first session is handed the first rows
pub all-first : (cut : Option ℤ) (rows : List (List Snapshot)) → map (part_of None cut) rows ≡ map (early cut) rows
all-first cut [] = refl
all-first cut (r ∷ rs) = ap (λ (ls : List (List Snapshot)). early cut r ∷ ls) (all-first cut rs)
