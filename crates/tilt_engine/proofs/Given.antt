-- Which snapshots of a run are known: those that the last loop has made.
use Rattle.std.proofs.Common.{◌≡◌, ◌⊎◌, inl, inr, ℕ, zero, suc, ℤ, ◌<ℤ◌, ◌≤ℤ◌, int_le, int_lt, true, false, List, [], ◌∷◌, ◌++◌, drop, slice_get, Option}
use Rattle.std.proofs.Common.{Some, None, refl, sym, ap, ◌∙◌, subst, arith, if◌then◌else◌}
use Rattle.std.proofs.lemmas.Int.{ints, by_lt_z}
use Rattle.tilt_feed.specs.Resting.{begun_next, ended_by}
use Rattle.tilt_pipe.proofs.Standing.{made-rest}
use Rattle.tilt_pipe.specs.Positions.{made_by}
use Rattle.tilt_stream.proofs.Filling.{Fill-up}
use Rattle.tilt_stream.specs.Snap.{Fill, Snapshot}

-- the snapshots that end at a tick or below it
pub ended-made : (tick : ℤ) (list : List Snapshot) → ended_by tick list ≡ made_by tick list
ended-made tick [] = refl
ended-made tick (s ∷ ss) = ap (λ (rest : List Snapshot). if int_le s.end tick then s ∷ rest else []) (ended-made tick ss)

-- one of a list is the same one of a list that goes on from it
get-front : (front rest : List Snapshot) (n : ℕ) (s : Snapshot) → slice_get front n ≡ Some s → slice_get (front ++ rest) n ≡ Some s
get-front [] rest n s is = absurd (cc is)
get-front (x ∷ front) rest zero s is = is
get-front (x ∷ front) rest (suc n) s is = get-front front rest n s is

get-behind : (front rest : List Snapshot) (n : ℕ) → slice_get front n ≡ None → (k : ℕ) × (slice_get (front ++ rest) n ≡ slice_get rest k)
get-behind [] rest n is = (n, refl)
get-behind (x ∷ front) rest zero is = absurd (cc is)
get-behind (x ∷ front) rest (suc n) is = get-behind front rest n is

-- those that fill a stretch start at its lower end or later, and end after it
pub starts-low : (lo hi : ℤ) (list : List Snapshot) (n : ℕ) (s : Snapshot) → Fill lo hi list → slice_get list n ≡ Some s → (lo ≤ℤ s.start) × (s.start <ℤ s.end)
starts-low lo hi [] n s h is = absurd (cc is)
starts-low lo hi (x ∷ list) zero s h is =
    let same : x ≡ s = cc is in
    let starts = h.0 in
    let rises = h.1 in
    subst (λ (y : Snapshot). (lo ≤ℤ y.start) × (y.start <ℤ y.end)) same (omega (arith, ints), omega (arith, ints))
starts-low lo hi (x ∷ list) (suc n) s h is =
    let rest = starts-low x.end hi list n s h.2 is in
    let rises = h.1 in
    let low = rest.0 in
    (omega (arith, ints), rest.1)

-- the one with a number is among those that end at a tick or below it if it does, and otherwise there is none with the number
among-ended : (lo hi tick : ℤ) (list : List Snapshot) (n : ℕ) (s : Snapshot) → Fill lo hi list → slice_get list n ≡ Some s → s.end ≤ℤ tick
    → slice_get (made_by tick list) n ≡ Some s
among-ended lo hi tick [] n s h is low = absurd (cc is)
among-ended lo hi tick (x ∷ list) zero s h is low =
    let same : x ≡ s = cc is in
    let inside : int_le x.end tick ≡ true = rw same (grind (arith, ints)) in
    rw inside is
among-ended lo hi tick (x ∷ list) (suc n) s h is low =
    let rest = starts-low x.end hi list n s h.2 is in
    let behind = rest.0 in
    let rises = rest.1 in
    let inside : int_le x.end tick ≡ true = grind (arith, ints) in
    rw inside (among-ended x.end hi tick list n s h.2 is low)

none-ended : (lo hi tick : ℤ) (list : List Snapshot) (n : ℕ) → Fill lo hi list → ((s : Snapshot) → slice_get list n ≡ Some s → tick <ℤ s.end)
    → slice_get (made_by tick list) n ≡ None
none-ended lo hi tick [] n h late = refl
none-ended lo hi tick (x ∷ list) zero h late =
    let high = late x refl in
    let outside : int_le x.end tick ≡ false = grind (arith, ints) in
    rw outside refl
none-ended lo hi tick (x ∷ list) (suc n) h late =
    by_lt_z tick x.end
    (λ high. let outside : int_le x.end tick ≡ false = grind (arith, ints) in rw outside refl)
    (λ low. let inside : int_le x.end tick ≡ true = grind (arith, ints) in rw inside (none-ended x.end hi tick list n h.2 late))

-- what a loop has made of a run that fills a stretch, and that it has made all up to a limit, or all
pub record HasMadeTo (lo hi reached limit : ℤ) (run : List Snapshot) : Type 0 where
  pub fills : Fill lo hi run
  pub made : Fill lo reached (made_by reached run)
  pub far : (hi ≤ℤ reached) ⊎ (limit ≤ℤ reached)

module _ (lo hi reached limit : ℤ) (run : List Snapshot) (h : HasMadeTo lo hi reached limit run) where
  -- what it has made is of the run
  pub made-of : (n : ℕ) (s : Snapshot) → slice_get (made_by reached run) n ≡ Some s → slice_get run n ≡ Some s
  made-of n s is =
      let parts = made-rest lo hi reached run h.fills h.made in
      subst (λ (list : List Snapshot). slice_get list n ≡ Some s) (sym parts.1) (get-front (made_by reached run) parts.0 n s is)

  -- what it hasn't made starts at the limit or later
  pub late-of : (n : ℕ) (s : Snapshot) → slice_get (made_by reached run) n ≡ None → slice_get run n ≡ Some s → limit ≤ℤ s.start
  late-of n s none is =
      let parts = made-rest lo hi reached run h.fills h.made in
      let behind = get-behind (made_by reached run) parts.0 n none in
      let there : slice_get parts.0 behind.0 ≡ Some s = sym behind.1 ∙ subst (λ (list : List Snapshot). slice_get list n ≡ Some s) parts.1 is in
      let low = starts-low reached hi parts.0 behind.0 s parts.2 there in
      by low.0 low.1 h.far (parts.0, parts.2, (behind.0, there))
    where
      by : reached ≤ℤ s.start → s.start <ℤ s.end → (hi ≤ℤ reached) ⊎ (limit ≤ℤ reached) → (rest : List Snapshot) × Fill reached hi rest × ((k : ℕ) × (slice_get rest k ≡ Some s))
          → limit ≤ℤ s.start
      by low rises (inr far) rest = omega (arith, ints)
      by low rises (inl end) rest = absurd (none-left rest.0 rest.2.0 rest.1 rest.2.1)
        where
          none-left : (rest : List Snapshot) (k : ℕ) → Fill reached hi rest → slice_get rest k ≡ Some s → ⊥
          none-left [] k fills is = cc is
          none-left (x ∷ rest) k fills is =
              let rises = fills.1 in
              let up = Fill-up x.end hi rest fills.2 in
              omega (arith, ints)

-- the snapshot of a run with a number, if it ends at a limit or below it
pub limited-some : (lo hi limit : ℤ) (run : List Snapshot) (n : ℕ) (s : Snapshot) → Fill lo hi run → slice_get run n ≡ Some s → s.end ≤ℤ limit
    → slice_get (ended_by limit run) n ≡ Some s
limited-some lo hi limit run n s fills is low =
    ap (λ (list : List Snapshot). slice_get list n) (ended-made limit run) ∙ among-ended lo hi limit run n s fills is low

pub limited-none : (lo hi limit : ℤ) (run : List Snapshot) (n : ℕ) → Fill lo hi run → ((s : Snapshot) → slice_get run n ≡ Some s → limit <ℤ s.end)
    → slice_get (ended_by limit run) n ≡ None
limited-none lo hi limit run n fills late = ap (λ (list : List Snapshot). slice_get list n) (ended-made limit run) ∙ none-ended lo hi limit run n fills late

-- what has begun after so many snapshots
begun-past : (limit : ℤ) (run : List Snapshot) (n : ℕ) → slice_get run n ≡ None → begun_next limit (drop n run) ≡ None
begun-past limit [] zero is = refl
begun-past limit [] (suc n) is = refl
begun-past limit (x ∷ run) zero is = absurd (cc is)
begun-past limit (x ∷ run) (suc n) is = begun-past limit run n is

pub begun-there : (limit : ℤ) (run : List Snapshot) (n : ℕ) (s : Snapshot) → slice_get run n ≡ Some s
    → begun_next limit (drop n run) ≡ (if int_lt s.start limit then Some (record { start = s.start; value = s.value }) else None)
begun-there limit [] n s is = absurd (cc is)
begun-there limit (x ∷ run) zero s is =
    let same : x ≡ s = cc is in
    ap (λ (y : Snapshot). if int_lt y.start limit then Some (record { start = y.start; value = y.value }) else None) same
begun-there limit (x ∷ run) (suc n) s is = begun-there limit run n s is

pub begun-none : (limit : ℤ) (run : List Snapshot) (n : ℕ) → ((s : Snapshot) → slice_get run n ≡ Some s → limit ≤ℤ s.start) → begun_next limit (drop n run) ≡ None
begun-none limit run n late = by (slice_get run n) refl late
  where
    by : (x : Option Snapshot) → slice_get run n ≡ x → ((s : Snapshot) → slice_get run n ≡ Some s → limit ≤ℤ s.start) → begun_next limit (drop n run) ≡ None
    by None is late = begun-past limit run n is
    by (Some s) is late =
        let on = late s is in
        let test : int_lt s.start limit ≡ false = grind (arith, ints) in
        begun-there limit run n s is ∙ rw test refl
