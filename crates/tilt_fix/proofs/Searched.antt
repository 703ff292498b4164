-- Which rows end after a tick, and which start before one: the last ones and the first ones, which a search finds.
use Rattle.std.proofs.Common.{◌≡◌, ◌≤◌, ℕ, zero, suc, ℤ, pos, ◌+ℤ◌, ◌≤ℤ◌, Bool, true, false, int_lt, int_le, List, [], ◌∷◌, ◌++◌, length, take, drop, filter, inl, inr, refl, neg_ℤ, arith}
use Rattle.std.proofs.Common.{ap, sym, subst, ◌∙◌}
use Rattle.std.specs.List.{AllByRecursion}
use Rattle.std.specs.List.Sorted.{IsPartitionPoint, IsPartitionedBy}
use Rattle.std.specs.Option.{ForSome}
use Rattle.std.proofs.lemmas.Bool.{cases_Bool}
use Rattle.std.proofs.lemmas.Int.{ints}
use Rattle.tilt_base.specs.declared.limits.TheConstants.{T}
use Rattle.tilt_fix.proofs.Windows.{InOrder-filter}
use Rattle.tilt_fix.specs.Window.{early, late, window}
use Rattle.tilt_stream.proofs.Order.{InOrder-front}
use Rattle.tilt_stream.proofs.Places.{InOrder-wider}
use Rattle.tilt_stream.proofs.Rising.{parted}
use Rattle.tilt_stream.specs.Snap.{Snapshot, AreRows, InOrder, last_end}

abbrev pub EndsBy : ℤ → Snapshot → Bool
EndsBy tick row = int_le row.end tick

abbrev pub StartsBefore : ℤ → Snapshot → Bool
StartsBefore tick row = int_lt row.start tick

-- those that start before a tick are before the others
pub starts-parted : (from limit : ℤ) (rows : List Snapshot) (tick : ℤ) → InOrder from limit rows → IsPartitionedBy (StartsBefore tick) rows
starts-parted from limit rows tick h = parted (λ r. r.start) (λ r width. (omega (arith, ints), omega (arith, ints))) from limit rows tick h

-- a lower bound may be lower
order-lower : (from limit low : ℤ) (rows : List Snapshot) → InOrder from limit rows → low ≤ℤ from → InOrder low limit rows
order-lower from limit low rows order below = InOrder-wider from limit low limit rows order below (omega (arith, ints))

-- and so do those that end at a tick or before it
pub ends-parted : (from limit : ℤ) (rows : List Snapshot) (tick : ℤ) → InOrder from limit rows → IsPartitionedBy (EndsBy tick) rows
ends-parted from limit rows tick h = λ i j d le there below.
    let rise = parted (λ r. r.end) (λ r width. (omega (arith, ints), omega (arith, ints))) from limit rows (tick +ℤ pos 1) h i j d le there (grind (arith, ints)) in
    grind (arith, ints)

-- a search that parts them finds the rows that end later
pub late-found : (rows : List Snapshot) (tick : ℤ) (i : ℕ) → i ≤ length rows
    → IsPartitionPoint (λ (r : Snapshot). EndsBy tick r ≡ true) (λ (r : Snapshot). EndsBy tick r ≡ false) rows i → drop i rows ≡ late tick rows
late-found [] tick zero within point = refl
late-found [] tick (suc i) within point = refl
late-found (r ∷ rs) tick zero within point =
    let out = point.1 0 r (omega arith) (omega arith) in
    let later : int_lt tick r.end ≡ true = grind (arith, ints) in
    rw later (ap (λ (l : List Snapshot). r ∷ l)
    (late-found rs tick zero (omega arith) ((λ k d l h. absurd (omega arith)), (λ k d l h. point.1 (suc k) d (omega arith) (omega arith)))))
late-found (r ∷ rs) tick (suc i) within point =
    let in_ = point.0 0 r (omega arith) (omega arith) in
    let later : int_lt tick r.end ≡ false = grind (arith, ints) in
    rw later (late-found rs tick i (omega arith) ((λ k d l h. point.0 (suc k) d (omega arith) (omega arith)), (λ k d l h. point.1 (suc k) d (omega arith) (omega arith))))

-- and those that start earlier
pub early-found : (rows : List Snapshot) (tick : ℤ) (i : ℕ) → i ≤ length rows
    → IsPartitionPoint (λ (r : Snapshot). StartsBefore tick r ≡ true) (λ (r : Snapshot). StartsBefore tick r ≡ false) rows i → take i rows ≡ early tick rows
early-found [] tick zero within point = refl
early-found [] tick (suc i) within point = refl
early-found (r ∷ rs) tick zero within point =
    let out = point.1 0 r (omega arith) (omega arith) in
    rw out (early-found rs tick zero (omega arith) ((λ k d l h. absurd (omega arith)), (λ k d l h. point.1 (suc k) d (omega arith) (omega arith))))
early-found (r ∷ rs) tick (suc i) within point =
    let in_ = point.0 0 r (omega arith) (omega arith) in
    rw in_ (ap (λ (l : List Snapshot). r ∷ l)
    (early-found rs tick i (omega arith) ((λ k d l h. point.0 (suc k) d (omega arith) (omega arith)), (λ k d l h. point.1 (suc k) d (omega arith) (omega arith)))))

-- what is early, or late, of two lists
pub filter-append : (test : Snapshot → Bool) (xs ys : List Snapshot) → filter test (xs ++ ys) ≡ filter test xs ++ filter test ys
filter-append test [] ys = refl
filter-append test (x ∷ xs) ys =
    elim (cases_Bool (test x)) [
      | inl is ↦ rw is (ap (λ (l : List Snapshot). x ∷ l) (filter-append test xs ys))
      | inr none ↦ rw none (filter-append test xs ys)
    ]

pub window-append : (lo hi : ℤ) (xs ys : List Snapshot) → window lo hi (xs ++ ys) ≡ window lo hi xs ++ window lo hi ys
window-append lo hi xs ys = ap (early hi) (filter-append (λ row. int_lt lo row.end) xs ys) ∙ filter-append (λ row. int_lt row.start hi) (late lo xs) (late lo ys)

-- rows after others start where those have ended, or later
starts-after : (end limit : ℤ) (rows : List Snapshot) → InOrder end limit rows → AllByRecursion (λ row. end ≤ℤ row.start) rows
starts-after end limit [] order = tt
starts-after end limit (row ∷ rows) order =
    (order.0, starts-after end limit rows (order-lower row.end limit end rows order.3 (let a = order.0 in let b = order.1 in omega (arith, ints))))

pub behind-last : (from limit : ℤ) (xs ys : List Snapshot) → InOrder from limit (xs ++ ys)
    → ForSome (last_end xs) (λ end. AllByRecursion (λ row. end ≤ℤ row.start) ys) × InOrder from limit ys
behind-last from limit [] ys order = ((λ end is. absurd (cc is)), order)
behind-last from limit (x ∷ []) ys order = (
  (λ end is. let e : x.end ≡ end = cc is in subst (λ (t : ℤ). AllByRecursion (λ row. t ≤ℤ row.start) ys) e (starts-after x.end limit ys order.3)),
  order-lower x.end limit from ys order.3 (let a = order.0 in let b = order.1 in omega (arith, ints)),
)
behind-last from limit (x ∷ next ∷ xs) ys order =
    let rest = behind-last x.end limit (next ∷ xs) ys order.3 in
    (rest.0, order-lower x.end limit from ys rest.1 (let a = order.0 in let b = order.1 in omega (arith, ints)))

-- rows in three parts: what of each has one of the ticks, and how they stand
pub record ArePushed (lo hi : ℤ) (before put after : List Snapshot) : Type 0 where
  pub before_order : AreRows before
  pub put_order : AreRows put
  pub after_order : AreRows after
  pub first : AreRows (window lo hi before)
  pub second : AreRows (window lo hi before ++ window lo hi put)
  pub third : AreRows (window lo hi before ++ window lo hi put ++ window lo hi after)
  pub all : window lo hi before ++ window lo hi put ++ window lo hi after ≡ window lo hi (before ++ put ++ after)

InOrder-window : (lo hi : ℤ) (rows : List Snapshot) → AreRows rows → AreRows (window lo hi rows)
InOrder-window lo hi rows order =
    InOrder-filter (λ row. int_lt row.start hi) (neg_ℤ T) T (late lo rows) (InOrder-filter (λ row. int_lt lo row.end) (neg_ℤ T) T rows order)

pub pushed : (lo hi : ℤ) (before put after : List Snapshot) → AreRows (before ++ put ++ after) → ArePushed lo hi before put after
pushed lo hi before put after order =
    let front = InOrder-front (neg_ℤ T) T (before ++ put) after order in
    let all : window lo hi before ++ window lo hi put ++ window lo hi after ≡ window lo hi (before ++ put ++ after) =
    sym (window-append lo hi (before ++ put) after ∙ ap (λ (l : List Snapshot). l ++ window lo hi after) (window-append lo hi before put)) in
    let third : AreRows (window lo hi before ++ window lo hi put ++ window lo hi after) =
    subst AreRows (sym all) (InOrder-window lo hi (before ++ put ++ after) order) in
    let second = InOrder-front (neg_ℤ T) T (window lo hi before ++ window lo hi put) (window lo hi after) third in
    record {
      before_order = InOrder-front (neg_ℤ T) T before put front;
      put_order = (behind-last (neg_ℤ T) T before put front).1;
      after_order = (behind-last (neg_ℤ T) T (before ++ put) after order).1;
      first = InOrder-front (neg_ℤ T) T (window lo hi before) (window lo hi put) second;
      second = second;
      third = third;
      all = all;
    }
