-- The rows of each input: those of the inputs one by one.
use Rattle.std.proofs.Common.{◌≡◌, ℕ, zero, suc, ℤ, pos, ◌+ℤ◌, ◌≤ℤ◌, neg_ℤ, List, [], ◌∷◌, ◌++◌, length, map, Option, Some, None, refl, sym, ap, arith}
use Rattle.std.specs.List.{AllByRecursion}
use Rattle.std.proofs.lemmas.Int.{ints}
use Rattle.tilt_base.specs.declared.limits.TheConstants.{T}
use Rattle.tilt_bounds.specs.Laws.{AreContinued}
use Rattle.tilt_checkpoint.specs.Checkpoint.{KeptParts, cuts_kept}
use Rattle.tilt_stream.specs.Agreement.{Agree}
use Rattle.tilt_stream.specs.Snap.{Snapshot, AreRows, InOrder, last_end}
use Rattle.tilt_stream.specs.Stream.{stream_of}
use Rattle.tilt_core.specs.Meaning.{source_of}
use Rattle.tilt_session.proofs.Reach.{kept-agrees, kept-again}
use Rattle.tilt_session.specs.Handed.{all_taken_up, kept_at}
use Rattle.tilt_session.specs.Kept.{kept_each, kept_of}
use Rattle.tilt_session.specs.Later.{again, kept_again, last_or}
use Rattle.tilt_session.specs.NewRows.{AreLate, AreNewRows, IsLate, StartBefore, added}
use Rattle.tilt_stream.specs.Pieces.{kept}
use Rattle.tilt_session.specs.declared.cut.Cut.{Cut}

-- the rows that are kept of each input
abbrev pub rows_of : List KeptParts → List (List Snapshot)
rows_of series = map (λ k. k.rows) series

pub length-added : (rows new : List (List Snapshot)) → length new ≡ length rows → length (added rows new) ≡ length rows
length-added [] new e = refl
length-added (r ∷ rows) [] e = absurd (omega arith)
length-added (r ∷ rows) (n ∷ new) e = ap suc (length-added rows new (omega arith))

late-counted : (series : List KeptParts) (new : List (List Snapshot)) → AreLate series new → length new ≡ length series
late-counted [] [] late = refl
late-counted [] (n ∷ new) late = absurd late
late-counted (k ∷ series) [] late = absurd late
late-counted (k ∷ series) (n ∷ new) late = ap suc (late-counted series new late.1)

pub new-counted : (cut : Cut) (series : List KeptParts) (new : List (List Snapshot)) → AreNewRows cut series new
    → length new ≡ length series
new-counted cut series new are = late-counted series new are.late

pub early-counted : (cuts : List ℤ) (rows : List (List Snapshot)) → StartBefore cuts rows → length cuts ≡ length rows
early-counted [] [] early = refl
early-counted [] (r ∷ rows) early = absurd early
early-counted (cut ∷ cuts) [] early = absurd early
early-counted (cut ∷ cuts) (r ∷ rows) early = ap suc (early-counted cuts rows early.1)

-- new rows start at their input's cut or after it, so at the least of the cuts or after it
late-rows : (least old : ℤ) (last : Option ℤ) (rows : List Snapshot) → least ≤ℤ old → AreRows rows
    → AllByRecursion (IsLate old last) rows → InOrder least T rows
late-rows least old last [] on order late = tt
late-rows least old last (r ∷ rows) on order late =
    let start = late.0.late in
    (omega (arith, ints), order.1, order.2, order.3)

pub continued : (first least : ℤ) (cuts : List ℤ) (rows new : List (List Snapshot)) → length cuts ≡ length rows
    → AllByRecursion (λ cut. least ≤ℤ cut) cuts → AllByRecursion AreRows new → AreLate (kept_each first cuts rows) new
    → AreContinued least rows (added rows new)
continued first least [] [] new e low order late = tt
continued first least [] (r ∷ rows) new e low order late = absurd (omega arith)
continued first least (cut ∷ cuts) [] new e low order late = absurd (omega arith)
continued first least (cut ∷ cuts) (r ∷ rows) [] e low order late = absurd late
continued first least (cut ∷ cuts) (r ∷ rows) (n ∷ new) e low order late = (
  record { added = n; is = refl; late = late-rows least cut (last_end r) n low.0 order.0 late.0 },
  continued first least cuts rows new (omega arith) low.1 order.1 late.1,
)

-- which rows are kept doesn't go by the cuts
pub rows-kept : (first : ℤ) (cuts : List ℤ) (rows : List (List Snapshot)) → length cuts ≡ length rows
    → rows_of (kept_each first cuts rows) ≡ map (kept first) rows
rows-kept first [] [] e = refl
rows-kept first [] (r ∷ rows) e = absurd (omega arith)
rows-kept first (cut ∷ cuts) [] e = absurd (omega arith)
rows-kept first (cut ∷ cuts) (r ∷ rows) e =
    ap (λ (all : List (List Snapshot)). kept first r ∷ all) (rows-kept first cuts rows (omega arith))

-- on ticks from the first one that is kept on, the rows that are kept agree with all rows
pub sources-kept : (first lo hi : ℤ) (rows new : List (List Snapshot)) (i : ℕ) → AllByRecursion AreRows rows → first ≤ℤ (lo +ℤ pos 1)
    → Agree (source_of (map stream_of (added (map (kept first) rows) new)) i) (source_of (map stream_of (added rows new)) i) lo hi
sources-kept first lo hi [] new i order on = record { cells = λ tick above within. refl; marks = λ tick above within. refl }
sources-kept first lo hi (r ∷ rows) [] i order on = record { cells = λ tick above within. refl; marks = λ tick above within. refl }
sources-kept first lo hi (r ∷ rows) (n ∷ new) zero order on = kept-agrees first n (neg_ℤ T) T r lo hi order.0 on
sources-kept first lo hi (r ∷ rows) (n ∷ new) (suc i) order on = sources-kept first lo hi rows new i order.1 on

-- the last end of rows and rows after them
last_of : (y : Snapshot) (ys : List Snapshot) (o : Option ℤ) → last_or (last_end (y ∷ ys)) o ≡ last_end (y ∷ ys)
last_of y [] o = refl
last_of y (z ∷ ys) o = last_of z ys o

pub last_or-none : (o : Option ℤ) → last_or o None ≡ o
last_or-none None = refl
last_or-none (Some end) = refl

pub last_end-append : (xs ys : List Snapshot) → last_end (xs ++ ys) ≡ last_or (last_end ys) (last_end xs)
last_end-append [] ys = sym (last_or-none (last_end ys))
last_end-append (x ∷ []) [] = refl
last_end-append (x ∷ []) (y ∷ ys) = sym (last_of y ys (Some x.end))
last_end-append (x ∷ z ∷ xs) ys = last_end-append (z ∷ xs) ys

-- what is kept later of what was kept, and of all rows
pub kept-all : (first later : ℤ) (cuts uptos : List ℤ) (rows new : List (List Snapshot)) → first ≤ℤ later → length cuts ≡ length rows
    → length new ≡ length rows → kept_each later uptos (added rows new) ≡ kept_again later uptos (kept_each first cuts rows) new
kept-all first later cuts [] rows new on e f = refl
kept-all first later [] (upto ∷ uptos) [] new on e f = refl
kept-all first later [] (upto ∷ uptos) (r ∷ rows) new on e f = absurd (omega arith)
kept-all first later (cut ∷ cuts) (upto ∷ uptos) [] new on e f = absurd (omega arith)
kept-all first later (cut ∷ cuts) (upto ∷ uptos) (r ∷ rows) [] on e f = absurd (omega arith)
kept-all first later (cut ∷ cuts) (upto ∷ uptos) (r ∷ rows) (n ∷ new) on e f =
    λ i. record { cut = upto; last_end = last_end-append r n i; rows = sym (kept-again first n later r on) i }
    ∷ kept-all first later cuts uptos rows new on (omega arith) (omega arith) i

-- what is kept, from the ends and the rows
pub kept_at-again : (first : ℤ) (cuts : List ℤ) (series : List KeptParts) (new : List (List Snapshot))
    → (let known = all_taken_up series new in kept_at first cuts (map (λ k. k.last_end) known) (rows_of known) ≡ kept_again first cuts series new)
kept_at-again first [] series new = refl
kept_at-again first (cut ∷ cuts) [] new = refl
kept_at-again first (cut ∷ cuts) (k ∷ series) [] = refl
kept_at-again first (cut ∷ cuts) (k ∷ series) (n ∷ new) =
    ap (λ (ks : List KeptParts). again first cut k n ∷ ks) (kept_at-again first cuts series new)

pub rows-taken_up : (series : List KeptParts) (new : List (List Snapshot))
    → rows_of (all_taken_up series new) ≡ added (rows_of series) new
rows-taken_up [] new = refl
rows-taken_up (k ∷ series) [] = refl
rows-taken_up (k ∷ series) (n ∷ new) = ap (λ (rows : List (List Snapshot)). (k.rows ++ n) ∷ rows) (rows-taken_up series new)

pub kept_at-first : (first : ℤ) (cuts : List ℤ) (rows : List (List Snapshot))
    → kept_at first cuts (map last_end rows) rows ≡ kept_each first cuts rows
kept_at-first first [] rows = refl
kept_at-first first (cut ∷ cuts) [] = refl
kept_at-first first (cut ∷ cuts) (r ∷ rows) = ap (λ (ks : List KeptParts). kept_of first cut r ∷ ks) (kept_at-first first cuts rows)

pub length-kept_each : (first : ℤ) (cuts : List ℤ) (rows : List (List Snapshot)) → length cuts ≡ length rows
    → length (kept_each first cuts rows) ≡ length rows
length-kept_each first [] [] e = refl
length-kept_each first [] (r ∷ rows) e = absurd (omega arith)
length-kept_each first (cut ∷ cuts) [] e = absurd (omega arith)
length-kept_each first (cut ∷ cuts) (r ∷ rows) e = ap suc (length-kept_each first cuts rows (omega arith))

pub length-kept_again : (first : ℤ) (cuts : List ℤ) (series : List KeptParts) (new : List (List Snapshot)) → length cuts ≡ length series
    → length new ≡ length series → length (kept_again first cuts series new) ≡ length series
length-kept_again first [] [] new e f = refl
length-kept_again first [] (k ∷ series) new e f = absurd (omega arith)
length-kept_again first (cut ∷ cuts) [] new e f = absurd (omega arith)
length-kept_again first (cut ∷ cuts) (k ∷ series) [] e f = absurd (omega arith)
length-kept_again first (cut ∷ cuts) (k ∷ series) (n ∷ new) e f = ap suc (length-kept_again first cuts series new (omega arith) (omega arith))

-- and each input has its cut
pub cuts-each : (first : ℤ) (cuts : List ℤ) (rows : List (List Snapshot)) → length cuts ≡ length rows
    → cuts_kept (kept_each first cuts rows) ≡ cuts
cuts-each first [] rows e = refl
cuts-each first (cut ∷ cuts) [] e = absurd (omega arith)
cuts-each first (cut ∷ cuts) (r ∷ rows) e = ap (λ (all : List ℤ). cut ∷ all) (cuts-each first cuts rows (omega arith))

pub cuts-again : (first : ℤ) (cuts : List ℤ) (series : List KeptParts) (new : List (List Snapshot)) → length cuts ≡ length series
    → length new ≡ length series → cuts_kept (kept_again first cuts series new) ≡ cuts
cuts-again first [] series new e f = refl
cuts-again first (cut ∷ cuts) [] new e f = absurd (omega arith)
cuts-again first (cut ∷ cuts) (k ∷ series) [] e f = absurd (omega arith)
cuts-again first (cut ∷ cuts) (k ∷ series) (n ∷ new) e f =
    ap (λ (all : List ℤ). cut ∷ all) (cuts-again first cuts series new (omega arith) (omega arith))
