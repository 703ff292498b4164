-- Laws of the snapshots of a stream.
use Rattle.std.proofs.Common.{◌≡◌, ℕ, zero, suc, ◌+◌, ◌<◌, ℤ, pos, negsuc, ◌+ℤ◌, ◌<ℤ◌, ◌≤ℤ◌, true, false, [], ◌∷◌, refl, ap, sym, ◌∙◌, arith}
use Rattle.std.specs.Int.{int_gap}
use Rattle.std.proofs.lemmas.Int.{ints}
use Rattle.tilt_stream.specs.Stream.{Stream}
use Rattle.tilt_stream.specs.Snapshots.{snapshot_on, cut_behind, snapshots_from, snapshots}

-- a number is as far above another as that many steps
pub int_gap_is : (lo hi : ℤ) → lo ≤ℤ hi → lo +ℤ pos (int_gap lo hi) ≡ hi
int_gap_is (pos a) (pos b) h = omega (arith, ints)
int_gap_is (pos a) (negsuc b) h = omega (arith, ints)
int_gap_is (negsuc a) (pos b) h = omega (arith, ints)
int_gap_is (negsuc a) (negsuc b) h = omega (arith, ints)

pub int_gap_none : (lo hi : ℤ) → hi ≤ℤ lo → int_gap lo hi ≡ 0
int_gap_none (pos a) (pos b) h = omega (arith, ints)
int_gap_none (pos a) (negsuc b) h = omega (arith, ints)
int_gap_none (negsuc a) (pos b) h = omega (arith, ints)
int_gap_none (negsuc a) (negsuc b) h = omega (arith, ints)

-- no tick of `(lo, hi]` has a mark
pub record IsUnmarked (x : Stream) (lo hi : ℤ) : Type 0 where
  pub unmarked : (tick : ℤ) → lo <ℤ tick → tick ≤ℤ hi → x.mark tick ≡ false

-- a snapshot goes on over ticks that have no mark
cut_behind_unmarked : (x : Stream) (start tick end : ℤ) (n more rest : ℕ) → more ≡ n + rest → end ≡ tick +ℤ pos n → IsUnmarked x tick end → cut_behind x start tick more ≡ cut_behind x start end rest
cut_behind_unmarked x start tick end zero more rest e at clear =
    let p : more ≡ rest = omega arith in
    let q : tick ≡ end = omega (arith, ints) in
    ap (λ (t : ℤ). cut_behind x start t more) q ∙ ap (cut_behind x start end) p
cut_behind_unmarked x start tick end (suc n) zero rest e at clear = absurd (omega arith)
cut_behind_unmarked x start tick end (suc n) (suc more) rest e at clear =
    let none : x.mark (tick +ℤ pos 1) ≡ false =
    clear.unmarked (tick +ℤ pos 1) (omega (arith, ints)) (omega (arith, ints)) in
    rw none (cut_behind_unmarked x start (tick +ℤ pos 1) end n more rest (omega arith) (omega (arith, ints)) (record { unmarked = λ t l h. clear.unmarked t (omega (arith, ints)) h }))

-- a snapshot ends before a mark
cut_behind_marked : (x : Stream) (start end : ℤ) (rest : ℕ) → (0 < rest → x.mark (end +ℤ pos 1) ≡ true) → cut_behind x start end rest ≡ snapshot_on x start end ∷ snapshots_from x end rest
cut_behind_marked x start end zero marked = refl
cut_behind_marked x start end (suc rest) marked = rw (marked (omega arith)) refl

-- The first snapshot ends where no mark was before and one follows, or at the end of all.
pub snapshots-first : (x : Stream) (lo end hi : ℤ) → lo <ℤ end → end ≤ℤ hi → IsUnmarked x (lo +ℤ pos 1) end
    → (end <ℤ hi → x.mark (end +ℤ pos 1) ≡ true) → snapshots x lo hi ≡ snapshot_on x lo end ∷ snapshots x end hi
snapshots-first x lo end hi before within clear marked =
    let n = int_gap (lo +ℤ pos 1) end in
    let rest = int_gap end hi in
    let e1 = int_gap_is lo hi (omega (arith, ints)) in
    let e2 = int_gap_is (lo +ℤ pos 1) end (omega (arith, ints)) in
    let e3 = int_gap_is end hi within in
    let all : int_gap lo hi ≡ suc (n + rest) = omega (arith, ints) in
    ap (snapshots_from x lo) all ∙ cut_behind_unmarked x lo (lo +ℤ pos 1) end n (n + rest) rest refl (sym e2) clear ∙ cut_behind_marked x lo end rest (λ some. marked (omega (arith, ints)))

-- where nothing is left there are none
pub snapshots-none : (x : Stream) (lo hi : ℤ) → hi ≤ℤ lo → snapshots x lo hi ≡ []
snapshots-none x lo hi h = ap (snapshots_from x lo) (int_gap_none lo hi h)
