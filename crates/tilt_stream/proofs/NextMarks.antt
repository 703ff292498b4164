-- The next marks of streams that are joined or shifted.
use Rattle.std.proofs.Common.{◌≡◌, ℤ, ◌+ℤ◌, ◌-ℤ◌, sym, ap, ◌∙◌, subst, arith}
use Rattle.std.specs.Int.{int_min}
use Rattle.std.proofs.lemmas.Bool.{or_right, or_left, or_from}
use Rattle.std.proofs.lemmas.Int.{ints, clamps, by_lt_z}
use Rattle.tilt_stream.specs.Marks.{IsNextMark, joined}
use Rattle.tilt_stream.specs.Pointwise.{shifted}
use Rattle.tilt_stream.specs.Stream.{Stream}

-- of two streams that are joined, the next mark is the lesser of theirs
pub joined-both : (x y : Stream) (tick a b : ℤ) → IsNextMark x tick a → IsNextMark y tick b → IsNextMark (joined x y) tick (int_min a b)
joined-both x y tick a b f g =
    let above_a = f.above in
    let above_b = g.above in
    by_lt_z b a
    (λ less.
    let is : int_min a b ≡ b = omega (arith, ints, clamps) in
    subst (IsNextMark (joined x y) tick) (sym is) (record {
      above = g.above;
      marked = or_right (x.mark b) (y.mark b) g.marked;
      least = λ other above below.
          or_from (x.mark other) (y.mark other) (f.least other above (omega (arith, ints))) (g.least other above below);
    }))
    (λ more.
    let is : int_min a b ≡ a = omega (arith, ints, clamps) in
    subst (IsNextMark (joined x y) tick) (sym is) (record {
      above = f.above;
      marked = or_left (x.mark a) (y.mark a) f.marked;
      least = λ other above below.
          or_from (x.mark other) (y.mark other) (f.least other above below) (g.least other above (omega (arith, ints)));
    }))

-- a stream that is shifted has its next mark so many ticks earlier
pub shifted-next : (x : Stream) (offset tick next : ℤ) → IsNextMark x (tick +ℤ offset) next
    → IsNextMark (shifted x offset) tick (next -ℤ offset)
shifted-next x offset tick next found =
    let above = found.above in
    let at : next -ℤ offset +ℤ offset ≡ next = omega (arith, ints) in
    record {
      above = omega (arith, ints);
      marked = ap x.mark at ∙ found.marked;
      least = λ other low below. found.least (other +ℤ offset) (omega (arith, ints)) (omega (arith, ints));
    }
