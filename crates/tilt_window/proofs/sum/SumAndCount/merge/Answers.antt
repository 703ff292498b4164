use Rattle.std.proofs.Common.{◌≡◌, ℤ, List, ◌++◌, ◌<◌, length, ◌+ℤ◌, All, FitsSigned, to_z, of_z, sym, arith, rules}
use Rattle.std.specs.Int.{w64, w128}
use Rattle.std.proofs.lemmas.Int.{to_z-of_z}
use Rattle.std.proofs.lemmas.List.{length-append}
use Rattle.std.proofs.lemmas.List.Elements.{All-append}
use Rattle.tilt_base.specs.Reduce.{total}
use Rattle.tilt_base.proofs.Totals.{total_append, total_fits}
use Rattle.tilt_window.proofs.sum.SumAndCount.merge.Goals as goal

-- the sum that the code takes in 128 bits
sum_is : (a b : ℤ) (ms ns : List ℤ) → FitsSigned w128 a → FitsSigned w128 b → a ≡ total ms → b ≡ total ns →
    to_z w128 (of_z w128 a) +ℤ to_z w128 (of_z w128 b) ≡ total (ms ++ ns)
sum_is a b ms ns a_fits b_fits first second =
    rw (to_z-of_z w128 a a_fits, to_z-of_z w128 b b_fits, first, second) (sym (total_append ms ns))

joined_fits : (ms ns : List ℤ) → All (FitsSigned w64) ms → All (FitsSigned w64) ns →
    length (ms ++ ns) < 9223372036854775808 → FitsSigned w128 (total (ms ++ ns))
joined_fits ms ns first second few = total_fits (ms ++ ns) (All-append (FitsSigned w64) ms ns first second) (omega (arith, few))

pub overflow_add-result : goal.overflow_add-result
overflow_add-result c =
    let (ms, ns, first, second, few) = c.requires in
    rw (sum_is c.args.self.now.sum c.args.other.now.sum ms ns (search rules) (search rules) first.sum second.sum)
    (joined_fits ms ns first.fits second.fits few)

pub returns : goal.returns
returns c = λ ms ns first second.
    let (some, others, one, other, few) = c.requires in
    let fits = joined_fits ms ns first.fits second.fits
    (omega (arith, few, length-append some others, length-append ms ns, first.count, second.count, one.count, other.count)) in
    record {
      sum = rw (sum_is c.args.self.now.sum c.args.other.now.sum ms ns (search rules) (search rules) first.sum second.sum)
          (to_z-of_z w128 (total (ms ++ ns)) fits);
      count = omega (arith, first.count, second.count, length-append ms ns);
      fits = All-append (FitsSigned w64) ms ns first.fits second.fits;
    }
