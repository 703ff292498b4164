use Rattle.std.proofs.Common.{◌≡◌, ℤ, ◌+ℤ◌, FitsSigned, to_z, of_z, sym, refl, arith, rules}
use Rattle.std.specs.Int.{w64, w128}
use Rattle.std.proofs.lemmas.Int.{to_z-of_z}
use Rattle.std.proofs.lemmas.List.{length_push}
use Rattle.std.proofs.lemmas.List.Elements.{All-push}
use Rattle.tilt_base.specs.Reduce.{total}
use Rattle.tilt_base.proofs.Totals.{total_push, push_fits}
use Rattle.tilt_window.proofs.sum.SumAndCount.add.Goals as goal

-- the sum that the code takes in 128 bits
sum_is : (s wide n : ℤ) → FitsSigned w128 s → FitsSigned w128 wide → FitsSigned w64 n → wide ≡ to_z w64 (of_z w64 n) →
    to_z w128 (of_z w128 s) +ℤ to_z w128 (of_z w128 wide) ≡ s +ℤ n
sum_is s wide n s_fits wide_fits n_fits widened =
    rw (to_z-of_z w128 s s_fits, to_z-of_z w128 wide wide_fits, widened, to_z-of_z w64 n n_fits) refl

pub overflow_add-self : goal.overflow_add-self
overflow_add-self c =
    let (ns, held, few) = c.requires in
    let n = c.args.number in
    rw (sum_is c.args.self.now.sum c.from.result n (search rules) (search rules) c.ranges.number c.from.ensures, held.sum)
    (push_fits ns n held.fits c.ranges.number (omega arith))

pub returns : goal.returns
returns c = λ ns held.
    let (_, other, few) = c.requires in
    let n = c.args.number in
    let fits = push_fits ns n held.fits c.ranges.number (omega (arith, held.count, other.count)) in
    record {
      sum = rw (sum_is c.args.self.now.sum c.from.result n (search rules) (search rules) c.ranges.number c.from.ensures, held.sum, to_z-of_z w128 (total ns +ℤ n) fits)
          (sym (total_push ns n));
      count = omega (arith, held.count, length_push ns n);
      fits = All-push (FitsSigned w64) ns n held.fits c.ranges.number;
    }
