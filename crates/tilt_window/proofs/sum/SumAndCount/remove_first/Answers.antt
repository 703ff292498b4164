use Rattle.std.proofs.Common.{◌≡◌, ◌<◌, ℤ, List, ◌∷◌, ◌-ℤ◌, All, FitsSigned, to_z, of_z, length, arith, rules}
use Rattle.std.specs.Int.{w64, w128}
use Rattle.std.proofs.lemmas.Int.{to_z-of_z}
use Rattle.std.proofs.lemmas.List.Elements.{All-tail}
use Rattle.tilt_base.specs.Reduce.{total}
use Rattle.tilt_base.proofs.Totals.{total_rest, total_fits}
use Rattle.tilt_window.proofs.sum.SumAndCount.remove_first.Goals as goal

-- the sum that the code takes in 128 bits
rest_is : (s wide n : ℤ) (ns : List ℤ) → FitsSigned w128 s → FitsSigned w128 wide → FitsSigned w64 n → wide ≡ to_z w64 (of_z w64 n) → s ≡ total (n ∷ ns) →
    to_z w128 (of_z w128 s) -ℤ to_z w128 (of_z w128 wide) ≡ total ns
rest_is s wide n ns s_fits wide_fits n_fits widened held =
    rw (to_z-of_z w128 s s_fits, to_z-of_z w128 wide wide_fits, widened, to_z-of_z w64 n n_fits, held) (total_rest n ns)

rest_fits : (n : ℤ) (ns : List ℤ) → All (FitsSigned w64) (n ∷ ns) → length (n ∷ ns) < 18446744073709551616 → FitsSigned w128 (total ns)
rest_fits n ns fits few = total_fits ns (All-tail (FitsSigned w64) n ns fits) (omega (arith, few))

pub overflow_sub-self-2 : goal.overflow_sub-self-2
overflow_sub-self-2 c =
    let (ns, held) = c.requires in
    let n = c.args.number in
    let few : c.args.self.now.count < 18446744073709551616 = search rules in
    rw (rest_is c.args.self.now.sum c.from.result n ns (search rules) (search rules) c.ranges.number c.from.ensures held.sum)
    (rest_fits n ns held.fits (omega (arith, few, held.count)))

pub returns : goal.returns
returns c = λ ns held.
    let n = c.args.number in
    let few : c.args.self.now.count < 18446744073709551616 = search rules in
    record {
      sum = rw (rest_is c.args.self.now.sum c.from.result n ns (search rules) (search rules) c.ranges.number c.from.ensures held.sum)
          (to_z-of_z w128 (total ns) (rest_fits n ns held.fits (omega (arith, few, held.count))));
      count = omega (arith, held.count);
      fits = All-tail (FitsSigned w64) n ns held.fits;
    }
