use Rattle.std.proofs.Common.{◌≡◌, arith, rules, to_z, of_z, w64}
use Rattle.std.proofs.lemmas.Int.{ints}
use Rattle.tilt_series.proofs.bounds.free_stretch.Goals as goal

pub returns : goal.returns
returns c =
    let low : to_z w64 (of_z w64 c.max-2.result) ≡ c.max-2.result = search rules in
    let high : to_z w64 (of_z w64 c.min.result) ≡ c.min.result = search rules in
    rw (← c.bounds.view_is, low, high) (record {
      first = grind (arith, ints);
      last = grind (arith, ints);
      last_end = λ tick e. let is = rw e at c.unwrap_or-last_end.ensures in grind (arith, ints);
      from = λ tick e. let is = rw e at c.unwrap_or-from.ensures in grind (arith, ints);
      upto = λ tick e. let is = rw e at c.unwrap_or-upto.ensures in grind (arith, ints);
    })
