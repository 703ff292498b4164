use Rattle.std.proofs.Common.{◌≡◌, ℕ, length, replicate, ap, sym, ◌∙◌, arith}
use Rattle.std.proofs.lemmas.List.{length-replicate}
use Rattle.tilt_watermarks.proofs.Places.{count-unknown}
use Rattle.tilt_watermarks.specs.Steps.{unknown}
use Rattle.tilt_watermarks.proofs.lanes.Lanes.new.Goals as goal

pub invariant_of-result : goal.invariant_of-result
invariant_of-result c =
    let many : length c.loop.lanes.items ≡ c.loop.counter = rw (c.loop.invariant) (length-replicate c.loop.counter unknown) in
    record {
      few = omega (arith, many, c.loop.auto.counter-end, c.ranges.inputs.fits);
      count = rw (c.loop.invariant) (sym (count-unknown c.loop.counter));
    }

pub returns : goal.returns
returns c =
    let all : c.loop.counter ≡ c.args.inputs = omega (arith, c.loop.auto.counter-end, c.loop-test.false) in
    c.loop.invariant ∙ ap (λ (n : ℕ). replicate n unknown) all
