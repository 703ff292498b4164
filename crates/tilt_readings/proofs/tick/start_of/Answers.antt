use Rattle.std.proofs.Common.{◌≡◌, pos, ◌-ℤ◌, ℤ, to_z, of_z, FitsSigned, ap, ◌∙◌, arith, rules}
use Rattle.std.proofs.lemmas.Int.{ints, to_z-of_z}
use Rattle.std.specs.Int.{int_div_euclid, w128}
use Rattle.tilt_readings.proofs.TickLemmas.{start_left, start_right}
use Rattle.tilt_readings.proofs.tick.start_of.Goals as goal
use Rattle.tilt_readings.proofs.tick.start_of.Goals.{in-Left, in-Right+in_ok-inside-in-Right}

pub returns : goal.returns
returns c =
    let fits : FitsSigned w128 c.div_euclid.result = search rules in
    let clock = c.args.clock in
    let moment = c.args.moment in
    let length : to_z w128 (of_z w128 c.from.result) ≡ pos clock.length = omega (arith, ints) in
    let divided = c.div_euclid.ensures ∙ ap (λ (d : ℤ). int_div_euclid (to_z w128 c.match-clock.inside-bits) d) length in
    rw (to_z-of_z w128 c.div_euclid.result fits)
    (elim c.match-clock.branch [
      | in-Left w ↦
          let inside : to_z w128 c.match-clock.inside-bits ≡ moment -ℤ clock.origin = omega (arith, ints, w.inside-is, c.in_ok-since.ensures) in
          start_left clock moment c.div_euclid.result c.requires w.in-Left.is (divided ∙ ap (λ (z : ℤ). int_div_euclid z (pos clock.length)) inside)
      | in-Right+in_ok-inside-in-Right w ↦
          let inside : to_z w128 c.match-clock.inside-bits ≡ (moment -ℤ clock.origin) -ℤ pos 1 = omega (arith, ints, w.inside-is, w.in_ok-inside-in-Right.ensures, c.in_ok-since.ensures) in
          start_right clock moment c.div_euclid.result c.requires w.in-Right.is (divided ∙ ap (λ (z : ℤ). int_div_euclid z (pos clock.length)) inside)
    ])
