use Rattle.std.proofs.Common.{◌∙◌, int_lt, true, false, FitsSigned, w64, refl, sym, arith, rules}
use Rattle.std.proofs.lemmas.Int.{ints, to_z-of_z}
use Rattle.tilt_pipe.proofs.Points.{point-at}
use Rattle.tilt_pipe.proofs.Works.{work-there}
use Rattle.tilt_pipe.specs.Positions.{start_at}
use Rattle.tilt_pipe.proofs.chain.next_point.Goals as goal
use Rattle.tilt_pipe.proofs.chain.next_point.Goals.{else-used-via-then-used+else-is_open, else-used-via-else-used}

pub point-requires : goal.point-requires
point-requires c =
    let behind = work-there c.args.rings.now c.args.place (omega (arith, c.loops.ensures.rings.many, c.requires)) in
    (behind.0, record { is = behind.1; before = (c.if-is_open.ensures behind.0 behind.1).0 refl })

pub returns-then-is_open : goal.returns-then-is_open
returns-then-is_open c = λ w of mark.
    let p = c.args.rings.now in
    let before = (c.is_open.ensures w of).0 c.if-is_open.true in
    let fits : FitsSigned w64 c.point.result = search rules in
    let at = c.point.ensures w (record { is = of; before = before }) in
    rw (to_z-of_z w64 c.point.result fits, at)
    (sym (point-at p c.args.place w true true (mark ∙ c.if-used.true) (grind (arith, ints))))

pub returns-else-used : goal.returns-else-used
returns-else-used c = λ w of mark.
    let p = c.args.rings.now in
    elim c.else-used.branch [
      | else-used-via-then-used+else-is_open b ↦ (
          let tells = b.is_open.ensures w of in
          let off = b.if-is_open.false in
          sym (point-at p c.args.place w true false (mark ∙ b.if-used.true) (grind (arith, ints)))
          )
      | else-used-via-else-used b ↦ sym (point-at p c.args.place w false (int_lt (start_at p c.args.place) w.loop.hi) (mark ∙ b.if-used.false) refl)
    ]
