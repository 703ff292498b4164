use Rattle.std.proofs.Common.{◌≡◌, ◌∙◌, Some, length, refl, ap, arith, add-one}
use Rattle.std.proofs.lemmas.Option.{slice_get_read, slice_get_within}
use Rattle.circular_buffer.proofs.Places.{slice_get-some}
use Rattle.tilt_pipe.proofs.Starts.{each-push}
use Rattle.tilt_pipe.proofs.Works.{works-length}
use Rattle.tilt_pipe.specs.Chain.{point_at}
use Rattle.tilt_pipe.specs.Positions.{works_in}
use Rattle.tilt_pipe.proofs.starting.first_points.Goals as goal

pub is_used-used-requires-clause-begun : goal.is_used-used-requires-clause-begun
is_used-used-requires-clause-begun c =
    let turns = c.args.turns.now in
    let place = c.loop-place.place in
    let loops = ap length c.loops-place-end.ensures.loops in (
      0,
      omega arith,
      λ w of. c.requires.each place w c.index-turns-place.result of
          (slice_get_read turns (length turns) place c.index-turns-place.result refl (omega arith) c.index-turns-place.is),
    )

pub next_point-requires : goal.next_point-requires
next_point-requires c = omega (arith, c.loops-place-end.ensures.rings.many, ap length c.loops-place-end.ensures.loops)

pub loop-place-preserved : goal.loop-place-preserved
loop-place-preserved c =
    let p = c.args.rings.now in
    rw (add-one, c.in_ok-push.ensures.items)
    (each-push p (λ k w point. point ≡ point_at p k w) c.loop-place.points.items c.loop-place.place c.next_point.result c.loop-place.invariant
    (λ w of. c.next_point.ensures w of (c.is_used-used.ensures w of)))

pub returns : goal.returns
returns c = λ k w of.
    let p = c.args.rings.now in
    let i = c.loop-place.invariant in
    let loops = ap length c.loops-place-end.ensures.loops in
    let found = slice_get-some c.loop-place.points.items k
    (omega (arith, i.many, works-length p.code p.inputs, slice_get_within (works_in p) k w of)) in
    found.1 ∙ ap Some (i.each k w found.0 of found.1)
