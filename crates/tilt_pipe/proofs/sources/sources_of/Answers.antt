use Rattle.std.proofs.Common.{◌≡◌, ◌+◌, ◌∙◌, length, ap, arith}
use Rattle.tilt_code.specs.Code.{LoopParts}
use Rattle.tilt_pipe.proofs.Nears.{work-ready}
use Rattle.tilt_pipe.proofs.RingsKept.{loop-is}
use Rattle.tilt_pipe.proofs.Works.{work-there}
use Rattle.tilt_pipe.proofs.sources.sources_of.Goals as goal

pub body_sources-requires : goal.body_sources-requires
body_sources-requires c =
    let p = c.args.rings.now in
    let l = c.index-loops-place.result in
    let w = work-there p c.args.place c.requires.there in
    let same = loop-is p c.args.place w.0 c.loops.result.now l w.1 c.loops.ensures.loops c.index-loops-place.is in
    let body : c.deref.result.now ≡ w.0.loop.body = c.deref.ensures.value ∙ ap (λ (x : LoopParts). x.body) (c.each.view_is ∙ same) in (
      length p.inputs + c.args.place,
      length w.0.loop.maps,
      rw body (work-ready p c.args.place w.0 c.loops.ensures.code c.loops.ensures.rings w.1).leaves,
      omega (arith, c.requires.there, c.requires.numbers),
    )

pub returns : goal.returns
returns c = λ w is.
    let p = c.args.rings.now in
    let l = c.index-loops-place.result in
    let same = loop-is p c.args.place w c.loops.result.now l is c.loops.ensures.loops c.index-loops-place.is in
    let body : c.deref.result.now ≡ w.loop.body = c.deref.ensures.value ∙ ap (λ (x : LoopParts). x.body) (c.each.view_is ∙ same) in
    rw (← body) c.body_sources.ensures
