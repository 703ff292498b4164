-- The turn over the rings is the one over the whole buffers.
use Rattle.std.proofs.Common.{◌≡◌, ◌∙◌, ℤ, pos, ◌+ℤ◌, length, map, slice_get, Some, IfOk, OnOk, FitsSigned, to_z, of_z, w64, refl, sym, ap, subst, arith, rules}
use Rattle.std.proofs.lemmas.Int.{to_z-of_z}
use Rattle.std.proofs.lemmas.Option.{same_Some}
use Rattle.std.proofs.lemmas.Result.{IfOk-weaker}
use Rattle.tilt_code.specs.Code.{LoopParts}
use Rattle.tilt_base.specs.Grid.{ceil}
use Rattle.tilt_code.specs.Body.{body_of}
use Rattle.tilt_code.specs.Run.{buffers_of}
use Rattle.tilt_code.specs.Turn.{turn}
use Rattle.tilt_stream.specs.Snap.{Snapshot}
use Rattle.tilt_stream.specs.Stream.{stream_of}
use Rattle.tilt_turn.specs.Held.{IsFit}
use Rattle.tilt_pipe.proofs.Keeping.{MayGoOn, fit-whole, may-go_on, turn-next}
use Rattle.tilt_pipe.proofs.RingsKept.{loop-is, placed}
use Rattle.tilt_pipe.specs.Made.{Work}
use Rattle.tilt_pipe.specs.Positions.{lists_of, made_at, start_at}
use Rattle.tilt_pipe.specs.Reads.{turn_point}
use Rattle.tilt_pipe.proofs.chain.next_snap.Goals as goal

pub bounds-loops-place : goal.bounds-loops-place
bounds-loops-place c =
    let it = placed c.args.rings.now c.args.place c.requires.0 c.loops.ensures.code c.loops.ensures.rings c.requires.1.is_open in
    omega (arith, it.within_loops, ap length c.loops.ensures.loops)

pub offset_bounds-loops-place : goal.offset_bounds-loops-place
offset_bounds-loops-place c =
    let it = placed c.args.rings.now c.args.place c.requires.0 c.loops.ensures.code c.loops.ensures.rings c.requires.1.is_open in
    search rules

pub start-start-requires : goal.start-start-requires
start-start-requires c = (placed c.args.rings.now c.args.place c.requires.0 c.loops.ensures.code c.loops.ensures.rings c.requires.1.is_open).within

pub turn-requires : goal.turn-requires
turn-requires c =
    let p = c.args.rings.now in
    let w = c.requires.0 in
    let l = c.index-loops-place.result in
    let state = c.args.turns.now.state in
    let loop = loop-is p c.args.place w c.loops.result.now l c.requires.1.is_open.is c.loops.ensures.loops c.index-loops-place.is in
    let fits : FitsSigned w64 c.start-start.result = search rules in
    let start : to_z w64 (of_z w64 c.start-start.result) ≡ start_at p c.args.place = to_z-of_z w64 c.start-start.result fits ∙ c.start-start.ensures in
    let go = may-go_on p c.args.place c.args.turns.now w c.loops.ensures.code c.loops.ensures.rings c.requires.1 in
    let moved = subst (λ (t : ℤ). MayGoOn p l t state) (sym start) (subst (λ (x : LoopParts). MayGoOn p x (start_at p c.args.place) state) (sym loop) go) in
    record { ready = moved.ready; low = moved.low; high = moved.high; kept = moved.kept; fit = moved.fit }

pub returns : goal.returns
returns c =
    let p = c.args.rings.now in
    let place = c.args.place in
    let l = c.index-loops-place.result in
    let code = c.loops.ensures.code in
    let rings = c.loops.ensures.rings in
    let w = c.requires.0 in
    let may = c.requires.1 in
    let fits : FitsSigned w64 c.start-start.result = search rules in
    let from = to_z w64 (of_z w64 c.start-start.result) in
    let start : from ≡ start_at p place = to_z-of_z w64 c.start-start.result fits ∙ c.start-start.ensures in
    let loop = loop-is p place w c.loops.result.now l may.is_open.is c.loops.ensures.loops c.index-loops-place.is in
    let next = turn-next p place w code rings may.is_open may.told in
    let Fits = λ (x : LoopParts) (t : ℤ). IsFit (lists_of p) x (ceil x.grid (t +ℤ pos 1)) c.turn.new.self in
    record {
      snap = λ v open_.
          subst (λ (x : Work). IfOk c.turn.result (λ (s : Snapshot). slice_get x.whole (length (made_at p place x)) ≡ Some s))
          (same_Some w v (sym may.is_open.is ∙ open_.is))
          (IfOk-weaker c.turn.result (λ (s : Snapshot). s ≡ turn (body_of (map stream_of (lists_of p)) l) l.grid l.hi from)
          (λ (s : Snapshot). slice_get w.whole (length (made_at p place w)) ≡ Some s)
          (λ s is. next ∙ ap (λ (x : Snapshot). Some x)
          (sym (is ∙ (λ i. turn (body_of (map stream_of (lists_of p)) (loop i)) (loop i).grid (loop i).hi (start i))))) c.turn.ensures.snap);
      fit = λ v open_.
          subst (λ (x : Work). OnOk c.turn.result (IsFit (buffers_of p.code p.inputs) x.loop (turn_point x.loop (start_at p place)) c.turn.new.self))
          (same_Some w v (sym may.is_open.is ∙ open_.is))
          (IfOk-weaker c.turn.result (λ (s : Snapshot). Fits l from)
          (λ (s : Snapshot). IsFit (buffers_of p.code p.inputs) w.loop (turn_point w.loop (start_at p place)) c.turn.new.self)
          (λ s fit. fit-whole p place w c.turn.new.self code rings may.is_open.is may.told
          (subst (Fits w.loop) start (subst (λ (x : LoopParts). Fits x from) loop fit))) c.turn.ensures.fit);
      sources = refl;
      readers = refl;
      passed = refl;
      code = code;
      rings = rings;
    }
