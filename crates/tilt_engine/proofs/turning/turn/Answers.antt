-- The turn is one that may be made, and what is so after it.
use Rattle.std.proofs.Common.{◌≡◌, ◌∙◌, ◌<◌, pos, ◌+ℤ◌, List, ◌++◌, length, map, get_or, slice_get, slice_set, Some, FitsSigned, to_z, of_z, w64, sym, ap, subst, arith, rules, refl}
use Rattle.std.proofs.lemmas.Int.{to_z-of_z}
use Rattle.std.proofs.lemmas.Option.{same_Some, slice_get_read}
use Rattle.std.proofs.lemmas.Result.{IfOk-weaker}
use Rattle.tilt_base.specs.Grid.{ceil}
use Rattle.tilt_code.specs.Body.{body_of}
use Rattle.tilt_code.specs.Code.{LoopParts}
use Rattle.tilt_code.specs.Turn.{turn}
use Rattle.tilt_engine.proofs.Turned.{MayMake, fewer-here, loops-here, make-here, piece-here}
use Rattle.tilt_engine.specs.CodeHorizon.{horizon_by}
use Rattle.tilt_engine.specs.Gone.{rests}
use Rattle.tilt_engine.specs.Standing.{AreLoops, IsStockOf, MayTurn, loop_at, turns_left, with_piece}
use Rattle.tilt_engine.specs.Stock.{IsPieceOn, inlet_list, made_list}
use Rattle.tilt_feed.specs.Horizon.{Horizon, is_known_at}
use Rattle.tilt_stream.specs.Snap.{Snapshot}
use Rattle.tilt_stream.specs.Stream.{stream_of}
use Rattle.tilt_turn.specs.Held.{IsFit}
use Rattle.tilt_engine.proofs.turning.turn.Goals as goal
use Rattle.tilt_engine.proofs.turning.turn.Goals.{After-index-loops-place, After-index_mut}

-- the loop that is read, by any horizons by which the loops stand
module _ (c : After-index-loops-place) (rows gone : List (List Snapshot)) (hs : List Horizon)
    (stock : IsStockOf c.args.code.now rows gone hs c.args.stock.now.inputs.items c.args.stock.now.loops.items c.args.states.now c.args.place)
    (is : horizon_by c.args.horizon ≡ loop_at c.args.code.now hs c.args.place) where
  at : slice_get c.args.stock.now.loops.items c.args.place ≡ Some c.index.result.now
  at = slice_get_read c.args.stock.now.loops.items (length c.args.stock.now.loops.items) c.args.place c.index.result.now refl
      (let there = c.requires.there in omega (arith, stock.are.many)) c.index.ensures

  may : MayTurn (loop_at c.args.code.now hs c.args.place) c.index.result.now
  may = subst (λ (h : Horizon). MayTurn h c.index.result.now) is (c.requires.may c.index.result.now at)

  start : to_z w64 (of_z w64 c.settled-start.result) ≡ c.index.result.now.settled
  start = let fits : FitsSigned w64 c.settled-start.result = search rules in to_z-of_z w64 c.settled-start.result fits ∙ c.settled-start.ensures

  loop-of : c.index-loops-place.result ≡ get_or c.args.code.now.loops c.args.place c.index-loops-place.result
  loop-of = c.index-loops-place.is ∙ ap (λ (list : List LoopParts). get_or list c.args.place c.index-loops-place.result) c.loops.ensures.loops

  make : MayMake (map inlet_list c.args.stock.now.inputs.items ++ map made_list c.args.stock.now.loops.items) c.index-loops-place.result
      c.index.result.now.settled c.index-states-place.result
  make =
      subst (λ (inputs : List (List Snapshot)). MayMake (inputs ++ map made_list c.args.stock.now.loops.items) c.index-loops-place.result
      c.index.result.now.settled c.index-states-place.result) (sym stock.left)
      (make-here c.args.code.now rows gone hs c.args.stock.now.loops.items c.args.states.now c.args.place
      c.loops.ensures.code stock.are c.requires.there c.index.result.now c.index.ensures may c.index-states-place.result c.index-states-place.is
      c.index-loops-place.result loop-of)

pub turn-requires : goal.turn-requires
turn-requires c =
    let r = c.requires.loops in
    let m = make c r.0 r.1 r.2 r.3 r.4 in
    let from = start c r.0 r.1 r.2 r.3 r.4 in
    rw (from, ← c.index-states-place.is) (record { ready = m.ready; low = m.low; high = m.high; kept = m.kept; fit = m.fit })

-- the snapshot of the turn
module _ (c : After-index_mut) (rows gone : List (List Snapshot)) (hs : List Horizon)
    (stock : IsStockOf c.args.code.now rows gone hs c.args.stock.now.inputs.items c.args.stock.now.loops.items c.args.states.now c.args.place)
    (is : horizon_by c.args.horizon ≡ loop_at c.args.code.now hs c.args.place) where
  abbrev before : After-index-loops-place
  before = c.before.before.before.before.before

  abbrev lists : List (List Snapshot)
  lists = rests gone rows ++ map made_list c.args.stock.now.loops.items

  abbrev l : LoopParts
  l = c.index-loops-place.result

  snap : c.in_ok-snap.snap ≡ turn (body_of (map stream_of lists) l) l.grid l.hi c.index.result.now.settled
  snap =
      subst (λ (inputs : List (List Snapshot)). c.in_ok-snap.snap ≡ turn (body_of (map stream_of (inputs ++ map made_list c.args.stock.now.loops.items)) l)
      l.grid l.hi c.index.result.now.settled) stock.left (rw (start before rows gone hs stock is) at c.in_ok-snap.ensures.snap)

  fit : IsFit lists l (ceil l.grid (c.index.result.now.settled +ℤ pos 1)) c.turn.new.self
  fit =
      subst (λ (inputs : List (List Snapshot)). IsFit (inputs ++ map made_list c.args.stock.now.loops.items) l
      (ceil l.grid (c.index.result.now.settled +ℤ pos 1)) c.turn.new.self) stock.left (rw (start before rows gone hs stock is) at c.in_ok-snap.ensures.fit)

  on : IsPieceOn c.index.result.now.settled c.index.result.now.hi c.in_ok-snap.snap
  on =
      piece-here c.args.code.now rows gone hs c.args.stock.now.loops.items c.args.states.now c.args.place
      c.loops.ensures.code stock.are c.requires.there c.index.result.now c.index.ensures (may before rows gone hs stock is) c.index-states-place.result
      c.index-states-place.is c.index-loops-place.result (loop-of before rows gone hs stock is) c.in_ok-snap.snap c.turn.new.self snap fit

  -- the loop that takes it is the one that was read
  same : c.index_mut.result.now ≡ c.index.result.now
  same = same_Some c.index_mut.result.now c.index.result.now
      (sym (slice_get_read c.args.stock.now.loops.items (length c.args.stock.now.loops.items) c.args.place c.index_mut.result.now refl
      (let there = c.requires.there in omega (arith, stock.are.many)) c.index_mut.ensures.value) ∙ at before rows gone hs stock is)

  loops : AreLoops c.args.code.now rows gone hs (slice_set c.args.stock.now.loops.items c.args.place
      (with_piece (is_known_at (horizon_by c.args.horizon) c.in_ok-snap.snap.end) c.in_ok-snap.snap c.index.result.now))
      (slice_set c.args.states.now c.args.place c.turn.new.self) c.args.place
  loops =
      subst (λ (h : Horizon). AreLoops c.args.code.now rows gone hs (slice_set c.args.stock.now.loops.items c.args.place
      (with_piece (is_known_at h c.in_ok-snap.snap.end) c.in_ok-snap.snap c.index.result.now))
      (slice_set c.args.states.now c.args.place c.turn.new.self) c.args.place) (sym is)
      (loops-here c.args.code.now rows gone hs c.args.stock.now.loops.items c.args.states.now c.args.place
      c.loops.ensures.code stock.are c.requires.there c.index.result.now c.index.ensures (may before rows gone hs stock is) c.index-states-place.result
      c.index-states-place.is c.index-loops-place.result (loop-of before rows gone hs stock is) c.in_ok-snap.snap c.turn.new.self snap fit)

  fewer : turns_left (slice_set c.args.stock.now.loops.items c.args.place
      (with_piece (is_known_at (horizon_by c.args.horizon) c.in_ok-snap.snap.end) c.in_ok-snap.snap c.index.result.now)) c.args.place
      < turns_left c.args.stock.now.loops.items c.args.place
  fewer =
      let m = may before rows gone hs stock is in
      fewer-here c.args.stock.now.loops.items c.args.place (is_known_at (horizon_by c.args.horizon) c.in_ok-snap.snap.end) c.in_ok-snap.snap
      c.index.result.now (at before rows gone hs stock is) m.none m.before on

pub take-requires : goal.take-requires
take-requires c =
    let r = c.requires.loops in
    let s = same c r.0 r.1 r.2 r.3 r.4 in
    record { on = rw s (on c r.0 r.1 r.2 r.3 r.4) }

pub returns : goal.returns
returns c =
    let b = (goal.at.returns c).After-index_mut in
    let known = is_known_at (horizon_by c.args.horizon) c.in_ok-snap.snap.end in
    let Taken : Unit {0} → Type 0 = λ _. c.take.new.made ≡ with_piece known c.in_ok-snap.snap c.index_mut.result.now in
    record {
      inputs = refl;
      loops = λ rows gone hs stock is.
          IfOk-weaker c.take.result Taken
          (λ _. AreLoops c.args.code.now rows gone hs (slice_set c.args.stock.now.loops.items c.args.place c.take.new.made)
          (slice_set c.args.states.now c.args.place c.turn.new.self) c.args.place)
          (λ v made. rw (made, same b rows gone hs stock is) (loops b rows gone hs stock is)) c.take.ensures.ok;
      fewer =
          let r = c.requires.loops in
          IfOk-weaker c.take.result Taken
          (λ _. turns_left (slice_set c.args.stock.now.loops.items c.args.place c.take.new.made) c.args.place < turns_left c.args.stock.now.loops.items c.args.place)
          (λ v made. rw (made, same b r.0 r.1 r.2 r.3 r.4) (fewer b r.0 r.1 r.2 r.3 r.4)) c.take.ensures.ok;
    }
