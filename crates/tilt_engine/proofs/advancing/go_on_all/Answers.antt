-- There is a horizon for each buffer, and the loops go on one after the other.
use Rattle.std.proofs.Common.{◌≡◌, ◌<◌, ◌+◌, ◌∙◌, ℕ, suc, List, length, map, get_or, ap, subst, arith, rules, None}
use Rattle.tilt_engine.proofs.Readied.{horizon-read, many-horizons}
use Rattle.tilt_engine.specs.CodeHorizon.{code_horizons, horizon_by}
use Rattle.tilt_engine.specs.Standing.{AreLoops, IsStockOf, loop_at}
use Rattle.tilt_engine.specs.Stock.{inlet_horizon, inlet_list}
use Rattle.tilt_feed.specs.Horizon.{Horizon, horizon_of}
use Rattle.tilt_stream.specs.Snap.{Snapshot}
use Rattle.tilt_engine.proofs.advancing.go_on_all.Goals as goal
use Rattle.tilt_engine.proofs.advancing.go_on_all.Goals.{After-go_on-arg-in-loop-place-1}

-- the horizon of the loop
module _ (c : After-go_on-arg-in-loop-place-1) where
  abbrev hs : List Horizon
  hs = map (inlet_horizon c.args.finished) c.args.stock.now.inputs.items

  count : length c.inputs-inputs.result.now ≡ length c.args.code.now.inputs
  count = ap length c.inputs-inputs.ensures.names

  within : length c.inputs-inputs.result.now + c.loop-place.place < length c.args.horizons.now
  within =
      let many = many-horizons c.args.code.now hs c.args.horizons.now c.requires.horizons in
      let inputs = c.requires.loops.2.are.horizons in
      let below = c.loop-place-test.true in
      omega (arith, ap length c.loops-place-end.ensures.loops, count)

  there : c.loop-place.place < length c.args.code.now.loops
  there = let below = c.loop-place-test.true in omega (arith, ap length c.loops-place-end.ensures.loops)

  found : horizon_by (get_or c.args.horizons.now (length c.inputs-inputs.result.now + c.loop-place.place) None) ≡ loop_at c.args.code.now hs c.loop-place.place
  found =
      horizon-read c.args.horizons.now (length c.inputs-inputs.result.now + c.loop-place.place) within
      ∙ ap (λ (all : List Horizon). horizon_of all (length c.inputs-inputs.result.now + c.loop-place.place)) c.requires.horizons
      ∙ ap (λ (n : ℕ). horizon_of (code_horizons c.args.code.now hs) (n + c.loop-place.place)) count

  -- the loops stand over the same inputs
  stock : (rows gone : List (List Snapshot))
      → IsStockOf c.args.code.now rows gone hs c.args.stock.now.inputs.items c.args.stock.now.loops.items c.args.states.now 0
      → IsStockOf c.args.code.now rows gone hs c.loop-place.stock.inputs.items c.loop-place.stock.loops.items c.loop-place.states c.loop-place.place
  stock rows gone from = record {
    left = ap (map inlet_list) c.loop-place.invariant.inputs ∙ from.left;
    are = c.loop-place.invariant.loops rows gone from;
  }

pub bounds-horizons-inputs : goal.bounds-horizons-inputs
bounds-horizons-inputs c = within c

pub offset_bounds-horizons-inputs : goal.offset_bounds-horizons-inputs
offset_bounds-horizons-inputs c = let below = within c in search rules

pub go_on-requires-clause-loops : goal.go_on-requires-clause-loops
go_on-requires-clause-loops c =
    let b = (goal.at.go_on-requires-clause-loops c).After-go_on-arg-in-loop-place-1 in
    let r = c.requires.loops in
    (r.0, r.1, hs b, stock b r.0 r.1 r.2, found b)

pub loop-place-preserved : goal.loop-place-preserved
loop-place-preserved c =
    let b = (goal.at.loop-place-preserved c).After-go_on-arg-in-loop-place-1 in
    let next : suc c.loop-place.place ≡ c.loop-place.place + 1 = omega arith in
    record {
      inputs = c.in_ok-go_on.ensures.inputs ∙ c.loop-place.invariant.inputs;
      loops = λ rows gone from.
          subst (AreLoops c.args.code.now rows gone (hs b) c.go_on.new.stock.loops.items c.go_on.new.states) next
          (c.in_ok-go_on.ensures.loops rows gone (hs b) (stock b rows gone from) (found b));
    }
