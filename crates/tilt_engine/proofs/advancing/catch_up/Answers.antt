-- Over the later rows the loops stand where they are settled.
use Rattle.std.proofs.Common.{◌≡◌, ◌∙◌, ℕ, List, length, map, sym, subst, ap}
use Rattle.std.proofs.lemmas.List.{length-map, with_items_is}
use Rattle.tilt_engine.proofs.Readied.{rise-above}
use Rattle.tilt_engine.proofs.Restarting.{IsLater, restarted-loops}
use Rattle.tilt_engine.specs.Standing.{AreLoops, InletsGoOn, IsStockOf}
use Rattle.tilt_engine.specs.Stock.{MadeParts, inlet_horizon, restarted}
use Rattle.std.specs.Vec.{with_items}
use Rattle.tilt_feed.specs.Horizon.{Horizon}
use Rattle.tilt_stream.specs.Snap.{Snapshot}
use Rattle.tilt_engine.proofs.advancing.catch_up.Goals as goal
use Rattle.tilt_engine.proofs.advancing.catch_up.Goals.{After-find_horizons}

-- what is so before the turns are made, by any rows
module _ (c : After-find_horizons) (rows later gone : List (List Snapshot)) (hs : List Horizon) (upto : ℕ)
    (are : AreLoops c.args.code.now rows gone hs c.args.stock.now.loops.items c.args.states.now upto)
    (go : InletsGoOn c.args.code.now rows later gone hs c.args.finished c.args.stock.now.inputs.items) where
  abbrev old : List MadeParts
  old = c.args.stock.now.loops.items

  made : c.restart_all.new.loops ≡ map restarted old
  made = c.restart_all.ensures ∙ ap (map restarted) c.deref_mut.ensures.value

  items : (with_items c.args.stock.now.loops c.restart_all.new.loops).items ≡ c.restart_all.new.loops
  items = with_items_is c.args.stock.now.loops c.restart_all.new.loops
      (ap length made ∙ length-map old restarted ∙ sym (ap length c.deref_mut.ensures.value) ∙ c.deref_mut.ensures.len)

  stock : IsStockOf c.args.code.now later gone (map (inlet_horizon c.args.finished) c.args.stock.now.inputs.items) c.args.stock.now.inputs.items
      (with_items c.args.stock.now.loops c.restart_all.new.loops).items c.look_again_all.new.states 0
  stock =
      let it : IsLater c.args.code.now rows later gone hs (map (inlet_horizon c.args.finished) c.args.stock.now.inputs.items) = record {
        is = c.loops.ensures.code;
        near = c.requires.near;
        inputs = are.inputs;
        same = go.whole.many;
        horizons = are.horizons;
        all = go.whole.rows_go_on;
        rest = go.rest;
        rises = rise-above hs (map (inlet_horizon c.args.finished) c.args.stock.now.inputs.items) go.whole.horizons_rise;
      } in
      let standing = restarted-loops c.args.code.now rows later gone hs (map (inlet_horizon c.args.finished) c.args.stock.now.inputs.items) old
      c.args.states.now c.look_again_all.new.states upto it are go.begin go.whole.many_horizons c.look_again_all.ensures.many c.look_again_all.ensures.each in
      record {
        left = go.left;
        are = subst (λ (loops : List MadeParts). AreLoops c.args.code.now later gone (map (inlet_horizon c.args.finished) c.args.stock.now.inputs.items)
            loops c.look_again_all.new.states 0) (sym (items ∙ made)) standing;
      }

pub go_on_all-requires-clause-loops : goal.go_on_all-requires-clause-loops
go_on_all-requires-clause-loops c =
    let r = c.requires.loops in
    let b = (goal.at.go_on_all-requires-clause-loops c).After-find_horizons in
    (r.1, r.2, stock b r.0 r.1 r.2 r.3 r.4 r.5 r.6)

pub returns-clause-loops : goal.returns-clause-loops
returns-clause-loops c = λ rows later gone hs upto are go.
    let b = (goal.at.returns-clause-loops c).After-find_horizons in
    c.go_on_all.ensures.loops later gone (stock b rows later gone hs upto are go)
