-- An engine of some feed may catch up, and is then one of the same feed.
use Rattle.std.proofs.Common.{◌≡◌, inl, inr, ◌∙◌, List, length, map, sym, subst, refl}
use Rattle.std.proofs.lemmas.List.{with_items_is}
use Rattle.tilt_engine.proofs.Engined.{MayCatchUp, caught-up, inlets-after, loops-before, may-catch_up}
use Rattle.tilt_engine.specs.AtRest.{horizons_of}
use Rattle.tilt_engine.specs.Engines.{IsEngine}
use Rattle.tilt_engine.specs.Gone.{whole_feed}
use Rattle.tilt_feed.specs.Resting.{all_resting}
use Rattle.tilt_engine.specs.Standing.{AreLoops}
use Rattle.tilt_engine.specs.Stock.{inlet_horizon}
use Rattle.tilt_engine.specs.declared.engine.Engine.{Engine}
use Rattle.tilt_engine.specs.declared.status.Status.TheVariants.{Behind}
use Rattle.tilt_turn.specs.declared.state.LoopState.{LoopState}
use Rattle.tilt_engine.proofs.engine.Engine.catch_up.Goals as goal

-- it isn't one that was refused memory
may-by : (engine : Engine) → IsEngine engine → engine.status ≡ Behind
    → MayCatchUp engine.code engine.finished engine.stock.inputs.items engine.stock.loops.items engine.states.items
may-by engine (inl refused) behind = absurd (cc (sym refused ∙ behind))
may-by engine (inr of) behind = may-catch_up engine of.0 of.1 of.2 of.3.at

pub catch_up-requires : goal.catch_up-requires
catch_up-requires c =
    let may = may-by c.args.self.now c.requires.engine c.requires.behind in
    record { near = may.near; loops = rw c.deref_mut.ensures.value (may.rows, may.later, may.gone, may.hs, may.upto, may.are, may.go) }

pub returns-clause-engine : goal.returns-clause-engine
returns-clause-engine c = λ code feed given of.
    let old = c.args.self.now in
    let count = c.catch_up.auto.states ∙ c.deref_mut.ensures.len in
    let items = with_items_is old.states c.catch_up.new.states count in
    let hs = map (inlet_horizon old.finished) old.stock.inputs.items in
    let before = whole_feed of.gone of.before in
    let made = c.in_ok-catch_up.ensures.loops (all_resting before) (all_resting feed) of.gone (horizons_of before) of.upto
    (rw c.deref_mut.ensures.value (loops-before old code feed given of)) (inlets-after old code feed given of) in
    let are = subst (λ (states : List LoopState). AreLoops old.code (all_resting feed) of.gone hs c.catch_up.new.stock.loops.items states
    (length old.code.loops)) (sym items) made in
    caught-up old code feed given of _ refl refl refl c.catch_up.ensures.inputs refl are
