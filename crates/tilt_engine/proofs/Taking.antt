-- What an event makes of an engine.
use Rattle.std.proofs.Common.{◌≡◌, ◌≤◌, ℕ, zero, suc, ℤ, ◌+◌, ◌-◌, Bool, true, false, if◌then◌else◌, List, [], ◌∷◌, ◌++◌, length, map, Option, Some, None, Result, Ok, Err, refl, sym, ap, ◌∙◌, subst, arith, length-append}
use Rattle.std.specs.Result.{OnErr, OnOk, is_err}
use Rattle.tilt_code.specs.Code.{CodeParts}
use Rattle.tilt_engine.proofs.Feeding.{after-inlets, fault-is}
use Rattle.tilt_engine.proofs.WholeFeeds.{whole-after, whole-fault}
use Rattle.tilt_engine.specs.AtRest.{horizons_of}
use Rattle.tilt_engine.specs.Engines.{AreInlets, IsEngineAt, IsEngineOf, finishes, held_by}
use Rattle.tilt_engine.specs.Forgetting.{kept_lists}
use Rattle.tilt_engine.specs.Inlets.{inlet_fault, inlets_after, updated_inlets}
use Rattle.tilt_engine.specs.Gone.{whole_feed}
use Rattle.tilt_engine.specs.Rooms.{IsRoomOf}
use Rattle.tilt_engine.specs.Standing.{AreLoops, gone_at}
use Rattle.tilt_engine.specs.Stock.{InletParts, MadeParts, finished_inlet}
use Rattle.tilt_engine.specs.declared.engine.Engine.{Engine}
use Rattle.tilt_engine.specs.declared.status.Status.TheVariants.{Behind}
use Rattle.tilt_feed.proofs.Following.{after_all-length}
use Rattle.tilt_feed.specs.Events.{after, after_all, changed_by, closed_by, continues, event_fault}
use Rattle.tilt_feed.specs.Feed.{Feed, closed_at}
use Rattle.tilt_feed.specs.Horizon.{Horizon}
use Rattle.tilt_feed.specs.Resting.{all_resting}
use Rattle.tilt_feed.specs.declared.edge.Edge.{Edge}
use Rattle.tilt_feed.specs.declared.event.Event.{Event}
use Rattle.tilt_feed.specs.declared.event.Event.TheVariants.{Input, Finish}
use Rattle.tilt_feed.specs.declared.open_row.OpenRow.{OpenRow}
use Rattle.tilt_feed.specs.declared.update.Update.{Update}
use Rattle.tilt_feed.specs.declared.update.Update.TheVariants.{Row, Value, NoValue, KnownUpTo}
use Rattle.tilt_pipe.specs.Rings.{held}
use Rattle.tilt_stream.specs.Snap.{Snapshot}
use Rattle.tilt_turn.specs.declared.state.LoopState.{LoopState}

-- the first rule that an event breaks
pub engine-fault : (e : Engine) (code : CodeParts) (feed : Feed) (given : ℕ) (event : Event) → IsEngineAt e code feed given
    → inlet_fault e.finished e.stock.inputs.items event ≡ event_fault feed event
engine-fault e code feed given event is =
    ap (λ (b : Bool). inlet_fault b e.stock.inputs.items event) is.finished_is ∙ fault-is is.left e.stock.inputs.items event is.inlets
    ∙ sym (whole-fault is.gone is.left event) ∙ ap (λ (f : Feed). event_fault f event) (sym is.feed_is)

-- what holds of a call that didn't fail
pub at-ok : {E P : Type 0} (r : Result (Unit {0}) E) → false ≡ is_err r → OnOk r P → P
at-ok (Ok done) is holds = holds
at-ok (Err e) is holds = absurd (cc is)

-- and of one that did
pub at-err : {E P : Type 0} (r : Result (Unit {0}) E) → true ≡ is_err r → OnErr r P → P
at-err (Ok done) is holds = absurd (cc is)
at-err (Err e) is holds = holds

-- a feed after one more event
pub after_all-push : (events : List Event) (event : Event) (feed : Feed) → after_all (events ++ event ∷ []) feed ≡ after event (after_all events feed)
after_all-push [] event feed = refl
after_all-push (e ∷ events) event feed = after_all-push events event (after e feed)

changed-finishes : (event : Event) (feed : Feed) → (changed_by event feed.inputs).finished ≡ finishes event
changed-finishes (Input number update) feed = refl
changed-finishes Finish feed = refl

after-finishes : (event : Event) (feed : Feed) → event_fault feed event ≡ None → (after event feed).finished ≡ finishes event
after-finishes event feed is =
    let changed : after event feed ≡ changed_by event feed.inputs = rw is refl in
    ap (λ (f : Feed). f.finished) changed ∙ changed-finishes event feed

-- an engine with the same code and loops, which has given as many snapshots
pub record IsBeside (a b : Engine) : Type 0 where
  pub code : b.code ≡ a.code
  pub given : b.given ≡ a.given
  pub loops : b.stock.loops.items ≡ a.stock.loops.items
  pub states : b.states.items ≡ a.states.items

loops-beside : (a b : Engine) (code : CodeParts) (rows gone : List (List Snapshot)) (hs : List Horizon) (upto : ℕ) → IsBeside a b
    → AreLoops code rows gone hs a.stock.loops.items a.states.items upto → AreLoops code rows gone hs b.stock.loops.items b.states.items upto
loops-beside a b code rows gone hs upto beside are =
    subst (λ (made : List MadeParts). AreLoops code rows gone hs made b.states.items upto) (sym beside.loops)
    (subst (λ (states : List LoopState). AreLoops code rows gone hs a.stock.loops.items states upto) (sym beside.states) are)

-- after an event that is allowed
pub engine-taken : (a b : Engine) (code : CodeParts) (feed : Feed) (given : ℕ) (event : Event) → IsBeside a b → b.finished ≡ finishes event
    → b.stock.inputs.items ≡ inlets_after event a.stock.inputs.items → b.status ≡ Behind → event_fault feed event ≡ None
    → IsEngineAt a code feed given → IsEngineAt b code (after event feed) given
engine-taken a b code feed given event beside finished inputs status allowed is =
    let later = after event is.left in
    let own : event_fault is.left event ≡ None =
    sym (whole-fault is.gone is.left event) ∙ ap (λ (f : Feed). event_fault f event) (sym is.feed_is) ∙ allowed in
    record {
      code_is = beside.code ∙ is.code_is;
      near = is.near;
      gone = is.gone;
      left = later;
      feed_is = ap (after event) is.feed_is ∙ whole-after is.gone event is.left;
      given_is = ap (λ (n : ℕ). length (gone_at code is.gone (length code.loops - 1)) + n) beside.given ∙ is.given_is;
      finished_is = finished ∙ sym (after-finishes event is.left own);
      inlets = subst (AreInlets later.finished later.inputs) (sym inputs) (after-inlets is.left a.stock.inputs.items event is.inlets own);
      many = after_all-length (event ∷ []) is.left ∙ is.many;
      before = is.before;
      events = is.events ++ event ∷ [];
      follows = ap (after event) is.follows ∙ sym (after_all-push is.events event is.before);
      order = is.order;
      whole_order = is.whole_order;
      upto = is.upto;
      loops = loops-beside a b code (all_resting (whole_feed is.gone is.before)) is.gone (horizons_of (whole_feed is.gone is.before)) is.upto beside is.loops;
      current = λ now. absurd (cc (now, status));
      sound = λ now. absurd (cc (now, status));
    }

-- an engine that differs in nothing that counts
pub engine-same : (a b : Engine) (code : CodeParts) (feed : Feed) (given : ℕ) → IsBeside a b → b.finished ≡ a.finished
    → b.stock.inputs.items ≡ a.stock.inputs.items → b.status ≡ a.status → IsEngineAt a code feed given → IsEngineAt b code feed given
engine-same a b code feed given beside finished inputs status is = record {
  code_is = beside.code ∙ is.code_is;
  near = is.near;
  gone = is.gone;
  left = is.left;
  feed_is = is.feed_is;
  given_is = ap (λ (n : ℕ). length (gone_at code is.gone (length code.loops - 1)) + n) beside.given ∙ is.given_is;
  finished_is = finished ∙ is.finished_is;
  inlets = subst (AreInlets is.left.finished is.left.inputs) (sym inputs) is.inlets;
  many = is.many;
  before = is.before;
  events = is.events;
  follows = is.follows;
  order = is.order;
  whole_order = is.whole_order;
  upto = is.upto;
  loops = loops-beside a b code (all_resting (whole_feed is.gone is.before)) is.gone (horizons_of (whole_feed is.gone is.before)) is.upto beside is.loops;
  current = λ now. is.current (sym status ∙ now);
  sound = λ no. is.sound (sym status ∙ no);
}

pub engine-same-of : (a b : Engine) (code : CodeParts) (feed : Feed) (given : ℕ) → IsBeside a b → b.finished ≡ a.finished
    → b.stock.inputs.items ≡ a.stock.inputs.items → b.status ≡ a.status → b.limit ≡ a.limit → IsEngineOf a code feed given → IsEngineOf b code feed given
engine-same-of a b code feed given beside finished inputs status limit is = record {
  at = engine-same a b code feed given beside finished inputs status is.at;
  few = λ now.
      let kept : held_by b ≡ held_by a = (λ i. held (kept_lists (inputs i) (beside.loops i))) in
      let few = is.few (sym status ∙ now) in
      omega (arith, kept, limit, few);
  room = subst (IsRoomOf code feed given) (sym limit) is.room;
}

-- how many closed rows are kept after an event
few-closed : (edge : Edge) (update : Update) → length (closed_by edge update) ≤ 2
few-closed edge (Row start end value) = by (continues edge.open_row start value)
  where
    one : (tick : ℤ) (open_row : Option OpenRow) → length (closed_at tick open_row) ≤ 1
    one tick None = omega arith
    one tick (Some row) = omega arith

    by : (b : Bool) → length (if b then closed_at end edge.open_row else closed_at start edge.open_row ++ record { start = start; end = end; value = value } ∷ []) ≤ 2
    by true = let few = one end edge.open_row in omega arith
    by false =
        let few = one start edge.open_row in
        let all = length-append (closed_at start edge.open_row) (record { start = start; end = end; value = value } ∷ []) in
        omega (arith, all)
few-closed edge (Value start value) = few-one start edge.open_row
  where
    few-one : (tick : ℤ) (open_row : Option OpenRow) → length (closed_at tick open_row) ≤ 2
    few-one tick None = omega arith
    few-one tick (Some row) = omega arith
few-closed edge (NoValue start) = few-one start edge.open_row
  where
    few-one : (tick : ℤ) (open_row : Option OpenRow) → length (closed_at tick open_row) ≤ 2
    few-one tick None = omega arith
    few-one tick (Some row) = omega arith
few-closed edge (KnownUpTo watermark) = omega arith

few-updated : (number : ℕ) (update : Update) (inlets : List InletParts) (loops : List MadeParts)
    → held (kept_lists (updated_inlets number update inlets) loops) ≤ held (kept_lists inlets loops) + 2
few-updated number update [] loops = omega arith
few-updated zero update (i ∷ inlets) loops =
    let few = few-closed i.input.edge update in
    let all = length-append i.input.rows (closed_by i.input.edge update) in
    omega (arith, all)
few-updated (suc number) update (i ∷ inlets) loops = let rest = few-updated number update inlets loops in omega arith

same-finished : (inlets : List InletParts) (loops : List MadeParts) → held (kept_lists (map (λ (i : InletParts). finished_inlet i.input) inlets) loops) ≡ held (kept_lists inlets loops)
same-finished [] loops = refl
same-finished (i ∷ inlets) loops = ap (λ (n : ℕ). length i.input.rows + n) (same-finished inlets loops)

pub few-more : (event : Event) (inlets : List InletParts) (loops : List MadeParts)
    → held (kept_lists (inlets_after event inlets) loops) ≤ held (kept_lists inlets loops) + 2
few-more (Input number update) inlets loops = few-updated number update inlets loops
few-more Finish inlets loops = omega (arith, same-finished inlets loops)
