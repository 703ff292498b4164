-- An engine of a feed: it may catch up, and what its last loop has made then is what is known of the run.
use Rattle.std.proofs.Common.{◌≡◌, ◌⊎◌, ◌<◌, ◌+◌, ◌-◌, ℕ, ℤ, pos, ◌+ℤ◌, ◌<ℤ◌, ◌≤ℤ◌, Bool, List, [], length, map, drop, get_or, slice_get, Option, Some, None, refl, sym, ap, ◌∙◌, subst, arith}
use Rattle.std.proofs.lemmas.Int.{ints, by_lt_z}
use Rattle.std.proofs.lemmas.Option.{same_Some, slice_get_read, slice_get_within}
use Rattle.circular_buffer.proofs.Places.{slice_get-append_right, slice_get-some}
use Rattle.std.specs.List.{AllByRecursion}
use Rattle.tilt_code.proofs.Runs.{loops-timed}
use Rattle.tilt_code.specs.Code.{CodeParts}
use Rattle.tilt_code.specs.Grammar.{IsLoop}
use Rattle.tilt_code.specs.References.{IsCode}
use Rattle.tilt_code.specs.Run.{run_of}
use Rattle.tilt_engine.proofs.Feeding.{feed-goes_on, horizons-at_rest, lists-at_rest, order-after}
use Rattle.tilt_engine.proofs.Given.{begun-none, late-of, limited-none, limited-some, made-of, starts-low, HasMadeTo}
use Rattle.tilt_engine.proofs.Ringed.{pieces-are, ring-is}
use Rattle.tilt_engine.proofs.WholeFeeds.{whole-after_all, whole-begins, whole-horizons, whole-lefts}
use Rattle.tilt_engine.specs.AtRest.{horizons_of, last_horizon, run_at_rest}
use Rattle.tilt_engine.specs.Engines.{AreInlets, IsCurrent, IsEngineAt, IsNextOf}
use Rattle.tilt_engine.specs.GoingOn.{AllGoOn, GoOn, IsNearCode}
use Rattle.tilt_engine.specs.Gone.{BeginsWith, rests, whole_feed}
use Rattle.tilt_engine.specs.Standing.{AreLoops, InletsGoOn, gone_at, ring_of}
use Rattle.tilt_engine.specs.Stock.{InletParts, MadeParts, inlet_horizon, inlet_list, pieces, reached}
use Rattle.tilt_engine.specs.declared.engine.Engine.{Engine}
use Rattle.tilt_engine.specs.declared.status.Status.TheVariants.{Current}
use Rattle.tilt_feed.proofs.Known.{known-below}
use Rattle.tilt_feed.specs.Events.{after_all}
use Rattle.tilt_feed.specs.Feed.{Feed}
use Rattle.tilt_feed.specs.Horizon.{Horizon, IsKnownAt}
use Rattle.tilt_feed.specs.Laws.{IsInOrder}
use Rattle.tilt_feed.specs.Resting.{all_resting, begun_next, ended_by}
use Rattle.tilt_pipe.proofs.Works.{HasLast, last-loop, work-fills, work-is}
use Rattle.tilt_base.proofs.Lists.{all-slice_get}
use Rattle.tilt_pipe.proofs.Standing.{made-few}
use Rattle.tilt_pipe.specs.Positions.{IsRing, made_by}
use Rattle.tilt_stream.specs.Snap.{Fill, Snapshot}
use Rattle.tilt_turn.specs.declared.state.LoopState.{LoopState}

-- what catching up asks
pub record MayCatchUp (code : CodeParts) (finished : Bool) (inlets : List InletParts) (loops : List MadeParts) (states : List LoopState) : Type 0 where
  pub near : IsNearCode code
  pub rows : List (List Snapshot)
  pub later : List (List Snapshot)
  pub gone : List (List Snapshot)
  pub hs : List Horizon
  pub upto : ℕ
  pub are : AreLoops code rows gone hs loops states upto
  pub go : InletsGoOn code rows later gone hs finished inlets

module _ (engine : Engine) (code : CodeParts) (feed : Feed) (given : ℕ) (of : IsEngineAt engine code feed given) where
  abbrev before : Feed
  before = whole_feed of.gone of.before

  -- the rows of its inputs are what is left of those of the feed at rest, known up to the same horizons
  pub inlet-lefts : map inlet_list engine.stock.inputs.items ≡ rests of.gone (all_resting feed)
  inlet-lefts =
      lists-at_rest of.left engine.stock.inputs.items of.inlets ∙ sym (whole-lefts of.gone of.left)
      ∙ ap (λ (f : Feed). rests of.gone (all_resting f)) (sym of.feed_is)

  pub inlet-horizons : map (inlet_horizon engine.finished) engine.stock.inputs.items ≡ horizons_of feed
  inlet-horizons =
      ap (λ (b : Bool). map (inlet_horizon b) engine.stock.inputs.items) of.finished_is
      ∙ horizons-at_rest of.left engine.stock.inputs.items of.inlets ∙ sym (whole-horizons of.gone of.left) ∙ ap horizons_of (sym of.feed_is)

  -- the feed follows from the earlier one
  feed-follows : feed ≡ after_all of.events before
  feed-follows = of.feed_is ∙ ap (whole_feed of.gone) of.follows ∙ sym (whole-after_all of.gone of.events of.before)

  goes : GoOn (horizons_of before) (all_resting before) (horizons_of feed) (all_resting feed)
  goes = subst (λ (f : Feed). GoOn (horizons_of before) (all_resting before) (horizons_of f) (all_resting f)) (sym feed-follows)
      (feed-goes_on of.events before of.whole_order)

  left-goes : AllGoOn (horizons_of before) (rests of.gone (all_resting before)) (rests of.gone (all_resting feed))
  left-goes =
      let go : AllGoOn (horizons_of of.before) (all_resting of.before) (all_resting of.left) =
      subst (λ (f : Feed). AllGoOn (horizons_of of.before) (all_resting of.before) (all_resting f)) (sym of.follows)
      (feed-goes_on of.events of.before of.order).rows_go_on in
      let now : rests of.gone (all_resting feed) ≡ all_resting of.left =
      ap (λ (f : Feed). rests of.gone (all_resting f)) of.feed_is ∙ whole-lefts of.gone of.left in
      subst (λ (hs : List Horizon). AllGoOn hs (rests of.gone (all_resting before)) (rests of.gone (all_resting feed))) (sym (whole-horizons of.gone of.before))
      (subst (λ (rows : List (List Snapshot)). AllGoOn (horizons_of of.before) rows (rests of.gone (all_resting feed))) (sym (whole-lefts of.gone of.before))
      (subst (λ (rows : List (List Snapshot)). AllGoOn (horizons_of of.before) (all_resting of.before) rows) (sym now) go))

  inlets-go_on : InletsGoOn code (all_resting before) (all_resting feed) of.gone (horizons_of before) engine.finished engine.stock.inputs.items
  inlets-go_on = record {
    whole = subst (λ (hs : List Horizon). GoOn (horizons_of before) (all_resting before) hs (all_resting feed)) (sym inlet-horizons) goes;
    left = inlet-lefts;
    rest = left-goes;
    begin = λ number within.
        subst (λ (f : Feed). BeginsWith (get_or of.gone number []) (get_or (all_resting f) number [])) (sym of.feed_is)
        (whole-begins of.gone of.left number (omega (arith, within, of.many)));
  }

  pub loops-before : AreLoops engine.code (all_resting before) of.gone (horizons_of before) engine.stock.loops.items engine.states.items of.upto
  loops-before =
      subst (λ (x : CodeParts). AreLoops x (all_resting before) of.gone (horizons_of before) engine.stock.loops.items engine.states.items of.upto)
      (sym of.code_is) of.loops

  pub inlets-after : InletsGoOn engine.code (all_resting before) (all_resting feed) of.gone (horizons_of before) engine.finished engine.stock.inputs.items
  inlets-after =
      subst (λ (x : CodeParts). InletsGoOn x (all_resting before) (all_resting feed) of.gone (horizons_of before) engine.finished engine.stock.inputs.items)
      (sym of.code_is) inlets-go_on

  pub may-catch_up : MayCatchUp engine.code engine.finished engine.stock.inputs.items engine.stock.loops.items engine.states.items
  may-catch_up = record {
    near = subst IsNearCode (sym of.code_is) of.near;
    rows = all_resting before;
    later = all_resting feed;
    gone = of.gone;
    hs = horizons_of before;
    upto = of.upto;
    are = loops-before;
    go = inlets-after;
  }

  left-order : AllByRecursion IsInOrder of.left.inputs
  left-order = subst (λ (f : Feed). AllByRecursion IsInOrder f.inputs) (sym of.follows) (order-after of.events of.before of.order)

  pub order : AllByRecursion IsInOrder feed.inputs
  order = subst (λ (f : Feed). AllByRecursion IsInOrder f.inputs) (sym feed-follows) (order-after of.events before of.whole_order)

  -- once its loops have made all that is known
  pub caught-up : (new : Engine) → new.code ≡ engine.code → new.given ≡ engine.given → new.finished ≡ engine.finished
      → new.stock.inputs.items ≡ engine.stock.inputs.items → new.status ≡ Current
      → AreLoops engine.code (all_resting feed) of.gone (map (inlet_horizon engine.finished) engine.stock.inputs.items)
      new.stock.loops.items new.states.items (length engine.code.loops)
      → IsEngineAt new code feed given
  caught-up new code_is given_is finished_is inputs_is status are =
      let here : AreLoops code (all_resting feed) of.gone (horizons_of feed) new.stock.loops.items new.states.items (length code.loops) =
      subst (λ (x : CodeParts). AreLoops x (all_resting feed) of.gone (horizons_of feed) new.stock.loops.items new.states.items (length x.loops)) of.code_is
      (subst (λ (hs : List Horizon). AreLoops engine.code (all_resting feed) of.gone hs new.stock.loops.items new.states.items (length engine.code.loops))
      inlet-horizons are) in
      record {
        code_is = code_is ∙ of.code_is;
        near = of.near;
        gone = of.gone;
        left = of.left;
        feed_is = of.feed_is;
        given_is = ap (λ (n : ℕ). length (gone_at code of.gone (length code.loops - 1)) + n) given_is ∙ of.given_is;
        finished_is = finished_is ∙ of.finished_is;
        inlets = subst (AreInlets of.left.finished of.left.inputs) (sym inputs_is) of.inlets;
        many = of.many;
        before = of.left;
        events = [];
        follows = refl;
        order = left-order;
        whole_order = subst (λ (f : Feed). AllByRecursion IsInOrder f.inputs) of.feed_is order;
        upto = length code.loops;
        loops = subst (λ (f : Feed). AreLoops code (all_resting f) of.gone (horizons_of f) new.stock.loops.items new.states.items (length code.loops)) of.feed_is here;
        current = λ _. (refl, refl);
        sound = λ no. absurd (cc (sym status ∙ no));
      }

-- the run of a code fills a stretch
pub run-fills : (code : CodeParts) (rows : List (List Snapshot)) → IsCode code → (lo : ℤ) × (hi : ℤ) × Fill lo hi (run_of code rows)
run-fills code rows is =
    let last = last-loop code rows is in
    let w = last.work in
    (w.loop.lo, w.loop.hi, subst (Fill w.loop.lo w.loop.hi) last.run (work-fills code rows (length code.loops - 1) w (loops-timed code.loops is.grammatical.loops) last.is).0)

-- what the last loop has made once all that is known is made
module _ (code : CodeParts) (feed : Feed) (gone : List (List Snapshot)) (loops : List MadeParts) (states : List LoopState) (is : IsCode code)
    (are : AreLoops code (all_resting feed) gone (horizons_of feed) loops states (length code.loops)) (m : MadeParts)
    (at : slice_get loops (length code.loops - 1) ≡ Some m) where
  abbrev rows : List (List Snapshot)
  rows = all_resting feed

  abbrev place : ℕ
  place = length code.loops - 1

  below : length code.loops - 1 < length code.loops
  below = let some = is.grammatical.some in omega arith

  -- the snapshot with a number that it has made is of the run; one that it hasn't made starts where nothing is known
  pub next-of : (n : ℕ) (x : Option Snapshot) → x ≡ slice_get (pieces m) n → IsNextOf code feed (length (gone_at code gone (length code.loops - 1)) + n) x
  next-of number x read = by x read
    where
      g : List Snapshot
      g = gone_at code gone (length code.loops - 1)

      n : ℕ
      n = length g + number

      last : HasLast code (all_resting feed)
      last = last-loop code (all_resting feed) is

      ring : IsRing last.work (ring_of g m)
      ring = ring-is code (all_resting feed) gone (horizons_of feed) loops states (length code.loops) is are (length code.loops - 1) last.work m last.is at

      -- counted from the first one that it made
      made-at : slice_get (made_by (reached m) last.work.whole) n ≡ slice_get (pieces m) number
      made-at =
          ap (λ (list : List Snapshot). slice_get list n)
          (sym (pieces-are code (all_resting feed) gone (horizons_of feed) loops states (length code.loops) is are (length code.loops - 1) last.work m last.is at))
          ∙ slice_get-append_right g (pieces m) n number refl

      fills : Fill last.work.loop.lo last.work.loop.hi last.work.whole
      fills = (work-fills code (all_resting feed) (length code.loops - 1) last.work (loops-timed code.loops is.grammatical.loops) last.is).0

      to : (limit : ℤ) → IsKnownAt (last_horizon code feed) limit → HasMadeTo last.work.loop.lo last.work.loop.hi (reached m) limit last.work.whole
      to limit known = record {
        fills = fills;
        made = ring.fill;
        far = subst (λ (t : ℤ). (t ≤ℤ reached m) ⊎ (limit ≤ℤ reached m)) ring.hi (are.done (length code.loops - 1) m below at limit known);
      }

      lo-known : IsKnownAt (last_horizon code feed) m.settled
      lo-known =
          let state = slice_get-some states (length code.loops - 1) (omega (arith, below, are.many_states)) in
          (are.each (length code.loops - 1) last.work m state.0 last.is at state.1).known

      by : (x : Option Snapshot) → x ≡ slice_get (pieces m) number → IsNextOf code feed n x
      by (Some s) read =
          let here : slice_get (made_by (reached m) last.work.whole) n ≡ Some s = made-at ∙ sym read in
          subst (λ (list : List Snapshot). slice_get list n ≡ Some s) last.run
          (made-of last.work.loop.lo last.work.loop.hi (reached m) m.settled last.work.whole (to m.settled lo-known) n s here)
      by None read = λ s there known.
          let none : slice_get (made_by (reached m) last.work.whole) n ≡ None = made-at ∙ sym read in
          let late = late-of last.work.loop.lo last.work.loop.hi (reached m) (s.start +ℤ pos 1) last.work.whole (to (s.start +ℤ pos 1) known) n s none
          (subst (λ (list : List Snapshot). slice_get list n ≡ Some s) (sym last.run) there) in
          omega (arith, ints)

-- what is given of a run up to a limit that is known, and what has begun
module _ (code : CodeParts) (feed : Feed) (is : IsCode code) (limit : ℤ) (known : IsKnownAt (last_horizon code feed) limit) (n : ℕ) where
  abbrev run : List Snapshot
  run = run_of code (all_resting feed)

  fill : (lo : ℤ) × (hi : ℤ) × Fill lo hi run
  fill = run-fills code (all_resting feed) is

  pub given-some : (s : Snapshot) → IsNextOf code feed n (Some s) → s.end ≤ℤ limit → Some s ≡ slice_get (ended_by limit (run_at_rest code feed)) n
  given-some s next low = sym (limited-some fill.0 fill.1 limit run n s fill.2 next low)

  pub given-late : (s : Snapshot) → IsNextOf code feed n (Some s) → limit <ℤ s.end → None ≡ slice_get (ended_by limit (run_at_rest code feed)) n
  given-late s next high =
      sym (limited-none fill.0 fill.1 limit run n fill.2 (λ t at. subst (λ (y : Snapshot). limit <ℤ y.end) (same_Some s t (sym next ∙ at)) high))

  pub given-none : IsNextOf code feed n None → None ≡ slice_get (ended_by limit (run_at_rest code feed)) n
  given-none next =
      sym (limited-none fill.0 fill.1 limit run n fill.2 (λ t at.
      by_lt_z limit t.end (λ high. high) (λ low.
      let rises = (starts-low fill.0 fill.1 run n t fill.2 at).1 in
      absurd (next t at (known-below (last_horizon code feed) limit (t.start +ℤ pos 1) known (omega (arith, ints)))))))

  pub begun-past_limit : IsNextOf code feed n None → begun_next limit (drop n (run_at_rest code feed)) ≡ None
  begun-past_limit next =
      begun-none limit run n (λ t at.
      by_lt_z t.start limit (λ below. absurd (next t at (known-below (last_horizon code feed) limit (t.start +ℤ pos 1) known (omega (arith, ints)))))
      (λ on. on))

-- an engine whose loops have made all that is known
module _ (new : Engine) (code : CodeParts) (feed : Feed) (given : ℕ) (of : IsEngineAt new code feed given) (now : IsCurrent new) (is : IsCode new.code) where
  pub current-loops : AreLoops new.code (all_resting feed) of.gone (horizons_of feed) new.stock.loops.items new.states.items (length new.code.loops)
  current-loops =
      let c = of.current now in
      subst (λ (x : CodeParts). AreLoops x (all_resting feed) of.gone (horizons_of feed) new.stock.loops.items new.states.items (length x.loops)) (sym of.code_is)
      (subst (λ (n : ℕ). AreLoops code (all_resting feed) of.gone (horizons_of feed) new.stock.loops.items new.states.items n) c.1
      (subst (λ (f : Feed). AreLoops code (all_resting f) of.gone (horizons_of f) new.stock.loops.items new.states.items of.upto)
      (ap (whole_feed of.gone) c.0 ∙ sym of.feed_is) of.loops))

  pub last-there : length new.code.loops - 1 < length new.stock.loops.items
  last-there = let some = is.grammatical.some in omega (arith, current-loops.many)

  pub peeked : (m : MadeParts) → m ≡ get_or new.stock.loops.items (length new.code.loops - 1) m → (x : Option Snapshot)
      → x ≡ slice_get (pieces m) new.given → IsNextOf code feed given x
  peeked m at x read =
      let there = slice_get_read new.stock.loops.items (length new.stock.loops.items) (length new.code.loops - 1) m refl last-there at in
      let here = next-of new.code feed of.gone new.stock.loops.items new.states.items is current-loops m there new.given x read in
      let count : length (gone_at new.code of.gone (length new.code.loops - 1)) + new.given ≡ given =
      ap (λ (y : CodeParts). length (gone_at y of.gone (length y.loops - 1)) + new.given) of.code_is ∙ of.given_is in
      subst (λ (y : CodeParts). IsNextOf y feed given x) of.code_is (subst (λ (n : ℕ). IsNextOf new.code feed n x) count here)

-- one more snapshot is given
pub given-more : (engine : Engine) (code : CodeParts) (feed : Feed) (given : ℕ) → IsEngineAt engine code feed given
    → IsEngineAt (record engine { given = engine.given + 1 }) code feed (given + 1)
given-more engine code feed given of = record {
  code_is = of.code_is;
  near = of.near;
  gone = of.gone;
  left = of.left;
  feed_is = of.feed_is;
  given_is = omega (arith, of.given_is);
  finished_is = of.finished_is;
  inlets = of.inlets;
  many = of.many;
  before = of.before;
  events = of.events;
  follows = of.follows;
  order = of.order;
  whole_order = of.whole_order;
  upto = of.upto;
  loops = of.loops;
  current = of.current;
  sound = of.sound;
}

-- a run has fewer snapshots than can be counted
pub given-few : (code : CodeParts) (feed : Feed) (n : ℕ) (s : Snapshot) → IsCode code → slice_get (run_at_rest code feed) n ≡ Some s
    → n < 9223372036854775807
given-few code feed n s is at =
    let last = last-loop code (all_resting feed) is in
    let w = last.work in
    let fills = subst (Fill w.loop.lo w.loop.hi) last.run (work-fills code (all_resting feed) (length code.loops - 1) w (loops-timed code.loops is.grammatical.loops) last.is).0 in
    let stretch = (all-slice_get IsLoop code.loops (length code.loops - 1) w.loop is.grammatical.loops
    (work-is code (all_resting feed) (length code.loops - 1) w last.is).loop).stretch in
    let few = made-few w.loop.lo w.loop.hi (run_at_rest code feed) stretch.low stretch.high fills in
    let within = slice_get_within (run_at_rest code feed) n s at in
    omega (arith, few, within)
