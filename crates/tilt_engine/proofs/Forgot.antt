-- An engine that has let the first snapshots of its buffers go is of the same feed.
use Rattle.std.proofs.Common.{◌≡◌, ◌<◌, ◌≤◌, ◌+◌, ◌-◌, ℕ, zero, suc, ℤ, Bool, true, false, List, [], ◌∷◌, ◌++◌, length, map, take, drop, get_or, refl, sym, ap, ◌∙◌, subst, arith}
use Rattle.std.proofs.Common.{append-nil, ◌*◌, min, max}
use Rattle.std.proofs.Math.Nat.{le-max_left, le-max_right, le-min, max-le, min-le_left}
use Rattle.std.proofs.lemmas.List.{append_assoc, length-append, length-map, length-take-le, map-id, take-append-drop}
use Rattle.std.specs.List.{AllByRecursion}
use Rattle.tilt_code.specs.Code.{CodeParts}
use Rattle.tilt_code.specs.References.{IsCode}
use Rattle.tilt_engine.proofs.Dropping.{added-at, heads-at}
use Rattle.tilt_engine.proofs.Engined.{current-loops, inlet-lefts, order}
use Rattle.tilt_engine.proofs.Needs.{AreRows, forgotten-fits}
use Rattle.tilt_engine.proofs.Shorter.{each-long}
use Rattle.tilt_engine.proofs.Sums.{Fits}
use Rattle.tilt_engine.proofs.WholeFeeds.{whole-length}
use Rattle.tilt_engine.specs.AtRest.{horizons_of}
use Rattle.tilt_engine.specs.Engines.{AreInlets, IsCurrent, IsEngineAt}
use Rattle.tilt_engine.specs.Forgetting.{HasForgotten, added, each_later, heads, kept_lists, later_inlet}
use Rattle.tilt_engine.specs.Gone.{whole_feed, with_gone}
use Rattle.tilt_engine.specs.Needed.{needed}
use Rattle.tilt_engine.specs.Standing.{AreLoops, IsStockOf, gone_at}
use Rattle.tilt_engine.specs.Stock.{InletParts, MadeParts, finished_inlet, resting_inlet}
use Rattle.tilt_engine.specs.declared.engine.Engine.{Engine}
use Rattle.tilt_engine.specs.declared.status.Status.TheVariants.{Current}
use Rattle.tilt_feed.specs.Events.{finished_input}
use Rattle.tilt_feed.specs.Feed.{Feed, InputFeed, closed_at, rows_now}
use Rattle.tilt_feed.specs.Laws.{IsInOrder}
use Rattle.tilt_feed.specs.Resting.{all_resting}
use Rattle.tilt_pipe.specs.Rings.{held}
use Rattle.tilt_stream.proofs.Order.{InOrder-rest}
use Rattle.tilt_stream.specs.Snap.{InOrder, Snapshot}
use Rattle.tilt_turn.specs.declared.state.LoopState.{LoopState}

-- an input of a feed without its first closed rows
abbrev later_feed : ℕ → InputFeed → InputFeed
later_feed n a = record { rows = drop n a.rows; edge = a.edge }

-- nothing comes before the inputs of a feed that has none
nothing-before : (gone : List (List Snapshot)) → with_gone gone [] ≡ []
nothing-before [] = refl
nothing-before (g ∷ gone) = refl

added-none : (gone : List (List Snapshot)) → added gone [] ≡ gone
added-none [] = refl
added-none (g ∷ gone) = refl

each-none : (counts : List ℕ) → each_later later_feed counts [] ≡ []
each-none [] = refl
each-none (n ∷ counts) = refl

-- inputs are the same ones if rows go from them to what has gone before; what is made of each input keeps the rows after those
module _ (f : InputFeed → InputFeed) (edges : (n : ℕ) (a : InputFeed) → (f (later_feed n a)).edge ≡ (f a).edge)
    (rows : (n : ℕ) (a : InputFeed) → take n a.rows ++ (f (later_feed n a)).rows ≡ (f a).rows) (more : List (List Snapshot)) where
  one-same : (g : List Snapshot) (n : ℕ) (a : InputFeed)
      → ◌≡◌ {A = InputFeed} (record { rows = g ++ (f a).rows; edge = (f a).edge })
      (record { rows = (g ++ take n a.rows) ++ (f (later_feed n a)).rows; edge = (f (later_feed n a)).edge })
  one-same g n a =
      let all : g ++ (f a).rows ≡ (g ++ take n a.rows) ++ (f (later_feed n a)).rows =
      ap (λ (list : List Snapshot). g ++ list) (sym (rows n a)) ∙ sym (append_assoc g (take n a.rows) (f (later_feed n a)).rows) in
      let edge : (f a).edge ≡ (f (later_feed n a)).edge = sym (edges n a) in
      λ i. record { rows = all i; edge = edge i }

  first-same : (n : ℕ) (a : InputFeed) → ◌≡◌ {A = InputFeed} (f a) (record { rows = take n a.rows ++ (f (later_feed n a)).rows; edge = (f (later_feed n a)).edge })
  first-same n a =
      let all : (f a).rows ≡ take n a.rows ++ (f (later_feed n a)).rows = sym (rows n a) in
      let edge : (f a).edge ≡ (f (later_feed n a)).edge = sym (edges n a) in
      λ i. record { rows = all i; edge = edge i }

  inputs-same : (gone : List (List Snapshot)) (counts : List ℕ) (inputs : List InputFeed)
      → with_gone gone (map f inputs)
      ≡ with_gone (added gone (heads counts (map (λ (a : InputFeed). a.rows) inputs ++ more))) (map f (each_later later_feed counts inputs))
  inputs-same gone counts [] =
      let list = added gone (heads counts more) in
      nothing-before gone ∙ sym (ap (λ (inputs : List InputFeed). with_gone list (map f inputs)) (each-none counts) ∙ nothing-before list)
  inputs-same gone [] (a ∷ inputs) = ap (λ (x : List (List Snapshot)). with_gone x (map f (a ∷ inputs))) (sym (added-none gone))
  inputs-same [] (n ∷ counts) (a ∷ inputs) =
      ap (λ (x : InputFeed). x ∷ map f inputs) (first-same n a)
      ∙ ap (λ (rest : List InputFeed). record { rows = take n a.rows ++ (f (later_feed n a)).rows; edge = (f (later_feed n a)).edge } ∷ rest)
      (inputs-same [] counts inputs)
  inputs-same (g ∷ gone) (n ∷ counts) (a ∷ inputs) =
      ap (λ (x : InputFeed). x ∷ with_gone gone (map f inputs)) (one-same g n a)
      ∙ ap (λ (rest : List InputFeed). record { rows = (g ++ take n a.rows) ++ (f (later_feed n a)).rows; edge = (f (later_feed n a)).edge } ∷ rest)
      (inputs-same gone counts inputs)

-- so are those of an engine
resting-rows : (inputs : List InputFeed) → map (λ (i : InletParts). i.input.rows) (map resting_inlet inputs) ≡ map (λ (a : InputFeed). a.rows) inputs
resting-rows [] = refl
resting-rows (a ∷ inputs) = ap (λ (lists : List (List Snapshot)). a.rows ∷ lists) (resting-rows inputs)

finished-rows : (inputs : List InputFeed) → map (λ (i : InletParts). i.input.rows) (map finished_inlet inputs) ≡ map (λ (a : InputFeed). a.rows) inputs
finished-rows [] = refl
finished-rows (a ∷ inputs) = ap (λ (lists : List (List Snapshot)). a.rows ∷ lists) (finished-rows inputs)

resting-later : (counts : List ℕ) (inputs : List InputFeed)
    → each_later later_inlet counts (map resting_inlet inputs) ≡ map resting_inlet (each_later later_feed counts inputs)
resting-later [] inputs = refl
resting-later (n ∷ counts) [] = refl
resting-later (n ∷ counts) (a ∷ inputs) = ap (λ (list : List InletParts). resting_inlet (later_feed n a) ∷ list) (resting-later counts inputs)

finished-later : (counts : List ℕ) (inputs : List InputFeed)
    → each_later later_inlet counts (map finished_inlet inputs) ≡ map finished_inlet (each_later later_feed counts inputs)
finished-later [] inputs = refl
finished-later (n ∷ counts) [] = refl
finished-later (n ∷ counts) (a ∷ inputs) = ap (λ (list : List InletParts). finished_inlet (later_feed n a) ∷ list) (finished-later counts inputs)

-- what is left of the inputs of an engine then
record AreLeft (finished : Bool) (gone : List (List Snapshot)) (counts : List ℕ) (inputs : List InputFeed) (inlets : List InletParts)
    (loops : List MadeParts) : Type 0 where
  inputs_then : List InputFeed
  inlets_then : AreInlets finished inputs_then (each_later later_inlet counts inlets)
  many : length inputs_then ≡ length inputs
  same : with_gone gone inputs ≡ with_gone (added gone (heads counts (kept_lists inlets loops))) inputs_then

left-by : (finished : Bool) (gone : List (List Snapshot)) (counts : List ℕ) (inputs : List InputFeed) (inlets : List InletParts) (loops : List MadeParts)
    → AreInlets finished inputs inlets → AreLeft finished gone counts inputs inlets loops
left-by false gone counts inputs inlets loops are =
    let made = map (λ (m : MadeParts). m.made) loops in
    let later = each_later later_feed counts inputs in
    let kept : kept_lists inlets loops ≡ map (λ (a : InputFeed). a.rows) inputs ++ made =
    ap (λ (list : List InletParts). kept_lists list loops) are ∙ ap (λ (lists : List (List Snapshot)). lists ++ made) (resting-rows inputs) in
    record {
      inputs_then = later;
      inlets_then = ap (each_later later_inlet counts) are ∙ resting-later counts inputs;
      many = each-long later_feed counts inputs;
      same = ap (with_gone gone) (sym (map-id inputs))
          ∙ inputs-same (λ (a : InputFeed). a) (λ n a. refl) (λ n a. take-append-drop n a.rows) made gone counts inputs
          ∙ ap (with_gone (added gone (heads counts (map (λ (a : InputFeed). a.rows) inputs ++ made)))) (map-id later)
          ∙ ap (λ (lists : List (List Snapshot)). with_gone (added gone (heads counts lists)) later) (sym kept);
    }
left-by true gone counts inputs inlets loops are =
    let made = map (λ (m : MadeParts). m.made) loops in
    let before = are.0 in
    let later = each_later later_feed counts before in
    let kept : kept_lists inlets loops ≡ map (λ (a : InputFeed). a.rows) before ++ made =
    ap (λ (list : List InletParts). kept_lists list loops) are.2 ∙ ap (λ (lists : List (List Snapshot)). lists ++ made) (finished-rows before) in
    record {
      inputs_then = map finished_input later;
      inlets_then = (later, refl, ap (each_later later_inlet counts) are.2 ∙ finished-later counts before);
      many = length-map later finished_input ∙ each-long later_feed counts before ∙ sym (ap length are.1 ∙ length-map before finished_input);
      same = ap (with_gone gone) are.1
          ∙ inputs-same finished_input (λ n a. refl) (λ n a.
          let open_row = closed_at a.edge.watermark a.edge.open_row in
          sym (append_assoc (take n a.rows) (drop n a.rows) open_row) ∙ ap (λ (list : List Snapshot). list ++ open_row) (take-append-drop n a.rows))
          made gone counts before
          ∙ ap (λ (lists : List (List Snapshot)). with_gone (added gone (heads counts lists)) (map finished_input later)) (sym kept);
    }

-- if inputs are in order with what has gone before their rows, they are without it
front-order : (low high : ℤ) (g rest : List Snapshot) → InOrder low high (g ++ rest) → InOrder low high rest
front-order low high [] rest ordered = ordered
front-order low high (s ∷ g) rest ordered = front-order low high g rest (InOrder-rest low high s (g ++ rest) ordered)

left-order : (gone : List (List Snapshot)) (inputs : List InputFeed) → AllByRecursion IsInOrder (with_gone gone inputs) → AllByRecursion IsInOrder inputs
left-order [] inputs ordered = ordered
left-order (g ∷ gone) [] ordered = tt
left-order (g ∷ gone) (a ∷ inputs) ordered = (
  record {
    rows = front-order _ _ g (rows_now a)
        (subst (InOrder _ _) (append_assoc g a.rows (closed_at a.edge.watermark a.edge.open_row)) ordered.0.rows);
    low = ordered.0.low;
    high = ordered.0.high;
  },
  left-order gone inputs ordered.1,
)

-- what an engine keeps whose loops have made all that is known
pub stock-of : (e : Engine) (code : CodeParts) (feed : Feed) (given : ℕ) (of : IsEngineAt e code feed given) → IsCurrent e → IsCode e.code
    → IsStockOf e.code (all_resting feed) of.gone (horizons_of feed) e.stock.inputs.items e.stock.loops.items e.states.items (length e.code.loops)
stock-of e code feed given of now valid = record {
  left = inlet-lefts e code feed given of;
  are = current-loops e code feed given of now valid;
}

inlets-long : (finished : Bool) (inputs : List InputFeed) (inlets : List InletParts) → AreInlets finished inputs inlets → length inlets ≡ length inputs
inlets-long false inputs inlets are = ap length are ∙ length-map inputs resting_inlet
inlets-long true inputs inlets are =
    ap length are.2 ∙ length-map are.0 finished_inlet ∙ sym (ap length are.1 ∙ length-map are.0 finished_input)

pub inputs-count : (e : Engine) (code : CodeParts) (feed : Feed) (given : ℕ) → IsEngineAt e code feed given
    → length e.stock.inputs.items ≡ length e.code.inputs
inputs-count e code feed given of =
    inlets-long of.left.finished of.left.inputs e.stock.inputs.items of.inlets ∙ of.many ∙ ap (λ (x : CodeParts). length x.inputs) (sym of.code_is)

-- the engine then
pub engine-forgot : (old new : Engine) (code : CodeParts) (feed : Feed) (given : ℕ) (counts : List ℕ) (last : ℕ) → IsEngineAt old code feed given
    → IsCurrent old → IsCode old.code → HasForgotten old.code old.stock.inputs.items new.stock.inputs.items old.stock.loops.items new.stock.loops.items
    new.states.items counts old.given last → last ≤ old.given → new.code ≡ old.code → new.given ≡ old.given - last → new.finished ≡ old.finished
    → new.status ≡ Current → IsEngineAt new code feed given
engine-forgot old new code feed given counts last of now valid has few code_is given_is finished status =
    let inlets = old.stock.inputs.items in
    let made = old.stock.loops.items in
    let kept = kept_lists inlets made in
    let then = added of.gone (heads counts kept) in
    let left = left-by of.left.finished of.gone counts of.left.inputs inlets made of.inlets in
    let lefts : Feed = record { inputs = left.inputs_then; finished = of.left.finished } in
    let same : feed ≡ whole_feed then lefts =
    of.feed_is ∙ ap (λ (inputs : List InputFeed). record { inputs = inputs; finished = of.left.finished }) left.same in
    let stock = stock-of old code feed given of now valid in
    let loops = has.loops (all_resting feed) of.gone (horizons_of feed) old.states.items stock in
    let here : AreLoops code (all_resting feed) then (horizons_of feed) new.stock.loops.items new.states.items (length code.loops) =
    subst (λ (x : CodeParts). AreLoops x (all_resting feed) then (horizons_of feed) new.stock.loops.items new.states.items (length x.loops)) of.code_is loops in
    let place = length code.inputs + (length code.loops - 1) in
    let count : get_or counts place 0 ≡ last = subst (λ (x : CodeParts). get_or counts (length x.inputs + (length x.loops - 1)) 0 ≡ last) of.code_is has.last_is in
    let within : last ≤ length (get_or kept place []) =
    subst (λ (x : CodeParts). last ≤ length (get_or kept (length x.inputs + (length x.loops - 1)) [])) of.code_is has.within in
    let front : length (get_or then place []) ≡ length (get_or of.gone place []) + last =
    ap length (added-at of.gone (heads counts kept) place ∙ ap (λ (list : List Snapshot). get_or of.gone place [] ++ list) (heads-at counts kept place))
    ∙ length-append (get_or of.gone place []) (take (get_or counts place 0) (get_or kept place []))
    ∙ ap (λ (n : ℕ). length (get_or of.gone place []) + length (take n (get_or kept place []))) count
    ∙ ap (λ (n : ℕ). length (get_or of.gone place []) + n) (length-take-le last (get_or kept place []) within) in
    let whole_order : AllByRecursion IsInOrder (with_gone then left.inputs_then) =
    subst (λ (f : Feed). AllByRecursion IsInOrder f.inputs) same (order old code feed given of) in
    record {
      code_is = code_is ∙ of.code_is;
      near = of.near;
      gone = then;
      left = lefts;
      feed_is = same;
      given_is = omega (arith, front, given_is, few, of.given_is);
      finished_is = finished ∙ of.finished_is;
      inlets = subst (AreInlets of.left.finished left.inputs_then) (sym has.inputs) left.inlets_then;
      many = left.many ∙ of.many;
      before = lefts;
      events = [];
      follows = refl;
      order = left-order then left.inputs_then whole_order;
      whole_order = whole_order;
      upto = length code.loops;
      loops = subst (λ (f : Feed). AreLoops code (all_resting f) then (horizons_of f) new.stock.loops.items new.states.items (length code.loops)) same here;
      current = λ _. (refl, refl);
      sound = λ no. absurd (cc (sym status ∙ no));
    }

-- the closed rows of an input of a feed: what has gone, what is kept, and the last one if finishing the feed ended it
with-rows : (gone : List (List Snapshot)) (inputs : List InputFeed) (number : ℕ) → number < length inputs
    → get_or (map (λ (a : InputFeed). a.rows) (with_gone gone inputs)) number [] ≡ get_or gone number [] ++ get_or (map (λ (a : InputFeed). a.rows) inputs) number []
with-rows [] inputs number within = refl
with-rows (g ∷ gone) [] number within = absurd (omega arith)
with-rows (g ∷ gone) (a ∷ inputs) zero within = refl
with-rows (g ∷ gone) (a ∷ inputs) (suc number) within = with-rows gone inputs number (omega arith)

last-rows : (before : List InputFeed) (number : ℕ) → number < length before
    → (more : List Snapshot) × (get_or (map (λ (a : InputFeed). a.rows) (map finished_input before)) number [] ≡ get_or (map (λ (a : InputFeed). a.rows) before) number [] ++ more)
last-rows [] number within = absurd (omega arith)
last-rows (a ∷ before) zero within = (closed_at a.edge.watermark a.edge.open_row, refl)
last-rows (a ∷ before) (suc number) within = last-rows before number (omega arith)

-- of each input
record RestsAt (finished : Bool) (inputs : List InputFeed) (inlets : List InletParts) (number : ℕ) : Type 0 where
  more : List Snapshot
  is : get_or (map (λ (a : InputFeed). a.rows) inputs) number [] ≡ get_or (map (λ (i : InletParts). i.input.rows) inlets) number [] ++ more
  none : finished ≡ false → more ≡ []

rests-by : (finished : Bool) (inputs : List InputFeed) (inlets : List InletParts) (number : ℕ) → number < length inputs → AreInlets finished inputs inlets
    → RestsAt finished inputs inlets number
rests-by false inputs inlets number within are =
    let same : map (λ (i : InletParts). i.input.rows) inlets ≡ map (λ (a : InputFeed). a.rows) inputs =
    ap (map (λ (i : InletParts). i.input.rows)) are ∙ resting-rows inputs in
    let list : List Snapshot = get_or (map (λ (i : InletParts). i.input.rows) inlets) number [] in
    record {
      more = [];
      is = ap (λ (lists : List (List Snapshot)). get_or lists number []) (sym same) ∙ sym (append-nil list);
      none = λ _. refl;
    }
rests-by true inputs inlets number within are =
    let before = are.0 in
    let last = last-rows before number (omega (arith, within, ap length are.1, length-map before finished_input)) in
    let same : map (λ (i : InletParts). i.input.rows) inlets ≡ map (λ (a : InputFeed). a.rows) before =
    ap (map (λ (i : InletParts). i.input.rows)) are.2 ∙ finished-rows before in
    record {
      more = last.0;
      is = ap (λ (list : List InputFeed). get_or (map (λ (a : InputFeed). a.rows) list) number []) are.1 ∙ last.1
          ∙ ap (λ (lists : List (List Snapshot)). get_or lists number [] ++ last.0) (sym same);
      none = λ no. absurd (cc no);
    }

-- what an engine keeps once it has forgotten is what is needed
module _ (old : Engine) (code : CodeParts) (feed : Feed) (given : ℕ) (of : IsEngineAt old code feed given) (now : IsCurrent old) (valid : IsCode old.code) where
  feed-long : length feed.inputs ≡ length old.code.inputs
  feed-long =
      ap (λ (f : Feed). length f.inputs) of.feed_is ∙ whole-length of.gone of.left.inputs ∙ of.many ∙ ap (λ (x : CodeParts). length x.inputs) (sym of.code_is)

  rows-are : (number : ℕ) → number < length old.code.inputs → AreRows feed of.gone old.stock.inputs.items number
  rows-are number within =
      let below : number < length of.left.inputs = omega (arith, within, of.many, ap (λ (x : CodeParts). length x.inputs) of.code_is) in
      let left = rests-by of.left.finished of.left.inputs old.stock.inputs.items number below of.inlets in
      let g = get_or of.gone number [] in
      record {
        more = left.more;
        is = ap (λ (f : Feed). get_or (map (λ (a : InputFeed). a.rows) f.inputs) number []) of.feed_is
            ∙ with-rows of.gone of.left.inputs number below
            ∙ ap (λ (list : List Snapshot). g ++ list) left.is
            ∙ sym (append_assoc g (get_or (map (λ (i : InletParts). i.input.rows) old.stock.inputs.items) number []) left.more);
        none = λ open_. left.none (ap (λ (f : Feed). f.finished) (sym of.feed_is) ∙ open_);
      }

  pub forgotten-needed : (inlets_then : List InletParts) (made_then : List MadeParts) (states_then : List LoopState) (counts : List ℕ) (last : ℕ)
      → HasForgotten old.code old.stock.inputs.items inlets_then old.stock.loops.items made_then states_then counts old.given last
      → Fits (feed.finished ≡ false) (held (kept_lists inlets_then made_then)) (needed code feed given)
  forgotten-needed inlets_then made_then states_then counts last has =
      let count : length (gone_at old.code of.gone (length old.code.loops - 1)) + old.given ≡ given =
      ap (λ (x : CodeParts). length (gone_at x of.gone (length x.loops - 1)) + old.given) of.code_is ∙ of.given_is in
      subst (λ (x : CodeParts). Fits (feed.finished ≡ false) (held (kept_lists inlets_then made_then)) (needed x feed given)) of.code_is
      (forgotten-fits old.code feed of.gone old.stock.inputs.items old.stock.loops.items old.states.items valid (current-loops old code feed given of now valid)
      (inputs-count old code feed given of) feed-long rows-are inlets_then made_then states_then counts given old.given last has count)

-- how much may be kept before the engine forgets again
module _ (kept twice room most : ℕ) (twice_is : twice ≡ min (kept * 2) most) (room_is : room ≡ max twice 1024) where
  pub room-few : room ≤ max 1024 (2 * kept)
  room-few =
      let low = min-le_left (kept * 2) most in
      let high = le-max_right 1024 (2 * kept) in
      let least = le-max_left 1024 (2 * kept) in
      let double : twice ≤ max 1024 (2 * kept) = omega (arith, low, high, twice_is) in
      subst (λ (n : ℕ). n ≤ max 1024 (2 * kept)) (sym room_is) (max-le double least)

  pub room-holds : kept ≤ most → kept ≤ room
  room-holds fits =
      let once : kept ≤ kept * 2 = omega arith in
      let low : kept ≤ min (kept * 2) most = le-min once fits in
      let high = le-max_left twice 1024 in
      omega (arith, low, high, twice_is, room_is)
