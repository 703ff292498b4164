-- Where an engine is before the first event.
use Rattle.std.proofs.Common.{◌≡◌, ◌+◌, ℕ, zero, suc, List, [], ◌∷◌, ◌++◌, length, map, get_or, replicate, slice_get, option_map, Some, refl, sym, ap, ◌∙◌, inl, subst}
use Rattle.std.proofs.Common.{take, arith, Bool, true, false, if◌then◌else◌}
use Rattle.std.proofs.lemmas.Int.{clamps, ints}
use Rattle.std.proofs.lemmas.List.{length-map, length-replicate}
use Rattle.std.proofs.lemmas.Option.{same_Some, slice_get-map}
use Rattle.std.specs.Int.{int_max}
use Rattle.std.specs.Prelude.{int_le}
use Rattle.tilt_base.proofs.Lists.{all-slice_get}
use Rattle.tilt_base.specs.declared.span.Span.{Span}
use Rattle.tilt_code.proofs.Runs.{loops-timed, turns-Fill}
use Rattle.tilt_code.specs.Code.{CodeParts, LoopParts}
use Rattle.tilt_code.specs.Meaning.{IsTimed}
use Rattle.tilt_code.specs.References.{IsCode}
use Rattle.tilt_engine.proofs.CodeHorizons.{horizon-at}
use Rattle.tilt_engine.proofs.Gone.{all-left}
use Rattle.tilt_engine.specs.CodeHorizon.{block_horizon, code_horizons, loop_horizon}
use Rattle.tilt_engine.specs.AtRest.{horizons_of}
use Rattle.tilt_engine.specs.Engines.{IsEngineAt}
use Rattle.tilt_engine.specs.GoingOn.{IsNearCode}
use Rattle.tilt_engine.specs.Standing.{AreLoops, IsFresh, IsLoopAt, loop_at}
use Rattle.tilt_engine.specs.Stock.{MadeParts, nothing_made, resting_inlet}
use Rattle.tilt_engine.specs.declared.engine.Engine.{Engine}
use Rattle.tilt_engine.specs.declared.status.Status.TheVariants.{Behind}
use Rattle.tilt_feed.proofs.Ordered.{fed-order}
use Rattle.tilt_feed.specs.Feed.{InputFeed, empty_feed, unknown_input}
use Rattle.tilt_feed.specs.Horizon.{Horizon, Until, ForEver, IsKnownAt, grid_horizon, horizon_of, input_horizon, over_horizon}
use Rattle.tilt_feed.specs.Resting.{all_resting, resting}
use Rattle.tilt_pipe.proofs.Standing.{none-fills, none-made}
use Rattle.tilt_pipe.proofs.Works.{work-is}
use Rattle.tilt_pipe.specs.Made.{Work}
use Rattle.tilt_pipe.specs.Reads.{turn_point}
use Rattle.tilt_stream.specs.Snap.{Fill, Snapshot}
use Rattle.tilt_turn.specs.declared.state.LoopState.{LoopState}

-- what holds of two lists place by place holds with one more in the second
pub each-push : {A B : Type 0} (P : A → B → Type 0) (xs : List A) (ys : List B) (x : A) (y : B) → slice_get xs (length ys) ≡ Some x
    → ((k : ℕ) (v : A) (w : B) → slice_get xs k ≡ Some v → slice_get ys k ≡ Some w → P v w) → P x y
    → (k : ℕ) (v : A) (w : B) → slice_get xs k ≡ Some v → slice_get (ys ++ y ∷ []) k ≡ Some w → P v w
each-push P [] ys x y at all here k v w is own = absurd (cc at)
each-push P (a ∷ xs) [] x y at all here zero v w is own =
    subst (λ z. P z w) (same_Some x v (sym at ∙ is)) (subst (P x) (same_Some y w own) here)
each-push P (a ∷ xs) [] x y at all here (suc k) v w is own = absurd (cc own)
each-push P (a ∷ xs) (b ∷ ys) x y at all here zero v w is own = all 0 v w is own
each-push P (a ∷ xs) (b ∷ ys) x y at all here (suc k) v w is own =
    each-push P xs ys x y at (λ j p q of_j own_j. all (suc j) p q of_j own_j) here k v w is own

-- with a stretch it is known up to its lower end at least
over-start : (span : Span) (h : Horizon) → IsKnownAt (over_horizon (Some span) h) span.start
over-start span ForEver = tt
over-start span (Until last) = over-by (int_le span.end last)
  where
    over-by : (b : Bool) → IsKnownAt (if b then ForEver else Until (int_max span.start last)) span.start
    over-by true = tt
    over-by false = grind (arith, ints, clamps)

pub start-known : (code : CodeParts) (hs : List Horizon) (place : ℕ) (l : LoopParts) → length hs ≡ length code.inputs
    → slice_get code.loops place ≡ Some l → IsKnownAt (loop_at code hs place) l.lo
start-known code hs place l many is =
    let all = code_horizons code hs in
    let n = length code.inputs + place in
    let here : loop_at code hs place ≡ loop_horizon (take n all) l =
    subst (λ (m : ℕ). horizon_of all (m + place) ≡ loop_horizon (take (m + place) all) l) many (horizon-at hs code.loops place l is) in
    subst (λ (h : Horizon). IsKnownAt h l.lo) (sym here)
    (over-start (record { start = l.lo; end = l.hi }) (grid_horizon l.grid (block_horizon (take n all) l.body)))

-- loops that have made nothing
pub nothing-stands : (code : CodeParts) (rows : List (List Snapshot)) (hs : List Horizon) (states : List LoopState) → IsCode code
    → length rows ≡ length code.inputs → length hs ≡ length code.inputs → length states ≡ length code.loops
    → ((k : ℕ) (l : LoopParts) (state : LoopState) → slice_get code.loops k ≡ Some l → slice_get states k ≡ Some state → IsFresh l state)
    → AreLoops code rows [] hs (map nothing_made code.loops) states 0
nothing-stands code rows hs states valid inputs horizons many fresh = record {
  inputs = inputs;
  begin = λ number within. (get_or rows number [], refl);
  horizons = horizons;
  many = length-map code.loops nothing_made;
  many_states = many;
  each = λ k w m state of at own.
      let it = work-is code rows k w of in
      let timed = all-slice_get IsTimed code.loops k w.loop (loops-timed code.loops valid.grammatical.loops) it.loop in
      let m_is : nothing_made w.loop ≡ m =
      same_Some (nothing_made w.loop) m (sym (slice_get-map nothing_made code.loops k ∙ ap (option_map nothing_made) it.loop) ∙ at) in
      subst (λ (n : MadeParts). IsLoopAt code rows [] hs k w n state) m_is (begun k w state it.loop
      (subst (Fill w.loop.lo w.loop.hi) (sym it.whole) (turns-Fill _ w.loop timed)) timed (fresh k w.loop state it.loop own));
  done = λ k m below at. absurd (omega arith);
}
  where
    begun : (k : ℕ) (w : Work) (state : LoopState) → slice_get code.loops k ≡ Some w.loop → Fill w.loop.lo w.loop.hi w.whole → IsTimed w.loop
        → IsFresh w.loop state → IsLoopAt code rows [] hs k w (nothing_made w.loop) state
    begun k w state is fills timed new =
        let stretch = timed.stretch in
        record {
          fill = none-fills w.loop.lo w.loop.hi w.whole fills;
          made = sym (none-made w.loop.lo w.loop.hi w.whole fills);
          within = omega (arith, ints);
          hi = refl;
          known = start-known code hs k w.loop horizons is;
          waiting = λ v no. absurd (cc no);
          unread = λ some. all-left (turn_point w.loop w.loop.lo) w.loop.body;
          fit = inl new;
        }

-- the inputs before the first event
pub map-same : {A B : Type 0} (f : A → B) (n : ℕ) (x : A) → map f (replicate n x) ≡ replicate n (f x)
map-same f zero x = refl
map-same f (suc n) x = ap (λ list. f x ∷ list) (map-same f n x)

-- an engine before the first event
pub engine-new : (e : Engine) → IsCode e.code → IsNearCode e.code → e.given ≡ 0 → e.finished ≡ false → e.status ≡ Behind
    → e.stock.inputs.items ≡ replicate (length e.code.inputs) (resting_inlet unknown_input) → e.stock.loops.items ≡ map nothing_made e.code.loops
    → length e.states.items ≡ length e.code.loops
    → ((k : ℕ) (l : LoopParts) (state : LoopState) → slice_get e.code.loops k ≡ Some l → slice_get e.states.items k ≡ Some state → IsFresh l state)
    → IsEngineAt e e.code (empty_feed (length e.code.inputs)) 0
engine-new e valid near given finished status inputs loops many fresh =
    let n = length e.code.inputs in
    let feed = empty_feed n in
    let count : length feed.inputs ≡ n = length-replicate n unknown_input in
    record {
      code_is = refl;
      near = near;
      gone = [];
      left = feed;
      feed_is = refl;
      given_is = omega (arith, given);
      finished_is = finished;
      inlets = inputs ∙ sym (map-same resting_inlet n unknown_input);
      many = count;
      before = feed;
      events = [];
      follows = refl;
      order = fed-order n [];
      whole_order = fed-order n [];
      upto = 0;
      loops = subst (λ (made : List MadeParts). AreLoops e.code (all_resting feed) [] (horizons_of feed) made e.states.items 0) (sym loops)
          (nothing-stands e.code (all_resting feed) (horizons_of feed) e.states.items valid
          (length-map feed.inputs resting ∙ count) (length-map feed.inputs (λ (a : InputFeed). input_horizon feed.finished a.edge) ∙ count) many fresh);
      current = λ is. absurd (cc (is, status));
      sound = λ is. absurd (cc (is, status));
    }
