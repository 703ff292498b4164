-- Loops whose inputs have gone on: each drops its waiting snapshot, and its state looks again. What is settled stays as it is, and the
-- states are fit for the new buffers.
use Rattle.std.proofs.Common.{◌≡◌, ◌<◌, ◌≤◌, ◌+◌, ◌-◌, ℕ, zero, suc, ℤ, ◌+ℤ◌, ◌<ℤ◌, ◌≤ℤ◌, List, [], ◌∷◌, ◌++◌, length, map, drop, get_or, slice_get, Some, refl, sym, ap, ◌∙◌}
use Rattle.std.proofs.Common.{subst, arith, inl, inr}
use Rattle.std.specs.List.{AllByRecursion}
use Rattle.std.proofs.lemmas.Bool.{cases_lt}
use Rattle.std.proofs.lemmas.Int.{by_lt_z}
use Rattle.std.proofs.lemmas.List.{append_assoc, get_or_past, length-map}
use Rattle.std.proofs.lemmas.Option.{none-some, same_Some, slice_get_within}
use Rattle.circular_buffer.proofs.Places.{slice_get-some}
use Rattle.tilt_base.proofs.Lists.{all-slice_get}
use Rattle.tilt_code.proofs.Runs.{loops-timed}
use Rattle.tilt_code.specs.Code.{Block, CodeParts, LoopParts}
use Rattle.tilt_code.specs.Grammar.{IsLoop}
use Rattle.tilt_code.specs.References.{IsCode}
use Rattle.tilt_code.specs.Run.{buffers_of}
use Rattle.tilt_code.specs.declared.instr.Instr.{Instr}
use Rattle.tilt_code.specs.declared.instr.Instr.TheVariants.{Const, Null, Argument, Port, Win, One, Two, If}
use Rattle.tilt_engine.proofs.GoingOn.{buffers-go_on, made-stays}
use Rattle.tilt_engine.proofs.CodeHorizons.{input-horizon}
use Rattle.tilt_engine.proofs.Gone.{begins-rest, rest-at, rests-long}
use Rattle.tilt_engine.proofs.LeftLists.{rest-goes_on}
use Rattle.tilt_engine.proofs.Rising.{body-rises, loop_at-rises}
use Rattle.tilt_engine.specs.CodeHorizon.{block_horizon, code_horizons, instr_horizon}
use Rattle.tilt_engine.specs.GoingOn.{AllGoOn, IsNearCode}
use Rattle.tilt_engine.specs.Gone.{BeginsWith, IsGoneFor, rests}
use Rattle.tilt_engine.specs.Looking.{LooksAgain}
use Rattle.tilt_turn.specs.Same.{IsAlikeFor, IsAlikeUpTo}
use Rattle.tilt_engine.specs.Standing.{AreLoops, IsFitAt, IsFresh, IsLoopAt, IsStateAt, gone_at, loop_at}
use Rattle.tilt_engine.specs.Stock.{MadeParts, restarted}
use Rattle.tilt_feed.proofs.AtRest.{rests-refl}
use Rattle.tilt_feed.proofs.Known.{IsNotAbove, known-below, known-first, known-later, known-second}
use Rattle.tilt_feed.proofs.Rising.{AreNotAbove}
use Rattle.tilt_feed.specs.Horizon.{Horizon, IsKnownAt, horizon_of}
use Rattle.tilt_feed.specs.Resting.{RestsOn}
use Rattle.tilt_pipe.proofs.Standing.{made-passed, made-stopped}
use Rattle.tilt_pipe.proofs.Works.{buffers-length, input-is, work-fills, work-is, works-length}
use Rattle.tilt_pipe.specs.Made.{Work, works_of}
use Rattle.tilt_pipe.specs.Positions.{made_by}
use Rattle.tilt_pipe.specs.Reads.{turn_point}
use Rattle.tilt_stream.specs.Snap.{Fill, Snapshot}
use Rattle.tilt_turn.specs.declared.state.LoopState.{LoopState}

-- of lists that go on, the one with a number goes on; one that isn't there is empty in both
pub rests-at : (hs : List Horizon) (before after : List (List Snapshot)) → AllGoOn hs before after → (buffer : ℕ)
    → RestsOn (horizon_of hs buffer) (get_or before buffer []) (get_or after buffer [])
rests-at [] [] [] all buffer = record {
  ended = λ tick known. refl;
  cells = λ tick known. refl;
  marks = λ tick known. refl;
  kept = λ tick low is. is;
}
rests-at [] [] (y ∷ ys) all buffer = absurd all
rests-at [] (x ∷ xs) [] all buffer = absurd all
rests-at [] (x ∷ xs) (y ∷ ys) all buffer = absurd all
rests-at (h ∷ hs) [] [] all buffer = absurd all
rests-at (h ∷ hs) [] (y ∷ ys) all buffer = absurd all
rests-at (h ∷ hs) (x ∷ xs) [] all buffer = absurd all
rests-at (h ∷ hs) (x ∷ xs) (y ∷ ys) all zero = all.0
rests-at (h ∷ hs) (x ∷ xs) (y ∷ ys) all (suc buffer) = rests-at hs xs ys all.1 buffer

-- a list that goes on is the same up to each known tick
rests-alike : (h : Horizon) (last : ℤ) (a b : List Snapshot) → RestsOn h a b → IsKnownAt h last → IsAlikeUpTo last a b
rests-alike h last a b goes known = record {
  ended = λ tick low. goes.ended tick (known-below h last tick known low);
  cells = λ tick low. goes.cells tick (known-below h last tick known low);
  marks = λ tick low. goes.marks tick (known-below h last tick known low);
}

-- each of some lists goes on, up to its horizon
abbrev EachGoesOn : List Horizon → List (List Snapshot) → List (List Snapshot) → Type 0
EachGoesOn hs a b = (buffer : ℕ) → RestsOn (horizon_of hs buffer) (get_or a buffer []) (get_or b buffer [])

-- lists that go on are alike for what a body reads, at a grid point at which all of that is known
module _ (hs : List Horizon) (a b : List (List Snapshot)) (all : EachGoesOn hs a b) (point : ℤ) where
  instr-alike : (i : Instr) → IsKnownAt (instr_horizon hs i) point → IsAlikeFor a b point i
  instr-alike (Port buffer offset) known =
      rests-alike (horizon_of hs buffer) (point +ℤ offset) (get_or a buffer []) (get_or b buffer []) (all buffer)
      (known-later (horizon_of hs buffer) offset point known)
  instr-alike (Win reducer buffer from to number) known =
      rests-alike (horizon_of hs buffer) (point +ℤ to) (get_or a buffer []) (get_or b buffer []) (all buffer)
      (known-later (horizon_of hs buffer) to point known)
  instr-alike (Const number) known = tt
  instr-alike Null known = tt
  instr-alike Argument known = tt
  instr-alike (One op x) known = tt
  instr-alike (Two op x y) known = tt
  instr-alike (If c x y) known = tt

  pub body-alike : (block : Block) → IsKnownAt (block_horizon hs block) point → AllByRecursion (IsAlikeFor a b point) block
  body-alike [] known = tt
  body-alike (i ∷ block) known = (
    instr-alike i (known-first (instr_horizon hs i) (block_horizon hs block) point known),
    body-alike block (known-second (instr_horizon hs i) (block_horizon hs block) point known),
  )

-- each list is like itself
alike-refl : (last : ℤ) (a : List Snapshot) → IsAlikeUpTo last a a
alike-refl last a = record { ended = λ tick low. refl; cells = λ tick low. refl; marks = λ tick low. refl }

instr-like_itself : (a : List (List Snapshot)) (point : ℤ) (i : Instr) → IsAlikeFor a a point i
instr-like_itself a point (Port buffer offset) = alike-refl (point +ℤ offset) (get_or a buffer [])
instr-like_itself a point (Win reducer buffer from to number) = alike-refl (point +ℤ to) (get_or a buffer [])
instr-like_itself a point (Const number) = tt
instr-like_itself a point Null = tt
instr-like_itself a point Argument = tt
instr-like_itself a point (One op x) = tt
instr-like_itself a point (Two op x y) = tt
instr-like_itself a point (If c x y) = tt

pub body-like_itself : (a : List (List Snapshot)) (point : ℤ) (block : Block) → AllByRecursion (IsAlikeFor a a point) block
body-like_itself a point [] = tt
body-like_itself a point (i ∷ block) = (instr-like_itself a point i, body-like_itself a point block)

-- a state that looks again stays fresh, or fit at the grid point at which it was
pub fresh-again : (l : LoopParts) (state after : LoopState) → LooksAgain state after → IsFresh l state → IsFresh l after
fresh-again l state after again fresh =
    λ lists point ready low. again lists lists l point low (fresh lists point ready low) (body-like_itself lists point l.body)

pub fit-again : (gs hs : List Horizon) (a b : List (List Snapshot)) (l : LoopParts) (settled : ℤ) (state after : LoopState) → LooksAgain state after
    → EachGoesOn gs a b → IsNotAbove (block_horizon gs l.body) (block_horizon hs l.body) → IsFitAt a gs l settled state → IsFitAt b hs l settled after
fit-again gs hs a b l settled state after again all rises at = record {
  point = at.point;
  low = at.low;
  below = at.below;
  known = rises.all at.point at.known;
  fit = again a b l at.point at.low at.fit (body-alike gs a b all at.point l.body at.known);
}

pub state-again : (gs hs : List Horizon) (a b : List (List Snapshot)) (l : LoopParts) (settled : ℤ) (state after : LoopState) → LooksAgain state after
    → EachGoesOn gs a b → IsNotAbove (block_horizon gs l.body) (block_horizon hs l.body) → IsStateAt a gs l settled state → IsStateAt b hs l settled after
state-again gs hs a b l settled state after again all rises (inl fresh) = inl (fresh-again l state after again fresh)
state-again gs hs a b l settled state after again all rises (inr at) = inr (fit-again gs hs a b l settled state after again all rises at)

-- a list begins with what ends in it up to a tick
made-front : (tick : ℤ) (list : List Snapshot) → BeginsWith (made_by tick list) list
made-front tick [] = ([], refl)
made-front tick (s ∷ ss) =
    by_lt_z tick s.end
    (λ high. let none = made-stopped tick s ss high in (s ∷ ss, ap (λ (front : List Snapshot). front ++ s ∷ ss) (sym none)))
    (λ low.
    let some = made-passed tick s ss low in
    let rest = made-front tick ss in
    (rest.0, ap (λ (list : List Snapshot). s ∷ list) rest.1 ∙ ap (λ (front : List Snapshot). front ++ rest.0) (sym some)))

pub begins-made : (tick : ℤ) (g made whole : List Snapshot) → g ++ made ≡ made_by tick whole → BeginsWith g whole
begins-made tick g made whole is =
    let front = made-front tick whole in
    (made ++ front.0, front.1 ∙ ap (λ (list : List Snapshot). list ++ front.0) (sym is) ∙ append_assoc g made front.0)

-- a later state of the rows of a code's inputs
pub record IsLater (code : CodeParts) (rows later gone : List (List Snapshot)) (hs risen : List Horizon) : Type 0 where
  pub is : IsCode code
  pub near : IsNearCode code
  pub inputs : length rows ≡ length code.inputs
  pub same : length later ≡ length rows
  pub horizons : length hs ≡ length code.inputs
  pub all : AllGoOn hs rows later
  pub rest : AllGoOn hs (rests gone rows) (rests gone later)
  pub rises : AreNotAbove hs risen

-- one loop: at its place in the code, the work over the new rows has the same loop
module _ (code : CodeParts) (rows later gone : List (List Snapshot)) (hs risen : List Horizon) (it : IsLater code rows later gone hs risen)
    (k : ℕ) (v w : Work) (there : slice_get (works_of code rows) k ≡ Some v) (now : slice_get (works_of code later) k ≡ Some w) where
  loop-same : w.loop ≡ v.loop
  loop-same = same_Some w.loop v.loop (sym (work-is code later k w now).loop ∙ (work-is code rows k v there).loop)

  old-at : get_or (buffers_of code rows) (length code.inputs + k) [] ≡ v.whole
  old-at = ap (λ (n : ℕ). get_or (buffers_of code rows) (n + k) []) (sym it.inputs) ∙ (work-is code rows k v there).filled

  new-at : get_or (buffers_of code later) (length code.inputs + k) [] ≡ w.whole
  new-at = ap (λ (n : ℕ). get_or (buffers_of code later) (n + k) []) (sym (it.same ∙ it.inputs)) ∙ (work-is code later k w now).filled

  -- and its whole buffer goes on
  whole-goes_on : RestsOn (loop_at code hs k) v.whole w.whole
  whole-goes_on =
      let before = buffers_of code rows in
      let after = buffers_of code later in
      let goes = rests-at (code_horizons code hs) before after (buffers-go_on code hs rows later it.is it.near it.inputs it.all) (length code.inputs + k) in
      subst (λ (list : List Snapshot). RestsOn (loop_at code hs k) v.whole list) new-at
      (subst (λ (list : List Snapshot). RestsOn (loop_at code hs k) list (get_or after (length code.inputs + k) [])) old-at goes)

  v-fills : Fill v.loop.lo v.loop.hi v.whole
  v-fills = (work-fills code rows k v (loops-timed code.loops it.is.grammatical.loops) there).0

  w-fills : Fill v.loop.lo v.loop.hi w.whole
  w-fills =
      subst (λ (l : LoopParts). Fill l.lo l.hi w.whole) loop-same (work-fills code later k w (loops-timed code.loops it.is.grammatical.loops) now).0

  -- what it has made stays
  stays : (m : MadeParts) (state : LoopState) → IsLoopAt code rows gone hs k v m state → made_by m.settled w.whole ≡ made_by m.settled v.whole
  stays m state at =
      let loop = all-slice_get IsLoop code.loops k v.loop it.is.grammatical.loops (work-is code rows k v there).loop in
      made-stays v.loop.lo v.loop.hi m.settled (loop_at code hs k) v.whole w.whole v-fills w-fills at.within loop.stretch.high whole-goes_on at.known at.fill

  -- and so what is left of its buffer goes on
  left-goes_on : (m : MadeParts) (state : LoopState) → IsLoopAt code rows gone hs k v m state
      → RestsOn (loop_at code hs k) (get_or (rests gone (buffers_of code rows)) (length code.inputs + k) [])
      (get_or (rests gone (buffers_of code later)) (length code.inputs + k) [])
  left-goes_on m state at =
      let number = length code.inputs + k in
      let g = gone_at code gone k in
      let a = drop (length g) v.whole in
      let b = drop (length g) w.whole in
      let old : v.whole ≡ g ++ a = begins-rest g v.whole (begins-made m.settled g m.made v.whole at.made) in
      let new : w.whole ≡ g ++ b = begins-rest g w.whole (begins-made m.settled g m.made w.whole (at.made ∙ sym (stays m state at))) in
      let goes : RestsOn (loop_at code hs k) (g ++ a) (g ++ b) =
      subst (λ (list : List Snapshot). RestsOn (loop_at code hs k) list (g ++ b)) old
      (subst (λ (list : List Snapshot). RestsOn (loop_at code hs k) v.whole list) new whole-goes_on) in
      let left = rest-goes_on (loop_at code hs k) v.loop.lo v.loop.hi g a b (subst (Fill v.loop.lo v.loop.hi) old v-fills)
      (subst (Fill v.loop.lo v.loop.hi) new w-fills) goes in
      let old_left : get_or (rests gone (buffers_of code rows)) number [] ≡ a = rest-at gone (buffers_of code rows) number ∙ ap (drop (length g)) old-at in
      let new_left : get_or (rests gone (buffers_of code later)) number [] ≡ b = rest-at gone (buffers_of code later) number ∙ ap (drop (length g)) new-at in
      subst (λ (list : List Snapshot). RestsOn (loop_at code hs k) list (get_or (rests gone (buffers_of code later)) number [])) (sym old_left)
      (subst (λ (list : List Snapshot). RestsOn (loop_at code hs k) a list) (sym new_left) left)

  restarted-loop : (m : MadeParts) (state after : LoopState) → LooksAgain state after
      → EachGoesOn (code_horizons code hs) (rests gone (buffers_of code rows)) (rests gone (buffers_of code later)) → IsLoopAt code rows gone hs k v m state
      → IsLoopAt code later gone risen k w (restarted m) after
  restarted-loop m state after again left at =
      let kept = stays m state at in
      let back : v.loop ≡ w.loop = sym loop-same in
      let own : Fill v.loop.lo m.settled (made_by m.settled w.whole) = subst (Fill v.loop.lo m.settled) (sym kept) at.fill in
      let fit : IsStateAt (rests gone (buffers_of code later)) (code_horizons code risen) v.loop m.settled after =
      state-again (code_horizons code hs) (code_horizons code risen) (rests gone (buffers_of code rows)) (rests gone (buffers_of code later)) v.loop m.settled
      state after again left (body-rises code hs risen v.loop.body it.is it.rises) at.fit in
      record {
        fill = subst (λ (l : LoopParts). Fill l.lo m.settled (made_by m.settled w.whole)) back own;
        made = at.made ∙ sym kept;
        within = subst (λ (l : LoopParts). m.settled ≤ℤ l.hi) back at.within;
        hi = at.hi ∙ ap (λ (l : LoopParts). l.hi) back;
        known = (loop_at-rises code hs risen k it.is it.rises).all m.settled at.known;
        waiting = λ s no. absurd (none-some s no);
        unread = subst (λ (l : LoopParts). m.settled <ℤ l.hi → AllByRecursion (IsGoneFor gone (turn_point l m.settled)) l.body) back at.unread;
        fit = subst (λ (l : LoopParts). IsStateAt (rests gone (buffers_of code later)) (code_horizons code risen) l m.settled after) back fit;
      }

-- a loop that was restarted was there before
restarted-at : (loops : List MadeParts) (k : ℕ) (n : MadeParts) → slice_get (map restarted loops) k ≡ Some n
    → (m : MadeParts) × (slice_get loops k ≡ Some m) × (restarted m ≡ n)
restarted-at [] k n at = absurd (none-some n at)
restarted-at (m ∷ loops) zero n at = (m, refl, same_Some (restarted m) n at)
restarted-at (m ∷ loops) (suc k) n at = restarted-at loops k n at

-- what is left of each buffer goes on
lefts-go_on : (code : CodeParts) (rows later gone : List (List Snapshot)) (hs risen : List Horizon) (loops : List MadeParts) (states : List LoopState) (upto : ℕ)
    → IsLater code rows later gone hs risen → AreLoops code rows gone hs loops states upto
    → EachGoesOn (code_horizons code hs) (rests gone (buffers_of code rows)) (rests gone (buffers_of code later))
lefts-go_on code rows later gone hs risen loops states upto it are buffer =
    elim (cases_lt buffer (length rows)) as (λ _. Goes buffer) [
      | inl input ↦ input-goes_on buffer input
      | inr behind ↦ (
          let source = buffer - length rows in
          let number : length code.inputs + source ≡ buffer = omega (arith, behind, it.inputs) in
          subst Goes number (elim (cases_lt source (length code.loops)) as (λ _. Goes (length code.inputs + source)) [
            | inl within ↦ loop-goes_on source within
            | inr past ↦ past-goes_on (length code.inputs + source) (omega (arith, past))
          ]))
    ]
  where
    Goes : ℕ → Type 0
    Goes n = RestsOn (horizon_of (code_horizons code hs) n) (get_or (rests gone (buffers_of code rows)) n []) (get_or (rests gone (buffers_of code later)) n [])

    input-left : (lists : List (List Snapshot)) (n : ℕ) → n < length lists → get_or (rests gone (buffers_of code lists)) n [] ≡ get_or (rests gone lists) n []
    input-left lists n within =
        rest-at gone (buffers_of code lists) n ∙ ap (drop (length (get_or gone n []))) (input-is code lists n within) ∙ sym (rest-at gone lists n)

    input-goes_on : (n : ℕ) → n < length rows → Goes n
    input-goes_on n input =
        let old = input-left rows n input in
        let new = input-left later n (omega (arith, input, it.same)) in
        let horizon = input-horizon hs code.loops n (omega (arith, input, it.inputs, it.horizons)) in
        rw (old, new, horizon) (rests-at hs (rests gone rows) (rests gone later) it.rest n)

    loop-goes_on : (source : ℕ) → source < length code.loops → Goes (length code.inputs + source)
    loop-goes_on source within =
        let v = slice_get-some (works_of code rows) source (omega (arith, within, works-length code rows)) in
        let w = slice_get-some (works_of code later) source (omega (arith, within, works-length code later)) in
        let m = slice_get-some loops source (omega (arith, within, are.many)) in
        let state = slice_get-some states source (omega (arith, within, are.many_states)) in
        left-goes_on code rows later gone hs risen it source v.0 w.0 v.1 w.1 m.0 state.0 (are.each source v.0 m.0 state.0 v.1 m.1 state.1)

    none-at : (lists : List (List Snapshot)) (n : ℕ) → length lists ≤ n → get_or lists n [] ≡ []
    none-at lists n past = get_or_past lists n [] past

    past-goes_on : (n : ℕ) → length code.inputs + length code.loops ≤ n → Goes n
    past-goes_on n past =
        let old = none-at (rests gone (buffers_of code rows)) n (omega (arith, past, rests-long gone (buffers_of code rows), buffers-length code rows, it.inputs)) in
        let new = none-at (rests gone (buffers_of code later)) n
        (omega (arith, past, rests-long gone (buffers_of code later), buffers-length code later, it.inputs, it.same)) in
        rw (old, new) (rests-refl (horizon_of (code_horizons code hs) n) [])

-- all loops, over the new rows; whether they have made all that is known by now is left open
pub restarted-loops : (code : CodeParts) (rows later gone : List (List Snapshot)) (hs risen : List Horizon) (loops : List MadeParts)
    (old new : List LoopState) (upto : ℕ) → IsLater code rows later gone hs risen → AreLoops code rows gone hs loops old upto
    → ((number : ℕ) → number < length code.inputs → BeginsWith (get_or gone number []) (get_or later number []))
    → length risen ≡ length hs → length new ≡ length old
    → ((k : ℕ) (state after : LoopState) → slice_get old k ≡ Some state → slice_get new k ≡ Some after → LooksAgain state after)
    → AreLoops code later gone risen (map restarted loops) new 0
restarted-loops code rows later gone hs risen loops old new upto it are begin same_horizons same_states again = record {
  inputs = it.same ∙ are.inputs;
  begin = begin;
  horizons = same_horizons ∙ are.horizons;
  many = length-map loops restarted ∙ are.many;
  many_states = same_states ∙ are.many_states;
  each = λ k w n after now made state.
      let m = restarted-at loops k n made in
      let within = slice_get_within (works_of code later) k w now in
      let work = slice_get-some (works_of code rows) k (omega (arith, works-length code rows, works-length code later)) in
      let before = slice_get-some old k (omega (arith, works-length code later, are.many_states)) in
      subst (λ (x : MadeParts). IsLoopAt code later gone risen k w x after) m.2
      (restarted-loop code rows later gone hs risen it k work.0 w work.1 now m.0 before.0 after (again k before.0 after before.1 state)
      (lefts-go_on code rows later gone hs risen loops old upto it are) (are.each k work.0 m.0 before.0 work.1 m.1 before.1));
  done = λ k m below. absurd (omega arith);
}
