-- The horizons of a code's buffers, loop by loop.
use Rattle.std.proofs.Common.{◌≡◌, ◌<◌, ◌+◌, ℕ, zero, suc, ℤ, pos, ◌+ℤ◌, ◌≤ℤ◌, ◌<ℤ◌, true, List, [], ◌∷◌, ◌++◌, length, take, slice_get, Some, refl, sym, ap, ◌∙◌, subst, arith}
use Rattle.std.proofs.Common.{append_assoc, append-nil}
use Rattle.std.proofs.lemmas.Int.{ints}
use Rattle.std.proofs.lemmas.List.{length_push, take_at}
use Rattle.std.proofs.lemmas.Option.{same_Some}
use Rattle.std.specs.List.{AllByRecursion}
use Rattle.tilt_base.specs.Grid.{IsGrid, ceil}
use Rattle.tilt_base.specs.declared.span.Span.{Span}
use Rattle.tilt_code.specs.Code.{Block, CodeParts, LoopParts}
use Rattle.tilt_code.specs.declared.instr.Instr.{Instr}
use Rattle.tilt_code.specs.declared.instr.Instr.TheVariants.{Const, Null, Argument, Port, Win, One, Two, If}
use Rattle.tilt_engine.specs.CodeHorizon.{block_horizon, code_horizons, instr_horizon, loop_horizon, with_loop_horizons}
use Rattle.tilt_engine.specs.Standing.{loop_at}
use Rattle.tilt_feed.proofs.Known.{known-inside, known-point}
use Rattle.tilt_feed.specs.Horizon.{Horizon, IsKnownAt, earlier, earlier_by, grid_horizon, horizon_of, over_horizon}
use Rattle.tilt_stream.specs.Domain.{lies_in}
use Rattle.tilt_turn.specs.Ready.{IsReadable}

-- the buffers that were given come first
horizons-front : (hs : List Horizon) (loops : List LoopParts) → (rest : List Horizon) × (with_loop_horizons hs loops ≡ hs ++ rest)
horizons-front hs [] = ([], sym (append-nil hs))
horizons-front hs (l ∷ loops) =
    let h = loop_horizon hs l in
    let more = horizons-front (hs ++ h ∷ []) loops in
    (h ∷ more.0, more.1 ∙ append_assoc hs (h ∷ []) more.0)

horizon_of-front : (hs rest : List Horizon) (number : ℕ) → number < length hs → horizon_of (hs ++ rest) number ≡ horizon_of hs number
horizon_of-front [] rest number within = absurd (omega arith)
horizon_of-front (h ∷ hs) rest zero within = refl
horizon_of-front (h ∷ hs) rest (suc number) within = horizon_of-front hs rest number (omega arith)

-- an input has the horizon that was given
pub input-horizon : (hs : List Horizon) (loops : List LoopParts) (number : ℕ) → number < length hs
    → horizon_of (with_loop_horizons hs loops) number ≡ horizon_of hs number
input-horizon hs loops number within =
    let all = horizons-front hs loops in
    ap (λ (list : List Horizon). horizon_of list number) all.1 ∙ horizon_of-front hs all.0 number within

horizon_of-behind : (hs : List Horizon) (h : Horizon) (rest : List Horizon) → horizon_of (hs ++ h ∷ rest) (length hs) ≡ h
horizon_of-behind [] h rest = refl
horizon_of-behind (x ∷ hs) h rest = horizon_of-behind hs h rest

-- the loop at a place has the horizon of the loop over the buffers before it
pub horizon-at : (hs : List Horizon) (loops : List LoopParts) (place : ℕ) (l : LoopParts) → slice_get loops place ≡ Some l
    → horizon_of (with_loop_horizons hs loops) (length hs + place) ≡ loop_horizon (take (length hs + place) (with_loop_horizons hs loops)) l
horizon-at hs [] place l is = absurd (cc is)
horizon-at hs (x ∷ loops) zero l is =
    let h = loop_horizon hs x in
    let front = horizons-front (hs ++ h ∷ []) loops in
    let all : with_loop_horizons hs (x ∷ loops) ≡ hs ++ h ∷ front.0 = front.1 ∙ append_assoc hs (h ∷ []) front.0 in
    let at : length hs ≡ length hs + 0 = omega arith in
    ap (λ (n : ℕ). horizon_of (with_loop_horizons hs (x ∷ loops)) n) (sym at)
    ∙ ap (λ (list : List Horizon). horizon_of list (length hs)) all ∙ horizon_of-behind hs h front.0
    ∙ ap (λ (v : LoopParts). loop_horizon hs v) (same_Some x l is)
    ∙ ap (λ (list : List Horizon). loop_horizon list l) (sym (ap (take (length hs + 0)) all ∙ take_at hs (h ∷ front.0) (length hs + 0) at))
horizon-at hs (x ∷ loops) (suc place) l is =
    let h = loop_horizon hs x in
    let rest = horizon-at (hs ++ h ∷ []) loops place l is in
    let at : length (hs ++ h ∷ []) + place ≡ length hs + suc place = omega (arith, length_push hs h) in
    subst (λ (n : ℕ). horizon_of (with_loop_horizons hs (x ∷ loops)) n ≡ loop_horizon (take n (with_loop_horizons hs (x ∷ loops))) l) at rest

horizon_of-take : (hs : List Horizon) (n buffer : ℕ) → buffer < n → horizon_of (take n hs) buffer ≡ horizon_of hs buffer
horizon_of-take [] zero buffer below = refl
horizon_of-take [] (suc n) buffer below = refl
horizon_of-take (h ∷ hs) zero buffer below = absurd (omega arith)
horizon_of-take (h ∷ hs) (suc n) zero below = refl
horizon_of-take (h ∷ hs) (suc n) (suc buffer) below = horizon_of-take hs n buffer (omega arith)

-- a body that reads earlier buffers alone
instr-take : (hs : List Horizon) (n maps : ℕ) (i : Instr) → IsReadable n maps i → instr_horizon (take n hs) i ≡ instr_horizon hs i
instr-take hs n maps (Port buffer offset) readable = ap (λ (h : Horizon). earlier_by h offset) (horizon_of-take hs n buffer readable.0)
instr-take hs n maps (Win reducer buffer from to map) readable = ap (λ (h : Horizon). earlier_by h to) (horizon_of-take hs n buffer readable.0)
instr-take hs n maps (Const number) readable = refl
instr-take hs n maps Null readable = refl
instr-take hs n maps Argument readable = refl
instr-take hs n maps (One op a) readable = refl
instr-take hs n maps (Two op a b) readable = refl
instr-take hs n maps (If c a b) readable = refl

block-take : (hs : List Horizon) (n maps : ℕ) (block : Block) → AllByRecursion (IsReadable n maps) block
    → block_horizon (take n hs) block ≡ block_horizon hs block
block-take hs n maps [] readable = refl
block-take hs n maps (i ∷ block) readable =
    ap (λ (h : Horizon). earlier h (block_horizon (take n hs) block)) (instr-take hs n maps i readable.0)
    ∙ ap (earlier (instr_horizon hs i)) (block-take hs n maps block readable.1)

-- the horizon of the loop at a place, over all buffers of its code
pub loop_at-is : (code : CodeParts) (hs : List Horizon) (place : ℕ) (l : LoopParts) → length hs ≡ length code.inputs
    → slice_get code.loops place ≡ Some l → AllByRecursion (IsReadable (length code.inputs + place) (length l.maps)) l.body
    → loop_at code hs place ≡ loop_horizon (code_horizons code hs) l
loop_at-is code hs place l many is readable =
    let here = horizon-at hs code.loops place l is in
    let all = code_horizons code hs in
    let at : horizon_of all (length code.inputs + place) ≡ loop_horizon (take (length code.inputs + place) all) l =
    subst (λ (n : ℕ). horizon_of all (n + place) ≡ loop_horizon (take (n + place) all) l) many here in
    at ∙ ap (λ (h : Horizon). over_horizon (Some (record { start = l.lo; end = l.hi })) (grid_horizon l.grid h))
    (block-take all (length code.inputs + place) (length l.maps) l.body readable)

-- where a turn may be made, its body is known at its grid point
pub turn-known : (hs : List Horizon) (l : LoopParts) (start : ℤ) → IsGrid l.grid → l.lo ≤ℤ start → start <ℤ l.hi
    → IsKnownAt (loop_horizon hs l) (start +ℤ pos 1) → IsKnownAt (block_horizon hs l.body) (ceil l.grid (start +ℤ pos 1))
turn-known hs l start grid low high known =
    let span : Span = record { start = l.lo; end = l.hi } in
    let inside : lies_in l.lo l.hi (start +ℤ pos 1) ≡ true = grind (arith, ints) in
    let on = known-inside span (grid_horizon l.grid (block_horizon hs l.body)) (start +ℤ pos 1) known inside in
    known-point l.grid (block_horizon hs l.body) (start +ℤ pos 1) grid.period_low on
