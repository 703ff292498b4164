-- One turn after the other.
use Rattle.std.proofs.Common.{◌≡◌, ℤ, pos, ◌+ℤ◌, ◌≤ℤ◌, ◌<ℤ◌, List, [], ◌∷◌, ◌++◌, append_assoc, sym, ap, ◌∙◌, subst, arith}
use Rattle.std.proofs.lemmas.Int.{ints}
use Rattle.std.specs.List.{AllByRecursion}
use Rattle.tilt_base.proofs.GridPoints.{ceil-IsCeil}
use Rattle.tilt_base.specs.Grid.{GridPoints, IsGrid, ceil}
use Rattle.tilt_code.proofs.Turns.{turn-ends, turns_until-first}
use Rattle.tilt_code.specs.Code.{Block}
use Rattle.tilt_code.specs.Turn.{turn, turns_until}
use Rattle.tilt_code.specs.declared.instr.Instr.{Instr}
use Rattle.tilt_code.specs.declared.instr.Instr.TheVariants.{Const, Null, Argument, Port, Win, One, Two, If}
use Rattle.tilt_stream.specs.Snap.{Snapshot}
use Rattle.tilt_stream.specs.Stream.{Stream}
use Rattle.tilt_turn.specs.Ready.{IsKept}

-- a turn ends above its start, and not above the end of the stretch
pub turn-bounds : (body : Stream) (grid : GridPoints) (hi start : ℤ) (s : Snapshot) → IsGrid grid → start <ℤ hi
    → s ≡ turn body grid hi start → (start <ℤ s.end) × (s.end ≤ℤ hi)
turn-bounds body grid hi start s valid some is =
    subst (λ (t : Snapshot). (start <ℤ t.end) × (t.end ≤ℤ hi)) (sym is) (turn-ends body grid valid hi start some)

-- one turn more
pub turns-step : (body : Stream) (grid : GridPoints) (hi start end : ℤ) (list more all : List Snapshot) (s : Snapshot)
    → IsGrid grid → start <ℤ hi → s ≡ turn body grid hi start → end ≡ s.end
    → more ≡ list ++ s ∷ [] → list ++ turns_until body grid hi start ≡ all
    → more ++ turns_until body grid hi end ≡ all
turns-step body grid hi start end list more all s valid some is ends made before =
    ap (λ (ss : List Snapshot). ss ++ turns_until body grid hi end) made
    ∙ append_assoc list (s ∷ []) (turns_until body grid hi end)
    ∙ ap (λ (t : ℤ). list ++ s ∷ turns_until body grid hi t) ends
    ∙ ap (λ (t : Snapshot). list ++ t ∷ turns_until body grid hi t.end) is
    ∙ ap (λ (ss : List Snapshot). list ++ ss) (sym (turns_until-first body grid valid hi start some))
    ∙ before

-- a later turn isn't at an earlier grid point
pub points-rise : (grid : GridPoints) (start later : ℤ) → IsGrid grid → start ≤ℤ later
    → ceil grid (start +ℤ pos 1) ≤ℤ ceil grid (later +ℤ pos 1)
points-rise grid start later valid onwards =
    let here = ceil-IsCeil grid (start +ℤ pos 1) valid.period_low in
    let there = ceil-IsCeil grid (later +ℤ pos 1) valid.period_low in
    let above = there.not_below in
    here.least (ceil grid (later +ℤ pos 1)) there.on_grid (omega (arith, ints))

-- where nothing is forgotten, all that a leaf reads is kept
leaf-kept : (lists : List (List Snapshot)) (point : ℤ) (i : Instr) → IsKept lists [] point i
leaf-kept lists point (Const number) = tt
leaf-kept lists point Null = tt
leaf-kept lists point Argument = tt
leaf-kept lists point (Port buffer offset) = omega arith
leaf-kept lists point (Win reducer buffer from to number) = omega arith
leaf-kept lists point (One op a) = tt
leaf-kept lists point (Two op a b) = tt
leaf-kept lists point (If c a b) = tt

pub all-kept : (lists : List (List Snapshot)) (point : ℤ) (block : Block) → AllByRecursion (IsKept lists [] point) block
all-kept lists point [] = tt
all-kept lists point (i ∷ block) = (leaf-kept lists point i, all-kept lists point block)
