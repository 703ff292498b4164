-- Over buffers that change only at marks, the body of a loop changes only at marks, and so does the loop.
use Rattle.std.proofs.Common.{◌≡◌, ℕ, zero, suc, ℤ, pos, ◌-ℤ◌, false, List, [], ◌∷◌, ◌++◌, get_or, Option, None, refl, ap, ◌∙◌}
use Rattle.std.specs.List.{AllByRecursion}
use Rattle.std.proofs.lemmas.Bool.{or_parts}
use Rattle.tilt_code.specs.Body.{instr_cell, with_registers, last_or, mapped, leaf_of, leaf_marked, body_of}
use Rattle.tilt_code.specs.Code.{Block, LoopParts}
use Rattle.tilt_code.specs.declared.instr.Instr.{Instr}
use Rattle.tilt_code.specs.declared.instr.Instr.TheVariants.{Const, Null, Argument, Port, Win, One, Two, If}
use Rattle.tilt_code.specs.Meaning.{IsTimed, loop_of}
use Rattle.tilt_stream.proofs.Constancy.{constant-changes, shifted-changes, on_grid-changes, restricted-changes}
use Rattle.tilt_stream.proofs.Mapped.{windowed_by-changes}
use Rattle.tilt_stream.specs.Agreement.{ChangesOnlyAtMarks}
use Rattle.tilt_stream.specs.Domain.{on_grid}
use Rattle.tilt_stream.specs.Pointwise.{nothing}
use Rattle.tilt_stream.specs.Stream.{Stream}

-- each of the buffers changes only at marks, and so does what isn't there
get_or-changes : (xs : List Stream) → AllByRecursion ChangesOnlyAtMarks xs → (buffer : ℕ) → ChangesOnlyAtMarks (get_or xs buffer nothing)
get_or-changes [] h buffer = constant-changes None
get_or-changes (x ∷ xs) h zero = h.0
get_or-changes (x ∷ xs) h (suc buffer) = get_or-changes xs h.1 buffer

leaf_of-changes : (xs : List Stream) (maps : List Block) → AllByRecursion ChangesOnlyAtMarks xs → (instr : Instr)
    → ChangesOnlyAtMarks (leaf_of xs maps instr)
leaf_of-changes xs maps h (Port buffer offset) = shifted-changes (get_or xs buffer nothing) offset (get_or-changes xs h buffer)
leaf_of-changes xs maps h (Win reducer buffer from to number) =
    windowed_by-changes (mapped maps number) reducer from to (get_or xs buffer nothing) (get_or-changes xs h buffer)
leaf_of-changes xs maps h (Const number) = constant-changes None
leaf_of-changes xs maps h Null = constant-changes None
leaf_of-changes xs maps h Argument = constant-changes None
leaf_of-changes xs maps h (One op a) = constant-changes None
leaf_of-changes xs maps h (Two op a b) = constant-changes None
leaf_of-changes xs maps h (If c a b) = constant-changes None

-- an instruction gives the same by the same leaf
pub instr_cell-same : (leaf other : Instr → Option ℤ) (cells : List (Option ℤ)) (instr : Instr) → leaf instr ≡ other instr
    → instr_cell leaf cells instr ≡ instr_cell other cells instr
instr_cell-same leaf other cells (Port buffer offset) is = is
instr_cell-same leaf other cells (Win reducer buffer from to number) is = is
instr_cell-same leaf other cells (Const number) is = refl
instr_cell-same leaf other cells Null is = refl
instr_cell-same leaf other cells Argument is = is
instr_cell-same leaf other cells (One op a) is = refl
instr_cell-same leaf other cells (Two op a b) is = refl
instr_cell-same leaf other cells (If c a b) is = refl

module _ (xs : List Stream) (maps : List Block) (h : AllByRecursion ChangesOnlyAtMarks xs) (tick : ℤ) where
  -- the cells of the leaves at a tick
  abbrev leaves_at : ℤ → Instr → Option ℤ
  leaves_at t instr = (leaf_of xs maps instr).cell t

  with_registers-same : (cells : List (Option ℤ)) (block : Block) → leaf_marked xs maps tick block ≡ false
      → with_registers (leaves_at tick) cells block ≡ with_registers (leaves_at (tick -ℤ pos 1)) cells block
  with_registers-same cells [] clear = refl
  with_registers-same cells (instr ∷ block) clear =
      let none = or_parts ((leaf_of xs maps instr).mark tick) (leaf_marked xs maps tick block) clear in
      let leaf = (leaf_of-changes xs maps h instr).unchanged tick none.0 in
      ap (λ (cell : Option ℤ). with_registers (leaves_at tick) (cells ++ cell ∷ []) block)
      (instr_cell-same (leaves_at tick) (leaves_at (tick -ℤ pos 1)) cells instr leaf)
      ∙ with_registers-same (cells ++ instr_cell (leaves_at (tick -ℤ pos 1)) cells instr ∷ []) block none.1

-- the body of a loop
pub body_of-changes : (xs : List Stream) (l : LoopParts) → AllByRecursion ChangesOnlyAtMarks xs → ChangesOnlyAtMarks (body_of xs l)
body_of-changes xs l h = record {
  unchanged = λ tick clear. ap (λ (cells : List (Option ℤ)). last_or None cells) (with_registers-same xs l.maps h tick [] l.body clear);
}

-- a loop
pub loop_of-changes : (xs : List Stream) (l : LoopParts) → IsTimed l → AllByRecursion ChangesOnlyAtMarks xs
    → ChangesOnlyAtMarks (loop_of xs l)
loop_of-changes xs l timed h =
    restricted-changes l.lo l.hi (on_grid l.grid (body_of xs l)) (on_grid-changes l.grid (body_of xs l) timed.grid (body_of-changes xs l h))
