-- The instructions of a body that a turn goes over, each with the number of its register.
use Rattle.std.specs.Prelude.{ℕ, suc, ℤ, Bool, true, false, if◌then◌else◌, List, [], ◌∷◌, Option, None, ◌≡◌, ◌<◌, pos, get_or, length, set}
use Rattle.tilt_code.specs.Body.{instr_cell}
use Rattle.tilt_code.specs.Code.{Block}
use Rattle.tilt_code.specs.declared.instr.Instr.{Instr}
use Rattle.tilt_code.specs.declared.instr.Instr.TheVariants.{Const, Port, Win, One, Two, If}
use Rattle.tilt_turn.specs.Ready.{NamesBelow}
use Rattle.tilt_turn.specs.declared.computed.Listed.{Listed}

-- those that read a buffer
abbrev pub reads : Instr → Bool
reads (Port buffer offset) = true
reads (Win reducer buffer from to number) = true
reads other = false

-- those that are computed by registers before them
abbrev pub computes : Instr → Bool
computes (One op a) = true
computes (Two op a b) = true
computes (If c a b) = true
computes other = false

-- those of a block that pass a test, if the first of the block fills that register
abbrev pub picked : (Instr → Bool) → ℕ → Block → List Listed
picked test place [] = []
picked test place (i ∷ block) =
    if test i then record { place = place; instr = i } ∷ picked test (suc place) block else picked test (suc place) block

-- one that fills one of so many registers, and names some of them
abbrev pub IsWithin : ℕ → Listed → Type 0
IsWithin registers i = (i.place < registers) × NamesBelow registers i.instr

-- registers of which these were computed, one after the other
abbrev pub computed_by : List Listed → List (Option ℤ) → List (Option ℤ)
computed_by [] cells = cells
computed_by (i ∷ rest) cells = computed_by rest (set cells i.place (instr_cell (λ leaf. None) cells i.instr))

-- registers of which those of these numbers were written
abbrev pub written : Option ℤ → List ℕ → List (Option ℤ) → List (Option ℤ)
written cell [] cells = cells
written cell (place ∷ rest) cells = written cell rest (set cells place cell)

-- registers in which those of a block that read a buffer have the cells of their leaves
abbrev pub AreRead : (Instr → Option ℤ) → Block → List (Option ℤ) → Type 0
AreRead leaf body cells = (place : ℕ) → place < length body → reads (get_or body place (Const (pos 0))) ≡ true
    → get_or cells place None ≡ leaf (get_or body place (Const (pos 0)))
