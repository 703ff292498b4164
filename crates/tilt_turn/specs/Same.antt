-- When lists are the same, or are alike, as far as a loop reads them at a grid point.
use Rattle.std.specs.Prelude.{◌≡◌, ℤ, ◌+ℤ◌, ◌≤ℤ◌, List, [], get_or, ⊤}
use Rattle.tilt_stream.specs.Agreement.{IsSameUpTo}
use Rattle.tilt_code.specs.declared.instr.Instr.{Instr}
use Rattle.tilt_code.specs.declared.instr.Instr.TheVariants.{Port, Win}
use Rattle.tilt_stream.specs.Snap.{Snapshot, ended_below}
use Rattle.tilt_stream.specs.Stream.{cell_at, mark_at}

-- the same of the buffer that a leaf reads, up to the last tick that it reads at a grid point
abbrev pub IsSameFor : List (List Snapshot) → List (List Snapshot) → ℤ → Instr → Type 0
IsSameFor a b point (Port buffer offset) = IsSameUpTo (point +ℤ offset) (get_or a buffer []) (get_or b buffer [])
IsSameFor a b point (Win reducer buffer from to number) = IsSameUpTo (point +ℤ to) (get_or a buffer []) (get_or b buffer [])
IsSameFor a b point other = ⊤

-- two lists that are alike up to a tick: as many snapshots end below each tick up to it, with the same cells and marks. Above it the second
-- may have other marks than the first
pub record IsAlikeUpTo (last : ℤ) (a b : List Snapshot) : Type 0 where
  pub ended : (tick : ℤ) → tick ≤ℤ last → ended_below tick a ≡ ended_below tick b
  pub cells : (tick : ℤ) → tick ≤ℤ last → cell_at a tick ≡ cell_at b tick
  pub marks : (tick : ℤ) → tick ≤ℤ last → mark_at a tick ≡ mark_at b tick

-- alike in the buffer that a leaf reads, up to the last tick that it reads at a grid point
abbrev pub IsAlikeFor : List (List Snapshot) → List (List Snapshot) → ℤ → Instr → Type 0
IsAlikeFor a b point (Port buffer offset) = IsAlikeUpTo (point +ℤ offset) (get_or a buffer []) (get_or b buffer [])
IsAlikeFor a b point (Win reducer buffer from to number) = IsAlikeUpTo (point +ℤ to) (get_or a buffer []) (get_or b buffer [])
IsAlikeFor a b point other = ⊤
