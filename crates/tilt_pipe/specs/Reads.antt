-- Which ticks of a buffer a loop reads (the TiLT paper's look-back and look-ahead of one expression; our own rule).
use Rattle.std.specs.Prelude.{ℕ, ℤ, pos, ◌+ℤ◌, ◌==◌, if◌then◌else◌, List, [], ◌∷◌, ◌++◌, Option, Some, None}
use Rattle.std.specs.Int.{int_max, int_min}
use Rattle.tilt_base.specs.Grid.{ceil}
use Rattle.tilt_code.specs.Code.{Block, LoopParts}
use Rattle.tilt_code.specs.declared.instr.Instr.{Instr}
use Rattle.tilt_code.specs.declared.instr.Instr.TheVariants.{Port, Win}
use Rattle.tilt_pipe.specs.declared.read.Read.{Read}

-- what an instruction reads: a port one tick, and a window those after its start up to its end
abbrev pub reads_of : Instr → List Read
reads_of (Port buffer offset) = record { buffer = buffer; first = offset; last = offset } ∷ []
reads_of (Win reducer buffer from to number) = record { buffer = buffer; first = from +ℤ pos 1; last = to } ∷ []
reads_of other = []

-- what a body reads
abbrev pub body_reads : Block → List Read
body_reads [] = []
body_reads (instr ∷ block) = reads_of instr ++ body_reads block

-- the grid point at which the turn that begins at a start has its value
abbrev pub turn_point : LoopParts → ℤ → ℤ
turn_point l start = ceil l.grid (start +ℤ pos 1)

-- the earlier of two ticks, if both are there
abbrev pub earlier : Option ℤ → Option ℤ → Option ℤ
earlier None b = b
earlier (Some a) None = Some a
earlier (Some a) (Some b) = Some (int_min a b)

-- the later of two ticks, if both are there
abbrev pub later : Option ℤ → Option ℤ → Option ℤ
later None b = b
later (Some a) None = Some a
later (Some a) (Some b) = Some (int_max a b)

-- the first tick of a buffer that these read at a grid point; none if none reads it
abbrev pub first_tick : ℕ → ℤ → List Read → Option ℤ
first_tick buffer point [] = None
first_tick buffer point (r ∷ reads) =
    let rest = first_tick buffer point reads in
    if r.buffer == buffer then earlier (Some (point +ℤ r.first)) rest else rest

-- the last tick of a buffer that these read at a grid point
abbrev pub last_tick : ℕ → ℤ → List Read → Option ℤ
last_tick buffer point [] = None
last_tick buffer point (r ∷ reads) =
    let rest = last_tick buffer point reads in
    if r.buffer == buffer then later (Some (point +ℤ r.last)) rest else rest
