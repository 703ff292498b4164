-- How far a query reads and how it is planned, shown in lines (our own rule). Each line ends in LF; numbers are shortest decimals.
use Rattle.std.specs.Prelude.{ℕ, suc, ◌+◌, ℤ, Bool, true, false, if◌then◌else◌, List, [], ◌∷◌, ◌++◌, length, Option, Some, None, codes}
use Rattle.std.specs.Fmt.{decimal, signed_decimal}
use Rattle.tilt_bounds.specs.Margins.{MarginsParts, need_at}
use Rattle.tilt_fuse.specs.FusedTree.{PlannedLoop}
use Rattle.tilt_fuse.specs.Plan.{plan_of, has_loop}
use Rattle.tilt_core.specs.Core.{CoreParts}
use Rattle.tilt_core.specs.Needs.{Need}

-- a number after a blank
abbrev pub spaced : ℤ → List ℕ
spaced number = codes " " ++ signed_decimal number

-- the line that begins with a word, followed by the number of ticks back and the number ahead
abbrev pub reach_line : List ℕ → ℤ → ℤ → List ℕ
reach_line front back ahead = front ++ spaced back ++ spaced ahead ++ codes "\n"

-- the line of a source: that it isn't used, or a word for it and its need
abbrev pub source_line : List ℕ → List ℕ → Option Need → List ℕ
source_line front word None = front ++ codes " unused\n"
source_line front word (Some n) = reach_line (front ++ word) n.back n.ahead

-- the line of an input
abbrev pub input_line : List ℕ → Option Need → List ℕ
input_line name need = source_line (codes "input " ++ name) [] need

-- the line of a definition, which has a loop in this plan or is merged where it is used
abbrev pub let_line : List ℕ → Bool → Option Need → List ℕ
let_line name loop need = source_line (codes "let " ++ name) (if loop then codes " loop" else codes " merged") need

-- the lines of inputs, of which the first is that source
abbrev pub input_lines : List (Option Need) → ℕ → List (List ℕ) → List ℕ
input_lines needs source [] = []
input_lines needs source (name ∷ names) = input_line name (need_at needs source) ++ input_lines needs (suc source) names

-- the lines of named definitions, of which the first is at a place after this number of inputs
abbrev pub let_lines : List PlannedLoop → List (Option Need) → ℕ → ℕ → List (List ℕ) → List ℕ
let_lines loops needs inputs place [] = []
let_lines loops needs inputs place (name ∷ names) =
    let_line name (has_loop loops place) (need_at needs (inputs + place)) ++ let_lines loops needs inputs (suc place) names

-- the line of the numbers of loops, with fusion and without
abbrev pub loops_line : ℕ → ℕ → List ℕ
loops_line fused plain = codes "loops " ++ decimal fused ++ codes " " ++ decimal plain ++ codes "\n"

-- what is shown of a query: its look-back and look-ahead, each input and each definition in order, and how many loops it has
abbrev pub explained : CoreParts → MarginsParts → List ℕ
explained core margins =
    let fused = plan_of core true in
    reach_line (codes "reach") margins.back margins.ahead
    ++ input_lines margins.needs 0 core.inputs
    ++ let_lines fused margins.needs (length core.inputs) 0 core.names
    ++ codes "emit loop 0 0\n"
    ++ loops_line (length fused) (length (plan_of core false))
