-- The listing of a code (our own rule): its inputs, and each loop with its maps and its body.
use Rattle.std.specs.Prelude.{ℕ, suc, List, [], ◌∷◌, ◌++◌, map, flat_map, codes}
use Rattle.tilt_code.specs.Code.{Block, LoopParts, CodeParts}
use Rattle.tilt_code.specs.Line.{line_text}
use Rattle.tilt_code.specs.declared.line.Line.{Line}
use Rattle.tilt_code.specs.declared.line.Line.TheVariants as line

-- the instructions of a block from a register on
abbrev pub block_lines : ℕ → Block → List Line
block_lines register [] = []
block_lines register (i ∷ is) = line.Step register i ∷ block_lines (suc register) is

-- a map
abbrev pub map_lines : Block → List Line
map_lines block = line.Map ∷ (block_lines 0 block ++ line.End ∷ [])

-- a loop
abbrev pub loop_lines : LoopParts → List Line
loop_lines loop = line.Head loop.lo loop.hi loop.grid ∷ (flat_map map_lines loop.maps ++ block_lines 0 loop.body ++ line.End ∷ [])

-- the lines of a code
abbrev pub code_lines : CodeParts → List Line
code_lines code = line.Title ∷ (map line.Input code.inputs ++ flat_map loop_lines code.loops)

-- the text of lines, each of which is ended by LF
abbrev pub ended : List (List ℕ) → List ℕ
ended = flat_map (λ text. text ++ codes "\n")

-- the listing of a code
abbrev pub listing : CodeParts → List ℕ
listing code = ended (map line_text (code_lines code))
