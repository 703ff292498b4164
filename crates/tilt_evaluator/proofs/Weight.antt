-- A number that falls at each step from a definition to its body, to a part of the body, and to the sources before the definition.
use Rattle.std.proofs.Common.{◌≡◌, ap, ℕ, zero, suc, ◌+◌, ◌<◌, ◌≤◌, List, [], ◌∷◌, length, get_or, take, arith}
use Rattle.tilt_core.specs.CoreTree.{Definition, nodes}

-- the nodes of the bodies, and five for each definition
abbrev pub weight : List Definition → ℕ
weight [] = 0
weight (def ∷ defs) = nodes def.body + 5 + weight defs

weight-front : (defs : List Definition) (place : ℕ) (other : Definition) → place < length defs → weight (take place defs) + (nodes (get_or defs place other).body + 5) ≤ weight defs
weight-front [] place other h = absurd (omega arith)
weight-front (def ∷ defs) zero other h = omega arith
weight-front (def ∷ defs) (suc place) other h = omega (arith, weight-front defs place other (omega arith))

-- the definitions before one, and that one, weigh no more than all
pub weight-take : (defs : List Definition) (place : ℕ) (def : Definition) → place < length defs → def ≡ get_or defs place def → weight (take place defs) + (nodes def.body + 5) ≤ weight defs
weight-take defs place def h is =
    let same = ap (λ (d : Definition). nodes d.body) is in
    omega (arith, weight-front defs place def h, same)
