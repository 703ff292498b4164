-- Which inputs a pipeline reads.
use Rattle.std.specs.Prelude.{ℕ, List, [], ◌∷◌, ◌++◌, if◌then◌else◌}
use Rattle.std.specs.Str.{bytes_eq}
use Rattle.std.specs.List.{list_any}
use Rattle.tilt_operators.specs.Flow.{StepTree, Join, FlowTree}

-- names with one more, unless it is one of them
abbrev pub with_name : List (List ℕ) → List ℕ → List (List ℕ)
with_name names name = if list_any (λ other. bytes_eq other name) names then names else names ++ name ∷ []

-- names with those that steps read, each once, in the order of their first mention
abbrev pub with_steps : List (List ℕ) → List StepTree → List (List ℕ)
with_steps names [] = names
with_steps names (Join name e ∷ steps) = with_steps (with_name names name) steps
with_steps names (s ∷ steps) = with_steps names steps

-- the names of the inputs of a pipeline
abbrev pub inputs_of : FlowTree → List (List ℕ)
inputs_of flow = with_steps (flow.first ∷ []) flow.steps
