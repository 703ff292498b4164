-- The inputs of a core have different names.
use Rattle.std.proofs.Common.{ℕ, List, [], ◌∷◌, ◌++◌}
use Rattle.std.proofs.lemmas.List.Elements.{Contains-append_left}
use Rattle.tilt_core.specs.Core.{CoreParts, IsCore}
use Rattle.tilt_lexer.specs.Word.{AreDistinct}

-- none of the first names occurs twice, if none of all does
distinct-front : (names more : List (List ℕ)) → AreDistinct (names ++ more) → AreDistinct names
distinct-front [] more distinct = tt
distinct-front (name ∷ names) more distinct =
    (λ among. distinct.0 (Contains-append_left names more name among), distinct-front names more distinct.1)

pub inputs-distinct : (core : CoreParts) → IsCore core → AreDistinct core.inputs
inputs-distinct core is = distinct-front core.inputs core.names is.distinct
