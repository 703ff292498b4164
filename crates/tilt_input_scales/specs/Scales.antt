-- The scales of a query's inputs (our own rule): of those with names, and of all others.
use Rattle.std.specs.Prelude.{ℕ, ◌^◌, ◌<◌, ◌≤◌, if◌then◌else◌, List, [], ◌∷◌}
use Rattle.std.specs.List.{AllByRecursion}
use Rattle.std.specs.Str.{bytes_eq}
use Rattle.tilt_input_scales.specs.declared.input_scale.InputScale.{InputScale}

-- from 1 to 10^18
pub record IsInputScale (scale : ℕ) : Type 0 where
  pub positive : 0 < scale
  pub small : scale ≤ 10 ^ 18

pub record ScalesValue : Type 0 where
  pub named : List InputScale
  pub others : ℕ

-- each of them is one
pub record AreScales (scales : ScalesValue) : Type 0 where
  pub named : AllByRecursion (λ (one : InputScale). IsInputScale one.scale) scales.named
  pub others : IsInputScale scales.others

-- the scale of the input with a name: the first one with that name, or else that of the others
abbrev pub scale_among : ℕ → List InputScale → List ℕ → ℕ
scale_among others [] name = others
scale_among others (one ∷ scales) name = if bytes_eq one.name name then one.scale else scale_among others scales name

abbrev pub scale_named : ScalesValue → List ℕ → ℕ
scale_named scales name = scale_among scales.others scales.named name
